use Rattle.std.proofs.Common.{◌≡◌, refl, ap, sym, ◌∙◌, subst}
use Rattle.assuan_line.{specs.{Ahead.bytes_ahead, Stops.{reader_at, ReadAhead}, declared.buffer.Ahead.Ahead}, proofs.Reading.{read_then, undecided_before, decides_since, decides_ahead}}
use Rattle.assuan_line.proofs.reader.take_line.Goals as goal

pub returns-in_default : goal.returns-in_default
returns-in_default g c =
    let i = c.loop-took.invariant in
    let e = c.take_line.ensures in
    let middle = reader_at c.loop-took.ahead c.loop-took.left in
    let after = reader_at c.take_line.new.self c.loop-took.left in
    record {
      taken = record {
        middle = middle;
        read = i.read;
        decides =
            decides_ahead middle after (g.S.Source.input c.args.source.now) (g.S.Source.input c.loop-took.source) c.take_line.result
            c.in_default.not-End e.took e.line (λ some. ap bytes_ahead (e.others some));
        budget = refl {a = c.loop-took.left};
      };
      alone = i.alone;
      beside = i.beside;
      within = e.within;
    }

pub returns-in-Err-clause-taken : goal.returns-in-Err-clause-taken
returns-in-Err-clause-taken g c =
    let i = c.loop-took.invariant in
    let e = c.read_ahead.ensures in
    let same : c.take_line.new.self ≡ c.loop-took.ahead = c.in-End.ensures.others refl in
    let next = subst (λ (a : Ahead). ReadAhead (reader_at a c.loop-took.left) (g.S.Source.input c.loop-took.source) (reader_at c.read_ahead.new.ahead c.read_ahead.new.left) (g.S.Source.input c.read_ahead.new.source)) same e.read in
    let after = reader_at c.read_ahead.new.ahead c.read_ahead.new.left in
    record {
      middle = after;
      read = read_then _ (reader_at c.loop-took.ahead c.loop-took.left) after _ (g.S.Source.input c.loop-took.source) _ i.read next;
      decides = decides_since after after _ (g.S.Source.input c.args.source.now) (g.S.Source.input c.loop-took.source) (g.S.Source.input c.read_ahead.new.source) i.read.faults c.in-Err.ensures.stop;
      budget = refl {a = c.read_ahead.new.left};
    }

pub returns-in-Err-clause-alone : goal.returns-in-Err-clause-alone
returns-in-Err-clause-alone g c = λ decided. absurd (undecided_before _ _ _ _ c.loop-took.invariant.read (sym c.in-End.ensures.took) decided)

pub loop-took-preserved : goal.loop-took-preserved
loop-took-preserved g c =
    let i = c.loop-took.invariant in
    let e = c.read_ahead.ensures in
    let same : c.take_line.new.self ≡ c.loop-took.ahead = c.in-End.ensures.others refl in
    let next = subst (λ (a : Ahead). ReadAhead (reader_at a c.loop-took.left) (g.S.Source.input c.loop-took.source) (reader_at c.read_ahead.new.ahead c.read_ahead.new.left) (g.S.Source.input c.read_ahead.new.source)) same e.read in
    record {
      read = read_then _ (reader_at c.loop-took.ahead c.loop-took.left) (reader_at c.read_ahead.new.ahead c.read_ahead.new.left) _ (g.S.Source.input c.loop-took.source) _ i.read next;
      alone = λ decided. absurd (undecided_before _ _ _ _ i.read (sym c.in-End.ensures.took) decided);
      beside = e.beside ∙ i.beside;
      within = e.within;
    }
