use Rattle.std.proofs.Common.{◌∙◌, refl, subst, sym}
use Rattle.assuan_line.{specs.{Reading.HasRead, Skipping.{IsUndecided, ReadsOn}, declared.reader.Took.Took}, proofs.ReadingOn.{has_read, stops_no_line, skipping_none, skipping_more, read_on}}
use Rattle.assuan_line.proofs.filter.next_after_skipped.Goals as goal

pub loop-line-init : goal.loop-line-init
loop-line-init g c = record {
  going = c.requires;
  skipping = λ before kept. skipping_none g.F.LineFilter.skips before (g.F.LineFilter.keeps c.args.filter.now) c.args.reader.now (g.S.Source.input c.args.source.now) kept;
  limit = refl;
  beside = refl;
}

pub loop-line-preserved-else-not-skip : goal.loop-line-preserved-else-not-skip
loop-line-preserved-else-not-skip g c =
    let i = c.loop-line.invariant in
    let e = c.next-took.ensures in
    let skip = c.skip.ensures in
    let read = has_read _ _ _ _ _ i.going e.known e.budget e.needed e.progress e.spent e.fault e.faults e.ended in
    record {
      going = rw c.in-Line.is at e.ended;
      skipping = λ before kept. skipping_more _ before _ (g.F.LineFilter.keeps c.skip.new.self) _ _ _ _ _ _ _ (i.skipping before kept) read c.in-Line.line c.in-Line.is
          (λ lines keeps. sym (skip.known lines keeps) ∙ c.if-not-skip.false) (λ lines keeps. skip.skipped lines keeps c.if-not-skip.false);
      limit = skip.limit ∙ i.limit;
      beside = e.beside ∙ i.beside;
    }

pub returns-in_default : goal.returns-in_default
returns-in_default g c =
    let i = c.loop-line.invariant in
    let e = c.next-took.ensures in
    let read = has_read _ _ _ _ _ i.going e.known e.budget e.needed e.progress e.spent e.fault e.faults e.ended in
    record {
      read = λ before kept. read_on _ before _ (g.F.LineFilter.keeps c.loop-line.filter) _ _ _ _ _ _ _ (i.skipping before kept) read
          (λ lines keeps. stops_no_line g.F.LineFilter.skips lines c.next-took.result c.in_default.not-Line) (λ lines keeps. keeps);
      ended = e.ended;
      limit = i.limit;
      beside = e.beside ∙ i.beside;
    }

pub returns-then-not-skip-clause-read : goal.returns-then-not-skip-clause-read
returns-then-not-skip-clause-read g c = λ before kept.
    let i = c.loop-line.invariant in
    let e = c.next-took.ensures in
    let skip = c.skip.ensures in
    let read = has_read _ _ _ _ _ i.going e.known e.budget e.needed e.progress e.spent e.fault e.faults e.ended in
    subst (λ (took : Took). HasRead (IsUndecided g.F.LineFilter.skips before) (ReadsOn g.F.LineFilter.skips before (g.F.LineFilter.keeps c.skip.new.self))
    c.args.reader.now (g.S.Source.input c.args.source.now) took c.next-took.new.self (g.S.Source.input c.next-took.new.source)) c.in-Line.is
    (read_on _ before _ (g.F.LineFilter.keeps c.skip.new.self) _ _ _ _ _ _ _ (i.skipping before kept) read
    (λ lines keeps. rw c.in-Line.is (sym (skip.known lines keeps) ∙ c.if-not-skip.true)) (λ lines keeps. skip.stays lines keeps c.if-not-skip.true))
