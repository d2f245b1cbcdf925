use Rattle.std.proofs.Common.{◌≡◌, ◌≢◌}
use Rattle.assuan_line.specs.{Ahead.{bytes_ahead, IsWithin}, Next.next_of, Stops.{reader_at, ReadAhead}, declared.reader.Took.TheVariants.End}
use Rattle.assuan_line.proofs.reader.take_line.Given as goal

-- the bytes taken so far are ahead, and the source is as it was unless they were needed
abbrev pub invariant-loop-took : goal.invariant-loop-took
invariant-loop-took g l =
    record {
      read : ReadAhead (reader_at l.fn.ahead l.fn.left) (g.S.Source.input l.fn.source) (reader_at l.ahead l.left) (g.S.Source.input l.source);
      alone : next_of (bytes_ahead l.fn.ahead) ≢ End → l.source ≡ l.fn.source;
      beside : g.S.Source.beside_input l.source ≡ g.S.Source.beside_input l.fn.source;
      within : IsWithin l.ahead;
    }

abbrev pub decreases-loop-took : goal.decreases-loop-took
decreases-loop-took g l = l.left
