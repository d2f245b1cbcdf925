use Rattle.std.proofs.Common.{◌≡◌, List, ℕ, None}
use Rattle.assuan_line.{specs.Next.held, proofs.ReadingOn.IsSkipping}
use Rattle.assuan_line.proofs.filter.next_after_skipped.Given as goal

abbrev pub invariant-loop-line : goal.invariant-loop-line
invariant-loop-line g l =
    record {
      going : l.reader.ended ≡ None;
      skipping : (before : List (List ℕ)) → g.F.LineFilter.keeps l.fn.filter before → IsSkipping g.F.LineFilter.skips before (g.F.LineFilter.keeps l.filter) l.fn.reader (g.S.Source.input l.fn.source) l.reader (g.S.Source.input l.source);
      limit : g.F.LineFilter.limit l.filter ≡ g.F.LineFilter.limit l.fn.filter;
      beside : g.S.Source.beside_input l.source ≡ g.S.Source.beside_input l.fn.source;
    }

abbrev pub decreases-loop-line : goal.decreases-loop-line
decreases-loop-line g l = held l.reader
