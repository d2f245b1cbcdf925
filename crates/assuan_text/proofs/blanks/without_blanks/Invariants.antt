use Rattle.std.proofs.Common.{◌≡◌, ◌≤◌, length}
use Rattle.assuan_text.specs.Blanks.{without_blanks}
use Rattle.assuan_text.proofs.blanks.without_blanks.Given as goal

abbrev pub invariant-loop-rest : goal.invariant-loop-rest
invariant-loop-rest l =
    record {
      same : without_blanks l.rest ≡ without_blanks l.fn.bytes;
      shorter : length l.rest ≤ length l.fn.bytes;
    }

abbrev pub decreases-loop-rest : goal.decreases-loop-rest
decreases-loop-rest l = length l.rest
