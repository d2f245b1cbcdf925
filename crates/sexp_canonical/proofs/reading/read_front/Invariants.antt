use Rattle.std.proofs.Common.{length, ◌-◌}
use Rattle.sexp_canonical.{specs.Adding.lists_of, proofs.Open.IsOpenAt}
use Rattle.sexp_canonical.proofs.reading.read_front.Given as goal

abbrev pub invariant-loop-place : goal.invariant-loop-place
invariant-loop-place l = IsOpenAt l.text l.place (lists_of l.lists.items)

abbrev pub decreases-loop-place : goal.decreases-loop-place
decreases-loop-place l = length l.text - l.place
