use Rattle.std.proofs.Common.{length}
use Rattle.sexp_canonical.{specs.View.trees, proofs.Measured.IsMeasuredTo}
use Rattle.sexp_canonical.proofs.measuring.+room_behind.Given as goal

abbrev pub decreases-room_behind : goal.decreases-room_behind
decreases-room_behind l = l.levels

abbrev pub invariant-loop-item : goal.invariant-loop-item
invariant-loop-item l = IsMeasuredTo (trees l.items) (trees l.rest) l.levels l.room l.left

abbrev pub decreases-loop-item : goal.decreases-loop-item
decreases-loop-item l = length l.rest
