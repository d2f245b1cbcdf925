use Rattle.std.proofs.Common.{◌+◌, ◌*◌}
use Rattle.sexp_canonical.{specs.{Tree.node_count, View.trees}, proofs.Copied.{IsCopiedSoFar, steps_left}}
use Rattle.sexp_canonical.proofs.copying.copy_of_list.Given as goal

abbrev pub invariant-loop-item : goal.invariant-loop-item
invariant-loop-item l = IsCopiedSoFar l.outer.items l.copied.items l.left l.fn.items

abbrev pub decreases-loop-item : goal.decreases-loop-item
decreases-loop-item l = 2 * node_count (trees l.left) + 1 + steps_left l.outer.items
