use Rattle.std.proofs.Common.{◌≡◌, ◌++◌}
use Rattle.sexp_canonical.specs.{Spelling.spelling_of, Writing.{rest_of, steps_of, begun_lists}}
use Rattle.sexp_canonical.proofs.writing.append.Given as goal

abbrev pub invariant-loop-items : goal.invariant-loop-items
invariant-loop-items l = l.text ++ rest_of (begun_lists l.begun.items) ≡ l.fn.text ++ spelling_of l.tree

abbrev pub decreases-loop-items : goal.decreases-loop-items
decreases-loop-items l = steps_of (begun_lists l.begun.items)
