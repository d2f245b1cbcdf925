use Rattle.std.proofs.Common.{length}
use Rattle.sexp_canonical.specs.Adding.{lists_of}
use Rattle.sexp_advanced.proofs.Open.{IsOpenAt}
use Rattle.sexp_advanced.proofs.reading.read_front.Given as goal

abbrev pub invariant-loop-lists : goal.invariant-loop-lists
invariant-loop-lists l = IsOpenAt l.text (lists_of l.lists.items) l.rest

abbrev pub decreases-loop-lists : goal.decreases-loop-lists
decreases-loop-lists l = length l.rest
