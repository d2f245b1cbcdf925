use Rattle.std.proofs.Common.{◌≡◌, take}
use Rattle.sexp_canonical.specs.View.{trees}
use Rattle.sexp_keys.proofs.key_list.copies_of.Given as goal

abbrev pub invariant-loop-tree : goal.invariant-loop-tree
invariant-loop-tree l = trees l.copies.items ≡ trees (take l.tree-index l.lists)
