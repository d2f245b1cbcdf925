use Rattle.std.{proofs.Common.{◌≡◌, ◌++◌, take}, specs.List.flat_map}
use Rattle.sexp_canonical.specs.{View.trees, Spelling.spelling}
use Rattle.sexp_canonical.proofs.writing.append_all.Given as goal

abbrev pub invariant-loop-tree : goal.invariant-loop-tree
invariant-loop-tree l = l.text ≡ l.fn.text ++ flat_map spelling (trees (take l.tree-index l.items))
