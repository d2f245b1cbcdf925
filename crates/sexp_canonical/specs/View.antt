-- The tree that an expression in memory is.
use Rattle.std.specs.Prelude.{List, map}
use Rattle.sexp_canonical.specs.{Tree.{Tree, leaf, list_of}, declared.tree.Sexp.{Sexp, TheVariants.{Atom, List as Listed}}}

abbrev pub tree_of : Sexp → Tree
tree_of (Atom bytes) = leaf bytes
tree_of (Listed items) = list_of items

abbrev pub trees : List Sexp → List Tree
trees items = map tree_of items
