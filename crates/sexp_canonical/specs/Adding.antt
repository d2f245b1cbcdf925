-- What a finished expression makes of the lists that are open.
use Rattle.std.specs.{Prelude.{◌≡◌, List, [], ◌∷◌, ◌++◌, map, Option, Some, None}, Global.Vec}
use Rattle.sexp_canonical.specs.{Tree.Tree, View.{tree_of, trees}, Reading.OpenLists, declared.tree.Sexp.Sexp}

-- the lists that are open, as trees
abbrev pub lists_of : List (Vec Sexp) → OpenLists
lists_of open-lists = map (λ items. trees items.items) open-lists

-- a tree becomes the last item of the innermost list
pub record AddsItem (old new : OpenLists) (tree : Tree) : Type 0 where
  pub outer : OpenLists
  pub items : List Tree
  pub before : old ≡ outer ++ items ∷ []
  pub after : new ≡ outer ++ (items ++ tree ∷ []) ∷ []

-- or is the whole, where none is open
abbrev pub AddsTree : (old new : OpenLists) → Tree → Option Sexp → Type 0
AddsTree old new tree None = AddsItem old new tree
AddsTree old new tree (Some whole) = (old ≡ []) × (tree_of whole ≡ tree)
