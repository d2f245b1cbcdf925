-- Private: what is left to be written.
use Rattle.std.specs.{Prelude.{ℕ, ◌+◌, ◌*◌, List, [], ◌∷◌, ◌++◌, map}, List.flat_map, Borrow.Bor}
use Rattle.sexp_canonical.specs.{Tree.{Tree, node_count}, View.trees, Spelling.{right_paren, spelling}, declared.tree.Sexp.Sexp}

-- the rest of each list that is begun, the innermost last
abbrev pub rest_of : List (List Tree) → List ℕ
rest_of [] = []
rest_of (items ∷ inner) = rest_of inner ++ (flat_map spelling items ++ right_paren ∷ [])

-- how many steps that takes at most
abbrev pub steps_of : List (List Tree) → ℕ
steps_of [] = 0
steps_of (items ∷ inner) = 2 * node_count items + 1 + steps_of inner

abbrev pub begun_lists : List (Bor (List Sexp)) → List (List Tree)
begun_lists slices = map (λ slice. trees slice.now) slices
