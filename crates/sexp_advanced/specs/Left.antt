-- Private: what is left to be written.
use Rattle.std.specs.{Prelude.{ℕ, ◌+◌, ◌*◌, ◌-◌, List, [], ◌∷◌, ◌++◌, Option, Some, None}, Borrow.Bor}
use Rattle.sexp_canonical.specs.{Tree.{Tree, row, node_count}, View.tree_of, declared.tree.Sexp.Sexp}
use Rattle.sexp_advanced.specs.{Writing.{advanced, spaced_row}, Octets.{IsOfOctets, AreOfOctets}}

abbrev pub next_tree : Option (Bor Sexp) → Option Tree
next_tree None = None
next_tree (Some s) = Some (tree_of s.now)

-- the items that are left of a list, and its end
abbrev pub spaced_text : List Tree → List ℕ
spaced_text items = spaced_row (row items) ++ 41 ∷ []

-- the rest of each list that is begun, the innermost last
abbrev pub lists_left : List (List Tree) → List ℕ
lists_left [] = []
lists_left (items ∷ inner) = lists_left inner ++ spaced_text items

abbrev pub text_left : Option Tree → List (List Tree) → List ℕ
text_left None begun = lists_left begun
text_left (Some t) begun = advanced t ++ lists_left begun

-- how many steps that takes at most
abbrev pub list_steps : List Tree → ℕ
list_steps items = 2 * node_count items + 1

abbrev pub lists_steps : List (List Tree) → ℕ
lists_steps [] = 0
lists_steps (items ∷ inner) = list_steps items + lists_steps inner

abbrev pub steps_left : Option Tree → List (List Tree) → ℕ
steps_left None begun = lists_steps begun
steps_left (Some t) begun = (2 * node_count (t ∷ []) - 1) + lists_steps begun

abbrev pub AreListsOfOctets : List (List Tree) → Type 0
AreListsOfOctets [] = Unit {0}
AreListsOfOctets (items ∷ inner) = AreOfOctets (row items) × AreListsOfOctets inner

abbrev pub AreLeftOfOctets : Option Tree → List (List Tree) → Type 0
AreLeftOfOctets None begun = AreListsOfOctets begun
AreLeftOfOctets (Some t) begun = IsOfOctets t × AreListsOfOctets begun
