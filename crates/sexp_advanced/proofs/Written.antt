-- Steps of writing.
use Rattle.std.proofs.Common.{◌≡◌, ℕ, suc, ◌+◌, ◌-◌, ◌*◌, ◌<◌, List, [], ◌∷◌, ◌++◌, get_or, Option, None, Bor, refl, sym, ap, subst, ◌∙◌, append_assoc, arith}
use Rattle.sexp_canonical.{specs.{Tree.{Tree, row, leaf, branch, node_count}, View.{tree_of, trees}, Writing.begun_lists, declared.tree.Sexp.{Sexp, TheVariants.{Atom, List as Listed}}}, proofs.Written.begun_last}
use Rattle.sexp_advanced.specs.{Writing.{advanced, advanced_of, spaced_row}, Octets.{AreOctets, IsOfOctets, AreOfOctets}, Left.{spaced_text, lists_left, text_left, list_steps, lists_steps, AreListsOfOctets}}

-- ---- what is left

lists_left_last : (outer : List (List Tree)) (items : List Tree) → lists_left (outer ++ items ∷ []) ≡ spaced_text items ++ lists_left outer
lists_left_last [] items = sym (append_none (spaced_text items))
  where
    append_none : (xs : List ℕ) → xs ++ [] ≡ xs
    append_none [] = refl
    append_none (x ∷ xs) = ap (λ (s : List ℕ). x ∷ s) (append_none xs)
lists_left_last (o ∷ outer) items = ap (λ (s : List ℕ). s ++ spaced_text o) (lists_left_last outer items) ∙ append_assoc (spaced_text items) (lists_left outer) (spaced_text o)

lists_steps_last : (outer : List (List Tree)) (items : List Tree) → lists_steps (outer ++ items ∷ []) ≡ lists_steps outer + list_steps items
lists_steps_last [] items = omega arith
lists_steps_last (o ∷ outer) items = omega (arith, lists_steps_last outer items)

octets_last : (outer : List (List Tree)) (items : List Tree) → AreListsOfOctets (outer ++ items ∷ []) → AreOfOctets (row items) × AreListsOfOctets outer
octets_last [] items h = (h.0, tt)
octets_last (o ∷ outer) items h = let inner = octets_last outer items h.1 in (inner.0, (h.0, inner.1))

octets_push : (outer : List (List Tree)) (items : List Tree) → AreOfOctets (row items) → AreListsOfOctets outer → AreListsOfOctets (outer ++ items ∷ [])
octets_push [] items h g = (h, tt)
octets_push (o ∷ outer) items h g = (g.0, octets_push outer items h g.1)

left_last : (before after : List (Bor (List Sexp))) (s : Bor (List Sexp)) → after ≡ before ++ s ∷ [] → lists_left (begun_lists after) ≡ spaced_text (trees s.now) ++ lists_left (begun_lists before)
left_last before after s e = ap lists_left (ap begun_lists e ∙ begun_last before s) ∙ lists_left_last (begun_lists before) (trees s.now)

steps_last : (before after : List (Bor (List Sexp))) (s : Bor (List Sexp)) → after ≡ before ++ s ∷ [] → lists_steps (begun_lists after) ≡ lists_steps (begun_lists before) + list_steps (trees s.now)
steps_last before after s e = ap lists_steps (ap begun_lists e ∙ begun_last before s) ∙ lists_steps_last (begun_lists before) (trees s.now)

begun_octets : (before after : List (Bor (List Sexp))) (s : Bor (List Sexp)) → after ≡ before ++ s ∷ [] → AreListsOfOctets (begun_lists after) → AreOfOctets (row (trees s.now)) × AreListsOfOctets (begun_lists before)
begun_octets before after s e h = octets_last (begun_lists before) (trees s.now) (subst AreListsOfOctets (ap begun_lists e ∙ begun_last before s) h)

octets_begun : (before after : List (Bor (List Sexp))) (s : Bor (List Sexp)) → after ≡ before ++ s ∷ [] → AreOfOctets (row (trees s.now)) → AreListsOfOctets (begun_lists before) → AreListsOfOctets (begun_lists after)
octets_begun before after s e h g = subst AreListsOfOctets (sym (ap begun_lists e ∙ begun_last before s)) (octets_push (begun_lists before) (trees s.now) h g)

-- ---- the beginning of a tree

pub atom_written : (old new bytes : List ℕ) (tree : Sexp) (begun : List (List Tree)) → tree ≡ Atom bytes → new ≡ old ++ advanced (leaf bytes) → new ++ lists_left begun ≡ old ++ (advanced_of tree ++ lists_left begun)
atom_written old new bytes tree begun tree-is new-is =
    ap (λ (s : List ℕ). s ++ lists_left begun) (new-is ∙ ap (λ (t : Sexp). old ++ advanced_of t) (sym tree-is)) ∙ append_assoc old (advanced_of tree) (lists_left begun)

pub nothing_written : (t0 t1 t2 : List ℕ) (tree : Sexp) (items : List Tree) (xs : List Sexp) (begun : List (List Tree)) → tree ≡ Listed items → trees xs ≡ items → xs ≡ [] → t1 ≡ t0 ++ 40 ∷ [] → t2 ≡ t1 ++ 41 ∷ []
    → t2 ++ lists_left begun ≡ t0 ++ (advanced_of tree ++ lists_left begun)
nothing_written t0 t1 t2 tree items xs begun tree-is items-is none e f =
    let empty : tree ≡ Listed [] = tree-is ∙ ap Listed (sym items-is ∙ ap trees none) in
    ap (λ (s : List ℕ). s ++ lists_left begun) (f ∙ ap (λ (s : List ℕ). s ++ 41 ∷ []) e ∙ append_assoc t0 (40 ∷ []) (41 ∷ []) ∙ ap (λ (t : Sexp). t0 ++ advanced_of t) (sym empty))
    ∙ append_assoc t0 (advanced_of tree) (lists_left begun)

-- an item and its list's rest
regroup : (a s e l : List ℕ) → ((a ++ s) ++ e) ++ l ≡ a ++ ((s ++ e) ++ l)
regroup a s e l = ap (λ (x : List ℕ). x ++ l) (append_assoc a s e) ∙ append_assoc a (s ++ e) l

pub list_written : (t0 t1 : List ℕ) (tree first : Sexp) (items : List Tree) (xs : List Sexp) (others : Bor (List Sexp)) (before after : List (Bor (List Sexp))) → tree ≡ Listed items → trees xs ≡ items → xs ≡ first ∷ others.now
    → t1 ≡ t0 ++ 40 ∷ [] → after ≡ before ++ others ∷ []
    → t1 ++ (advanced_of first ++ lists_left (begun_lists after)) ≡ t0 ++ (advanced_of tree ++ lists_left (begun_lists before))
list_written t0 t1 tree first items xs others before after tree-is items-is parts e after-is =
    let rest = lists_left (begun_lists before) in
    let os = spaced_row (row (trees others.now)) in
    let whole : tree ≡ Listed (tree_of first ∷ trees others.now) = tree-is ∙ ap Listed (sym items-is ∙ ap trees parts) in
    let spelled : advanced_of tree ++ rest ≡ 40 ∷ (advanced_of first ++ (spaced_text (trees others.now) ++ rest)) =
    ap (λ (t : Sexp). advanced_of t ++ rest) whole ∙ ap (λ (s : List ℕ). 40 ∷ s) (regroup (advanced_of first) os (41 ∷ []) rest) in
    ap (λ (s : List ℕ). s ++ (advanced_of first ++ lists_left (begun_lists after))) e ∙ append_assoc t0 (40 ∷ []) (advanced_of first ++ lists_left (begun_lists after))
    ∙ ap (λ (s : List ℕ). t0 ++ 40 ∷ (advanced_of first ++ s)) (left_last before after others after-is) ∙ ap (λ (s : List ℕ). t0 ++ s) (sym spelled)

nodes_first : (first : Tree) (others : List Tree) → node_count (first ∷ others) ≡ node_count (first ∷ []) + node_count others
nodes_first first others = omega arith

some_nodes : (t : Tree) → 0 < node_count (t ∷ [])
some_nodes (leaf bytes) = omega arith
some_nodes (branch items) = omega arith

pub list_steps_fall : (tree first : Sexp) (items : List Tree) (xs : List Sexp) (others : Bor (List Sexp)) (before after : List (Bor (List Sexp)))
    → tree ≡ Listed items → trees xs ≡ items → xs ≡ first ∷ others.now → after ≡ before ++ others ∷ []
    → (2 * node_count (tree_of first ∷ []) - 1) + lists_steps (begun_lists after) < (2 * node_count (tree_of tree ∷ []) - 1) + lists_steps (begun_lists before)
list_steps_fall tree first items xs others before after tree-is items-is parts after-is =
    let whole : tree ≡ Listed (tree_of first ∷ trees others.now) = tree-is ∙ ap Listed (sym items-is ∙ ap trees parts) in
    let nodes : node_count (tree_of tree ∷ []) ≡ (node_count (tree_of first ∷ []) + node_count (trees others.now)) + 1 = ap (λ (t : Sexp). node_count (tree_of t ∷ [])) whole ∙ omega arith in
    omega (arith, steps_last before after others after-is, some_nodes (tree_of first))

pub list_octets : (tree first : Sexp) (items : List Tree) (xs : List Sexp) (others : Bor (List Sexp)) (before after : List (Bor (List Sexp))) → tree ≡ Listed items → trees xs ≡ items → xs ≡ first ∷ others.now → after ≡ before ++ others ∷ []
    → IsOfOctets (tree_of first) × AreListsOfOctets (begun_lists after) → IsOfOctets (tree_of tree) × AreListsOfOctets (begun_lists before)
list_octets tree first items xs others before after tree-is items-is parts after-is h =
    let whole : tree ≡ Listed (tree_of first ∷ trees others.now) = tree-is ∙ ap Listed (sym items-is ∙ ap trees parts) in
    let inner = begun_octets before after others after-is h.1 in
    (subst (λ (t : Sexp). IsOfOctets (tree_of t)) (sym whole) (h.0, inner.0), inner.1)

pub none_octets : (tree : Sexp) (items : List Tree) (xs : List Sexp) → tree ≡ Listed items → trees xs ≡ items → xs ≡ [] → IsOfOctets (tree_of tree)
none_octets tree items xs tree-is items-is none = subst (λ (t : Sexp). IsOfOctets (tree_of t)) (sym (tree-is ∙ ap Listed (sym items-is ∙ ap trees none))) tt

pub atom_octets : (tree : Sexp) (bytes : List ℕ) → tree ≡ Atom bytes → AreOctets bytes → IsOfOctets (tree_of tree)
atom_octets tree bytes e h = subst (λ (t : Sexp). IsOfOctets (tree_of t)) (sym e) h

pub octets_from : (bytes : List ℕ) → ((i : ℕ) → get_or bytes i 0 < 256) → AreOctets bytes
octets_from [] h = tt
octets_from (b ∷ bytes) h = (h 0, octets_from bytes (λ i. h (suc i)))

-- ---- the next item of a list

pub end_written : (old new : List ℕ) (xs : List Sexp) (begun : List (List Tree)) → xs ≡ [] → new ≡ old ++ 41 ∷ [] → new ++ lists_left begun ≡ old ++ (spaced_text (trees xs) ++ lists_left begun)
end_written old new xs begun none e =
    ap (λ (s : List ℕ). s ++ lists_left begun) (e ∙ ap (λ (ys : List Sexp). old ++ spaced_text (trees ys)) (sym none)) ∙ append_assoc old (spaced_text (trees xs)) (lists_left begun)

pub item_written : (t0 t1 : List ℕ) (first : Sexp) (xs : List Sexp) (others : Bor (List Sexp)) (before after : List (Bor (List Sexp))) → xs ≡ first ∷ others.now → t1 ≡ t0 ++ 32 ∷ [] → after ≡ before ++ others ∷ []
    → t1 ++ (advanced_of first ++ lists_left (begun_lists after)) ≡ t0 ++ (spaced_text (trees xs) ++ lists_left (begun_lists before))
item_written t0 t1 first xs others before after parts e after-is =
    let rest = lists_left (begun_lists before) in
    let os = spaced_row (row (trees others.now)) in
    let spelled : spaced_text (trees xs) ++ rest ≡ 32 ∷ (advanced_of first ++ (spaced_text (trees others.now) ++ rest)) =
    ap (λ (ys : List Sexp). spaced_text (trees ys) ++ rest) parts ∙ ap (λ (s : List ℕ). 32 ∷ s) (regroup (advanced_of first) os (41 ∷ []) rest) in
    ap (λ (s : List ℕ). s ++ (advanced_of first ++ lists_left (begun_lists after))) e ∙ append_assoc t0 (32 ∷ []) (advanced_of first ++ lists_left (begun_lists after))
    ∙ ap (λ (s : List ℕ). t0 ++ 32 ∷ (advanced_of first ++ s)) (left_last before after others after-is) ∙ ap (λ (s : List ℕ). t0 ++ s) (sym spelled)

pub item_steps_fall : (first : Sexp) (xs : List Sexp) (others : Bor (List Sexp)) (before after : List (Bor (List Sexp))) → xs ≡ first ∷ others.now → after ≡ before ++ others ∷ []
    → (2 * node_count (tree_of first ∷ []) - 1) + lists_steps (begun_lists after) < list_steps (trees xs) + lists_steps (begun_lists before)
item_steps_fall first xs others before after parts after-is =
    let nodes : node_count (trees xs) ≡ node_count (tree_of first ∷ []) + node_count (trees others.now) = ap (λ (ys : List Sexp). node_count (trees ys)) parts ∙ omega arith in
    omega (arith, steps_last before after others after-is, some_nodes (tree_of first))

pub item_octets : (first : Sexp) (xs : List Sexp) (others : Bor (List Sexp)) (before after : List (Bor (List Sexp))) → xs ≡ first ∷ others.now → after ≡ before ++ others ∷ []
    → IsOfOctets (tree_of first) × AreListsOfOctets (begun_lists after) → AreOfOctets (row (trees xs)) × AreListsOfOctets (begun_lists before)
item_octets first xs others before after parts after-is h =
    let inner = begun_octets before after others after-is h.1 in
    (subst (λ (ys : List Sexp). AreOfOctets (row (trees ys))) (sym parts) (h.0, inner.0), inner.1)

pub no_octets : (xs : List Sexp) → xs ≡ [] → AreOfOctets (row (trees xs))
no_octets xs none = subst (λ (ys : List Sexp). AreOfOctets (row (trees ys))) (sym none) tt

-- ---- one step of the loop

pub popped_written : (old : List ℕ) (all before : List (Bor (List Sexp))) (s : Bor (List Sexp)) (whole : List ℕ) → all ≡ before ++ s ∷ [] → old ++ lists_left (begun_lists all) ≡ whole
    → old ++ (spaced_text (trees s.now) ++ lists_left (begun_lists before)) ≡ whole
popped_written old all before s whole e h = ap (λ (r : List ℕ). old ++ r) (sym (left_last before all s e)) ∙ h

pub popped_steps : (all before : List (Bor (List Sexp))) (s : Bor (List Sexp)) → all ≡ before ++ s ∷ [] → list_steps (trees s.now) + lists_steps (begun_lists before) ≡ lists_steps (begun_lists all)
popped_steps all before s e = omega (arith, steps_last before all s e)

pub popped_octets : (all before : List (Bor (List Sexp))) (s : Bor (List Sexp)) → all ≡ before ++ s ∷ [] → AreOfOctets (row (trees s.now)) × AreListsOfOctets (begun_lists before) → AreListsOfOctets (begun_lists all)
popped_octets all before s e h = octets_begun before all s e h.0 h.1

-- what is left where nothing comes next at once
pub nothing_next : (text whole : List ℕ) (next : Option Tree) (begun : List (List Tree)) → next ≡ None → text ++ text_left next begun ≡ whole → text ++ lists_left begun ≡ whole
nothing_next text whole next begun none h = subst (λ (n : Option Tree). text ++ text_left n begun ≡ whole) none h
