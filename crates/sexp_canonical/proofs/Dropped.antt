-- Taking trees apart in place ends.
use Rattle.std.proofs.{Common.{◌≡◌, ℕ, ◌+◌, ◌*◌, ◌-◌, ◌<◌, ◌≤◌, List, [], ◌∷◌, ◌++◌, refl, sym, ap, subst, ◌∙◌, arith}, Math.Nat.mul-le-mul_left, lemmas.List.map-append}
use Rattle.sexp_canonical.specs.{Tree.{Tree, list_of, leaf, node_count}, Dropping.{first_nodes, drop_steps}, View.{tree_of, trees}, declared.tree.Sexp.{Sexp, TheVariants.{Atom, List as Listed}}}

node_count_append : (ts us : List Tree) → node_count (ts ++ us) ≡ node_count ts + node_count us
node_count_append [] us = omega arith
node_count_append (t ∷ ts) us = omega (arith, node_count_append ts us)

-- fewer nodes take fewer steps
fewer_steps : (m n a b : ℕ) → m < n → m * (m + 1) + (m - a) < n * (n + 1) + (n - b)
fewer_steps m n a b h =
    let square : m * (m + 2) ≤ m * (n + 1) = mul-le-mul_left m (omega arith) in
    let more : (n + 1) * (m + 1) ≤ (n + 1) * n = mul-le-mul_left (n + 1) (omega arith) in
    omega arith

fewer_nodes : (ts us : List Tree) → node_count ts < node_count us → drop_steps ts < drop_steps us
fewer_nodes ts us h = fewer_steps (node_count ts) (node_count us) (first_nodes ts) (first_nodes us) h

pub last_dropped : (ts : List Tree) (bytes : List ℕ) → drop_steps ts < drop_steps (ts ++ leaf bytes ∷ [])
last_dropped ts bytes = fewer_nodes ts (ts ++ leaf bytes ∷ []) (omega (arith, node_count_append ts (leaf bytes ∷ [])))

pub nothing_left : (inner : List Tree) → drop_steps inner < drop_steps (list_of inner ∷ [])
nothing_left inner = fewer_nodes inner (list_of inner ∷ []) (omega arith)

pub nothing_inside : (outer : List Tree) → drop_steps outer < drop_steps (outer ++ list_of [] ∷ [])
nothing_inside outer = fewer_nodes outer (outer ++ list_of [] ∷ []) (omega (arith, node_count_append outer (list_of [] ∷ [])))

turned : (m n a b : ℕ) → m ≡ n → a < b → b ≤ m → m * (m + 1) + (m - b) < n * (n + 1) + (n - a)
turned m n a b same h g = subst (λ (k : ℕ). m * (m + 1) + (m - b) < k * (k + 1) + (k - a)) same (omega arith)

turned_inside_out : (first last : Tree) (outer front : List Tree) → drop_steps (list_of (first ∷ (outer ++ last ∷ [])) ∷ front) < drop_steps (first ∷ (outer ++ list_of (front ++ last ∷ []) ∷ []))
turned_inside_out first last outer front =
    let before = first ∷ (outer ++ list_of (front ++ last ∷ []) ∷ []) in
    let after = list_of (first ∷ (outer ++ last ∷ [])) ∷ front in
    let same : node_count after ≡ node_count before =
    omega (arith, node_count_append outer (last ∷ []), node_count_append front (last ∷ []), node_count_append outer (list_of (front ++ last ∷ []) ∷ [])) in
    turned (node_count after) (node_count before) (first_nodes before) (first_nodes after) same (omega (arith, node_count_append outer (last ∷ []))) (omega arith)

-- ---- the steps of the loop

pub turned_lists : (outer inner front more new : List Sexp) (last : Sexp) (out : Sexp) → (outer ≡ [] → ⊥) → inner ≡ front ++ last ∷ [] → more ≡ outer ++ last ∷ [] → out ≡ Listed (trees more) → new ≡ out ∷ front
    → drop_steps (trees new) < drop_steps (trees outer ++ list_of (trees inner) ∷ [])
turned_lists [] inner front more new last out some inner-is more-is out-is new-is = absurd (some refl)
turned_lists (o ∷ outer) inner front more new last out some inner-is more-is out-is new-is =
    let inner-trees : trees inner ≡ trees front ++ tree_of last ∷ [] = ap trees inner-is ∙ map-append tree_of front (last ∷ []) in
    let more-trees : trees more ≡ tree_of o ∷ (trees outer ++ tree_of last ∷ []) = ap trees more-is ∙ map-append tree_of (o ∷ outer) (last ∷ []) in
    let new-trees : trees new ≡ list_of (tree_of o ∷ (trees outer ++ tree_of last ∷ [])) ∷ trees front = ap trees new-is ∙ ap (λ (s : Sexp). tree_of s ∷ trees front) out-is ∙ ap (λ (ts : List Tree). list_of ts ∷ trees front) more-trees in
    subst (λ (ts : List Tree × List Tree). drop_steps ts.0 < drop_steps (trees (o ∷ outer) ++ list_of ts.1 ∷ [])) (λ i. (sym new-trees i, sym inner-trees i))
    (turned_inside_out (tree_of o) (tree_of last) (trees outer) (trees front))

pub atom_dropped : (all rest : List Sexp) (tree : Sexp) (bytes : List ℕ) → all ≡ rest ++ tree ∷ [] → tree ≡ Atom bytes → drop_steps (trees rest) < drop_steps (trees all)
atom_dropped all rest tree bytes all-is tree-is =
    let parts : trees all ≡ trees rest ++ leaf bytes ∷ [] = ap trees all-is ∙ map-append tree_of rest (tree ∷ []) ∙ ap (λ (s : Sexp). trees rest ++ tree_of s ∷ []) tree-is in
    subst (λ (ts : List Tree). drop_steps (trees rest) < drop_steps ts) (sym parts) (last_dropped (trees rest) bytes)

pub list_dropped : (all rest inner new : List Sexp) (tree : Sexp) (items : List Tree) → all ≡ rest ++ tree ∷ [] → tree ≡ Listed items → trees inner ≡ items
    → drop_steps (trees new) < drop_steps (trees rest ++ list_of (trees inner) ∷ []) → drop_steps (trees new) < drop_steps (trees all)
list_dropped all rest inner new tree items all-is tree-is items-is fewer =
    let parts : trees all ≡ trees rest ++ list_of (trees inner) ∷ [] =
    ap trees all-is ∙ map-append tree_of rest (tree ∷ []) ∙ ap (λ (s : Sexp). trees rest ++ tree_of s ∷ []) tree-is ∙ ap (λ (ts : List Tree). trees rest ++ list_of ts ∷ []) (sym items-is) in
    subst (λ (ts : List Tree). drop_steps (trees new) < drop_steps ts) (sym parts) fewer

pub none_inside : (outer inner : List Sexp) → inner ≡ [] → drop_steps (trees outer) < drop_steps (trees outer ++ list_of (trees inner) ∷ [])
none_inside outer inner e = subst (λ (xs : List Sexp). drop_steps (trees outer) < drop_steps (trees outer ++ list_of (trees xs) ∷ [])) (sym e) (nothing_inside (trees outer))
