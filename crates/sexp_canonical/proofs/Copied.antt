-- Steps of copying.
use Rattle.std.proofs.{Common.{◌≡◌, ℕ, ◌+◌, ◌*◌, ◌<◌, List, [], ◌∷◌, ◌++◌, refl, sym, ap, ◌∙◌, append_assoc, arith}, lemmas.List.{map-append, append-nil}}
use Rattle.sexp_canonical.specs.{Tree.{Tree, list_of, node_count}, View.{tree_of, trees}, declared.{tree.Sexp.{Sexp, TheVariants.{Atom, List as Listed}}, copying.Begun.Begun}}

-- the items of the outermost list, where the innermost one has these
abbrev pub whole : List Begun → List Tree → List Tree
whole [] items = items
whole (b ∷ inner) items = trees b.copied.items ++ list_of (whole inner items) ∷ trees b.left.now

-- how many steps the lists take that are begun
abbrev pub steps_left : List Begun → ℕ
steps_left [] = 0
steps_left (b ∷ inner) = 2 * node_count (trees b.left.now) + 1 + steps_left inner

whole_last : (outer : List Begun) (b : Begun) (items : List Tree) → whole (outer ++ b ∷ []) items ≡ whole outer (trees b.copied.items ++ list_of items ∷ trees b.left.now)
whole_last [] b items = refl
whole_last (o ∷ outer) b items = ap (λ (ts : List Tree). trees o.copied.items ++ list_of ts ∷ trees o.left.now) (whole_last outer b items)

steps_left_last : (outer : List Begun) (b : Begun) → steps_left (outer ++ b ∷ []) ≡ steps_left outer + (2 * node_count (trees b.left.now) + 1)
steps_left_last [] b = omega arith
steps_left_last (o ∷ outer) b = omega (arith, steps_left_last outer b)

-- what is copied so far, and what is left, make the whole
abbrev pub IsCopiedSoFar : List Begun → (copied left items : List Sexp) → Type 0
IsCopiedSoFar outer copied left items = whole outer (trees copied ++ trees left) ≡ trees items

pub nothing_left : (outer : List Begun) (copied left items : List Sexp) (tree : Sexp) → IsCopiedSoFar outer copied left items → outer ≡ [] → left ≡ [] → tree ≡ Listed (trees copied) → tree ≡ Listed (trees items)
nothing_left outer copied left items tree done none end tree-is =
    let all : trees copied ≡ trees items =
    sym (append-nil (trees copied)) ∙ ap (λ (xs : List Sexp). trees copied ++ trees xs) (sym end)
    ∙ ap (λ (ls : List Begun). whole ls (trees copied ++ trees left)) (sym none) ∙ done in
    tree-is ∙ ap Listed all

trees_last : (xs : List Sexp) (x : Sexp) (ys : List Tree) → trees (xs ++ x ∷ []) ++ ys ≡ trees xs ++ tree_of x ∷ ys
trees_last xs x ys = ap (λ (ts : List Tree). ts ++ ys) (map-append tree_of xs (x ∷ [])) ∙ append_assoc (trees xs) (tree_of x ∷ []) ys

-- a list is at its end, and joins the one around it
pub list_ended : (old new : List Begun) (around : Begun) (copied left items joined : List Sexp) (tree : Sexp) → IsCopiedSoFar old copied left items → old ≡ new ++ around ∷ [] → left ≡ []
    → tree ≡ Listed (trees copied) → joined ≡ around.copied.items ++ tree ∷ [] → IsCopiedSoFar new joined around.left.now items
list_ended old new around copied left items joined tree done old-is end tree-is joined-is =
    let parts : whole old (trees copied ++ trees left) ≡ whole new (trees around.copied.items ++ list_of (trees copied ++ trees left) ∷ trees around.left.now) =
    ap (λ (ls : List Begun). whole ls (trees copied ++ trees left)) old-is ∙ whole_last new around (trees copied ++ trees left) in
    let inner : trees copied ++ trees left ≡ trees copied = ap (λ (xs : List Sexp). trees copied ++ trees xs) end ∙ append-nil (trees copied) in
    let same : trees joined ++ trees around.left.now ≡ trees around.copied.items ++ list_of (trees copied ++ trees left) ∷ trees around.left.now =
    ap (λ (xs : List Sexp). trees xs ++ trees around.left.now) joined-is ∙ trees_last around.copied.items tree (trees around.left.now)
    ∙ ap (λ (t : Sexp). trees around.copied.items ++ tree_of t ∷ trees around.left.now) tree-is
    ∙ ap (λ (ts : List Tree). trees around.copied.items ++ list_of ts ∷ trees around.left.now) (sym inner) in
    ap (whole new) same ∙ sym parts ∙ done

pub list_ended_steps : (old new : List Begun) (around : Begun) (left : List Sexp) → old ≡ new ++ around ∷ []
    → 2 * node_count (trees around.left.now) + 1 + steps_left new < 2 * node_count (trees left) + 1 + steps_left old
list_ended_steps old new around left old-is = omega (arith, ap steps_left old-is, steps_left_last new around)

-- an item that is an atom is copied
pub atom_copied : (outer : List Begun) (copied left others items more : List Sexp) (item tree : Sexp) → IsCopiedSoFar outer copied left items → left ≡ item ∷ others → tree ≡ item → more ≡ copied ++ tree ∷ []
    → IsCopiedSoFar outer more others items
atom_copied outer copied left others items more item tree done left-is tree-is more-is =
    ap (whole outer)
    (ap (λ (xs : List Sexp). trees xs ++ trees others) more-is ∙ trees_last copied tree (trees others)
    ∙ ap (λ (t : Sexp). trees copied ++ tree_of t ∷ trees others) tree-is ∙ ap (λ (xs : List Sexp). trees copied ++ trees xs) (sym left-is))
    ∙ done

pub atom_copied_steps : (left others : List Sexp) (item : Sexp) (bytes : List ℕ) (outer : List Begun) → left ≡ item ∷ others → item ≡ Atom bytes
    → 2 * node_count (trees others) + 1 + steps_left outer < 2 * node_count (trees left) + 1 + steps_left outer
atom_copied_steps left others item bytes outer left-is item-is =
    omega (arith, ap (λ (xs : List Sexp). node_count (trees xs)) (left-is ∙ ap (λ (x : Sexp). x ∷ others) item-is))

-- an item that is a list is begun
pub list_begun : (old new : List Begun) (around : Begun) (copied left others inner items : List Sexp) (item : Sexp) → IsCopiedSoFar old copied left items → left ≡ item ∷ others → item ≡ Listed (trees inner)
    → around.copied.items ≡ copied → around.left.now ≡ others → new ≡ old ++ around ∷ [] → IsCopiedSoFar new [] inner items
list_begun old new around copied left others inner items item done left-is item-is copied-is others-is new-is =
    ap (λ (ls : List Begun). whole ls (trees inner)) new-is ∙ whole_last old around (trees inner)
    ∙ ap (whole old)
    (ap (λ (xs : List Sexp). trees xs ++ list_of (trees inner) ∷ trees around.left.now) copied-is
    ∙ ap (λ (xs : List Sexp). trees copied ++ list_of (trees inner) ∷ trees xs) others-is
    ∙ ap (λ (t : Sexp). trees copied ++ tree_of t ∷ trees others) (sym item-is)
    ∙ ap (λ (xs : List Sexp). trees copied ++ trees xs) (sym left-is))
    ∙ done

pub list_begun_steps : (old new : List Begun) (around : Begun) (left others inner : List Sexp) (item : Sexp) → left ≡ item ∷ others → item ≡ Listed (trees inner) → around.left.now ≡ others → new ≡ old ++ around ∷ []
    → 2 * node_count (trees inner) + 1 + steps_left new < 2 * node_count (trees left) + 1 + steps_left old
list_begun_steps old new around left others inner item left-is item-is others-is new-is =
    let nodes : node_count (trees left) ≡ node_count (tree_of item ∷ []) + node_count (trees others) = ap (λ (xs : List Sexp). node_count (trees xs)) left-is ∙ omega arith in
    let inside : node_count (tree_of item ∷ []) ≡ node_count (trees inner) + 1 = ap (λ (t : Sexp). node_count (tree_of t ∷ [])) item-is ∙ omega arith in
    let last = steps_left_last old around in
    let rest : node_count (trees around.left.now) ≡ node_count (trees others) = ap (λ (xs : List Sexp). node_count (trees xs)) others-is in
    omega (arith, ap steps_left new-is)
