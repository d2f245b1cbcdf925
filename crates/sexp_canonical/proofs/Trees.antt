-- No spelling begins another.
use Rattle.std.{proofs.{Common.{◌≡◌, ℕ, ◌+◌, ◌≤◌, true, false, List, [], ◌∷◌, ◌++◌, length, refl, sym, ap, ◌∙◌, append_assoc, arith}, lemmas.List.{Elements.{All-nil, All-cons, All-head, All-tail}, Concat.flat_map-cons}}, specs.Prelude.All}
use Rattle.std.specs.{List.flat_map, Char.is_ascii_digit}
use Rattle.sexp_canonical.specs.{Tree.{Tree, Row, leaf, branch, end, item, row, list_of, items_of, items}, View.tree_of, Spelling.{numeral, spelling, spellings, depth, depths}, declared.tree.Sexp.{Sexp, TheVariants.{Atom, List as Listed}}}
use Rattle.sexp_canonical.proofs.Numerals.{AreDigits, AreDigits_numeral, Leads, Leads_numeral, Ends, one_numeral}

-- ---- trees in memory

pub row_injective : (ts us : List Tree) → row ts ≡ row us → ts ≡ us
row_injective [] [] e = refl
row_injective [] (u ∷ us) e = absurd cc
row_injective (t ∷ ts) [] e = absurd cc
row_injective (t ∷ ts) (u ∷ us) e =
    let head : t ≡ u = cc in
    let tail : row ts ≡ row us = cc in
    let rest = row_injective ts us tail in
    cc

pub tree_of_injective : (a b : Sexp) → tree_of a ≡ tree_of b → a ≡ b
tree_of_injective (Atom b) (Atom c) e = cc
tree_of_injective (Atom b) (Listed us) e = absurd cc
tree_of_injective (Listed ts) (Atom c) e = absurd cc
tree_of_injective (Listed ts) (Listed us) e =
    let same : row ts ≡ row us = cc in
    ap Listed (row_injective ts us same)

pub spellings_row : (ts : List Tree) → spellings (row ts) ≡ flat_map spelling ts
spellings_row [] = refl
spellings_row (t ∷ ts) = ap (λ (s : List ℕ). spelling t ++ s) (spellings_row ts) ∙ sym (flat_map-cons spelling t ts)

pub spelled_list : (items : List Tree) → spelling (list_of items) ≡ 40 ∷ (flat_map spelling items ++ 41 ∷ [])
spelled_list items = ap (λ (s : List ℕ). 40 ∷ (s ++ 41 ∷ [])) (spellings_row items)

pub row_items_of : (r : Row) → row (items_of r) ≡ r
row_items_of end = refl
row_items_of (item t more) = ap (item t) (row_items_of more)

pub items_of_row : (ts : List Tree) → items_of (row ts) ≡ ts
items_of_row [] = refl
items_of_row (t ∷ ts) = ap (λ (us : List Tree). t ∷ us) (items_of_row ts)

pub items_listed : (tree : Sexp) (ts us : List Tree) → tree ≡ Listed ts → us ≡ ts → us ≡ items (tree_of tree)
items_listed tree ts us e f = f ∙ sym (items_of_row ts) ∙ ap (λ (t : Sexp). items (tree_of t)) (sym e)

-- ---- how deep a list is

pub depths_le : (ts : List Tree) (n : ℕ) → All (λ t. depth t ≤ n) ts → depths (row ts) ≤ n
depths_le [] n h = omega arith
depths_le (t ∷ ts) n h =
    let P : Tree → Type 0 = λ u. depth u ≤ n in
    let first = All-head P t ts h in
    omega (arith, depths_le ts n (All-tail P t ts h))

pub All_depths : (ts : List Tree) (n : ℕ) → depths (row ts) ≤ n → All (λ t. depth t ≤ n) ts
All_depths [] n h = All-nil (λ t. depth t ≤ n)
All_depths (t ∷ ts) n h = All-cons (λ u. depth u ≤ n) t ts (omega arith) (All_depths ts n (omega arith))

-- ---- first bytes

pub first_is : (a b : ℕ) (x y : List ℕ) → a ∷ x ≡ b ∷ y → a ≡ b
first_is a b x y e = cc

pub rest_is : (a b : ℕ) (x y : List ℕ) → a ∷ x ≡ b ∷ y → x ≡ y
rest_is a b x y e = cc

pub record BeginsWithDigit (s : List ℕ) : Type 0 where
  pub first : ℕ
  pub others : List ℕ
  pub parts : s ≡ first ∷ others
  pub digit : is_ascii_digit first ≡ true

begins_with_digit : (n : ℕ) (s : List ℕ) → Leads n s → AreDigits s → BeginsWithDigit s
begins_with_digit n [] leads digits = absurd leads
begins_with_digit n (d ∷ ds) leads digits = record { first = d; others = ds; parts = refl; digit = digits.0 }

pub numeral_begins : (n : ℕ) → BeginsWithDigit (numeral n)
numeral_begins n = begins_with_digit n (numeral n) (Leads_numeral n) (AreDigits_numeral n)

-- no numeral begins with another byte
pub no_numeral : (n b : ℕ) (x y : List ℕ) → is_ascii_digit b ≡ false → numeral n ++ x ≡ b ∷ y → ⊥
no_numeral n b x y other e =
    let d = numeral_begins n in
    let whole : d.first ∷ d.others ++ x ≡ b ∷ y = ap (λ (s : List ℕ). s ++ x) (sym d.parts) ∙ e in
    let same = first_is d.first b (d.others ++ x) y whole in
    let digit : is_ascii_digit b ≡ true = ap is_ascii_digit (sym same) ∙ d.digit in
    cc

-- an atom with what follows it
pub leaf_then : (bytes x : List ℕ) → spelling (leaf bytes) ++ x ≡ numeral (length bytes) ++ 58 ∷ (bytes ++ x)
leaf_then bytes x = append_assoc (numeral (length bytes)) (58 ∷ bytes) x

-- a list with what follows it
pub branch_then : (r : Row) (x : List ℕ) → spelling (branch r) ++ x ≡ 40 ∷ (spellings r ++ 41 ∷ x)
branch_then r x = ap (λ (s : List ℕ). 40 ∷ s) (append_assoc (spellings r) (41 ∷ []) x)

pub item_then : (t : Tree) (r : Row) (x : List ℕ) → spellings (item t r) ++ x ≡ spelling t ++ (spellings r ++ x)
item_then t r x = append_assoc (spelling t) (spellings r) x

-- no spelling begins with the end of a list
pub no_end : (t : Tree) (x y : List ℕ) → spelling t ++ x ≡ 41 ∷ y → ⊥
no_end (leaf bytes) x y e = no_numeral (length bytes) 41 (58 ∷ (bytes ++ x)) y refl (sym (leaf_then bytes x) ∙ e)
no_end (branch r) x y e = let same = first_is 41 40 y (spellings r ++ 41 ∷ x) (sym e ∙ branch_then r x) in omega arith

-- ---- the law

pub same_cut : (us vs xs ys : List ℕ) → length us ≡ length vs → us ++ xs ≡ vs ++ ys → (us ≡ vs) × (xs ≡ ys)
same_cut [] [] xs ys h e = (refl, e)
same_cut [] (v ∷ vs) xs ys h e = absurd (omega arith)
same_cut (u ∷ us) [] xs ys h e = absurd (omega arith)
same_cut (u ∷ us) (v ∷ vs) xs ys h e =
    let head : u ≡ v = cc in
    let tail : us ++ xs ≡ vs ++ ys = cc in
    let rest = same_cut us vs xs ys (omega arith) tail in
    (let front = rest.0 in cc, rest.1)

pub colon_ends : (limit n : ℕ) (x : List ℕ) → Ends limit n (58 ∷ x)
colon_ends limit n x digit = absurd cc

one_leaf : (b c x y : List ℕ) → spelling (leaf b) ++ x ≡ spelling (leaf c) ++ y → (b ≡ c) × (x ≡ y)
one_leaf b c x y e =
    let m = length b in
    let n = length c in
    let cut = one_numeral (m + n) m n (58 ∷ (b ++ x)) (58 ∷ (c ++ y)) (omega arith) (omega arith) (colon_ends (m + n) m (b ++ x)) (colon_ends (m + n) n (c ++ y)) (sym (leaf_then b x) ∙ e ∙ leaf_then c y) in
    let behind = rest_is 58 58 (b ++ x) (c ++ y) cut.1 in
    same_cut b c x y cut.0 behind

mutual
  pub one_spelling : (t u : Tree) (x y : List ℕ) → spelling t ++ x ≡ spelling u ++ y → (t ≡ u) × (x ≡ y)
  one_spelling (leaf b) (leaf c) x y e = let same = one_leaf b c x y e in (ap leaf same.0, same.1)
  one_spelling (leaf b) (branch s) x y e = absurd (no_numeral (length b) 40 (58 ∷ (b ++ x)) (spellings s ++ 41 ∷ y) refl (sym (leaf_then b x) ∙ e ∙ branch_then s y))
  one_spelling (branch r) (leaf c) x y e = absurd (no_numeral (length c) 40 (58 ∷ (c ++ y)) (spellings r ++ 41 ∷ x) refl (sym (leaf_then c y) ∙ sym e ∙ branch_then r x))
  one_spelling (branch r) (branch s) x y e =
      let whole : 40 ∷ (spellings r ++ 41 ∷ x) ≡ 40 ∷ (spellings s ++ 41 ∷ y) = sym (branch_then r x) ∙ e ∙ branch_then s y in
      let inside = rest_is 40 40 (spellings r ++ 41 ∷ x) (spellings s ++ 41 ∷ y) whole in
      let same = one_row r s x y inside in
      (ap branch same.0, same.1)

  pub one_row : (r s : Row) (x y : List ℕ) → spellings r ++ 41 ∷ x ≡ spellings s ++ 41 ∷ y → (r ≡ s) × (x ≡ y)
  one_row end end x y e = (refl, rest_is 41 41 x y e)
  one_row end (item u s) x y e = absurd (no_end u (spellings s ++ 41 ∷ y) x (sym (item_then u s (41 ∷ y)) ∙ sym e))
  one_row (item t r) end x y e = absurd (no_end t (spellings r ++ 41 ∷ x) y (sym (item_then t r (41 ∷ x)) ∙ e))
  one_row (item t r) (item u s) x y e =
      let first = one_spelling t u (spellings r ++ 41 ∷ x) (spellings s ++ 41 ∷ y) (sym (item_then t r (41 ∷ x)) ∙ e ∙ item_then u s (41 ∷ y)) in
      let others = one_row r s x y first.1 in
      (let head = first.0 in let tail = others.0 in cc, others.1)
