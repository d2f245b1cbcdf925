-- A text has one answer at most: no fault where an expression is read, and no two faults.
use Rattle.std.proofs.Common.{◌≡◌, ℕ, zero, suc, ◌+◌, ◌-◌, ◌≤◌, max, Bool, true, false, cond, eqb, List, [], ◌∷◌, ◌++◌, length, drop, Option, Some, None, Result, Ok, Err, refl, sym, ap, subst, ◌∙◌, ◌⊎◌, inl, inr, append_assoc, arith}
use Rattle.std.{proofs.{Common.length-drop, lemmas.{Bool.eqb-true, List.{append-nil, Concat.flat_map-cons}}}, specs.{Prelude.{IfOk, IfErr}, List.flat_map}}
use Rattle.sexp_canonical.specs.{Tree.{Tree, Row, leaf, branch, end, item, row}, View.tree_of, Spelling.{most_depth, depth, depths, spelling, spellings}, Reading.{OpenLists, open_depth}, declared.tree.Sexp.Sexp}
use Rattle.sexp_canonical.proofs.{Trees.{one_spelling, tree_of_injective}, Depths.length_le_open_depth}
use Rattle.sexp_advanced.specs.{Bytes.{is_space_byte, without_front}, Signs.{Found, sign, IsAt}, Reading.{signs, row_signs, opening_signs, Begins, IsExpression, IsFirstAdvFault, ReadsAdvanced, sign_fault, fault_of, place_of}}
use Rattle.sexp_advanced.{specs.declared.{signs.Sign.{Sign, TheVariants.{Open, Close, Atom}}, fault.AdvFault.{AdvFault, TheVariants.{BadByte, Deep, NoMemory}}}, proofs.OneSign.one_here}

-- ---- signs alone: where an expression is at its end

-- so many lists are open, or the whole is at its end before these signs, or a list is ended that isn't open
data Run : Type 0 where
  going : ℕ → Run
  done : List Sign → Run
  astray : Run

abbrev run : ℕ → List Sign → Run
run n [] = going n
run n (Open ∷ more) = run (suc n) more
run zero (Close ∷ more) = astray
run (suc zero) (Close ∷ more) = done more
run (suc (suc n)) (Close ∷ more) = run (suc n) more
run zero (Atom bytes ∷ more) = done more
run (suc n) (Atom bytes ∷ more) = run (suc n) more

-- behind a whole tree
abbrev behind : ℕ → List Sign → Run
behind zero more = done more
behind (suc n) more = run (suc n) more

closes : (n : ℕ) (more : List Sign) → run (suc n) (Close ∷ more) ≡ behind n more
closes zero more = refl
closes (suc n) more = refl

mutual
  run_tree : (n : ℕ) (t : Tree) (more : List Sign) → run n (signs t ++ more) ≡ behind n more
  run_tree zero (leaf bytes) more = refl
  run_tree (suc n) (leaf bytes) more = refl
  run_tree n (branch r) more =
      ap (run (suc n)) (append_assoc (row_signs r) (Close ∷ []) more) ∙ run_row n r (Close ∷ more) ∙ closes n more

  run_row : (n : ℕ) (r : Row) (more : List Sign) → run (suc n) (row_signs r ++ more) ≡ run (suc n) more
  run_row n end more = refl
  run_row n (item t r) more = ap (run (suc n)) (append_assoc (signs t) (row_signs r) more) ∙ run_tree (suc n) t (row_signs r ++ more) ∙ run_row n r more

run_items : (n : ℕ) (ts : List Tree) (more : List Sign) → run (suc n) (flat_map signs ts ++ more) ≡ run (suc n) more
run_items n [] more = refl
run_items n (t ∷ ts) more =
    ap (run (suc n)) (ap (λ (s : List Sign). s ++ more) (flat_map-cons signs t ts) ∙ append_assoc (signs t) (flat_map signs ts) more) ∙ run_tree (suc n) t (flat_map signs ts ++ more) ∙ run_items n ts more

-- behind the signs of open lists
run_opening : (n : ℕ) (lists : OpenLists) (more : List Sign) → run n (opening_signs lists ++ more) ≡ run (n + length lists) more
run_opening n [] more = let e : n + 0 ≡ n = omega arith in rw e refl
run_opening n (items ∷ lists) more =
    let e : n + suc (length lists) ≡ suc n + length lists = omega arith in
    ap (run (suc n)) (append_assoc (flat_map signs items) (opening_signs lists) more) ∙ run_items n items (opening_signs lists ++ more) ∙ run_opening (suc n) lists more ∙ ap (λ (k : ℕ). run k more) (sym e)

-- ---- how many lists are open at the deepest place

abbrev deepest : ℕ → List Sign → ℕ
deepest n [] = n
deepest n (Open ∷ more) = deepest (suc n) more
deepest n (Close ∷ more) = max n (deepest (n - 1) more)
deepest n (Atom bytes ∷ more) = deepest n more

deepest_le : (n : ℕ) (xs : List Sign) → n ≤ deepest n xs
deepest_le n [] = omega arith
deepest_le n (Open ∷ xs) = omega (arith, deepest_le (suc n) xs)
deepest_le n (Close ∷ xs) = omega arith
deepest_le n (Atom bytes ∷ xs) = deepest_le n xs

mutual
  deepest_tree : (n : ℕ) (t : Tree) (more : List Sign) → deepest n (signs t ++ more) ≡ max (n + depth t) (deepest n more)
  deepest_tree n (leaf bytes) more = let l = deepest_le n more in omega arith
  deepest_tree n (branch r) more =
      let down : suc n - 1 ≡ n = omega arith in
      let l = deepest_le n more in
      let inside = ap (deepest (suc n)) (append_assoc (row_signs r) (Close ∷ []) more) ∙ deepest_row (suc n) r (Close ∷ more) in
      let last : deepest (suc n) (Close ∷ more) ≡ max (suc n) (deepest n more) = rw down refl in
      omega (arith, inside, last)

  deepest_row : (n : ℕ) (r : Row) (more : List Sign) → deepest n (row_signs r ++ more) ≡ max (n + depths r) (deepest n more)
  deepest_row n end more = let l = deepest_le n more in omega arith
  deepest_row n (item t r) more =
      omega (arith, ap (deepest n) (append_assoc (signs t) (row_signs r) more) ∙ deepest_tree n t (row_signs r ++ more), deepest_row n r more)

deepest_items : (n : ℕ) (ts : List Tree) (more : List Sign) → deepest n (flat_map signs ts ++ more) ≡ max (n + depths (row ts)) (deepest n more)
deepest_items n [] more = let l = deepest_le n more in omega arith
deepest_items n (t ∷ ts) more =
    omega (arith, ap (deepest n) (ap (λ (s : List Sign). s ++ more) (flat_map-cons signs t ts) ∙ append_assoc (signs t) (flat_map signs ts) more) ∙ deepest_tree n t (flat_map signs ts ++ more), deepest_items n ts more)

deepest_opening : (n : ℕ) (lists : OpenLists) (more : List Sign) → deepest n (opening_signs lists ++ more) ≡ max (n + open_depth lists) (deepest (n + length lists) more)
deepest_opening n [] more = let e : n + 0 ≡ n = omega arith in let l = deepest_le n more in rw e (omega arith)
deepest_opening n (items ∷ lists) more =
    let e : n + suc (length lists) ≡ suc n + length lists = omega arith in
    let inside = ap (deepest (suc n)) (append_assoc (flat_map signs items) (opening_signs lists) more) ∙ deepest_items (suc n) items (opening_signs lists ++ more) in
    let f = ap (λ (k : ℕ). deepest k more) e in
    omega (arith, inside, deepest_opening (suc n) lists more)

-- ---- two ways from one text

abbrev Goes : (xs ys : List Sign) (x y : List ℕ) → Type 0
Goes xs ys x y = (zs : List Sign) × (ys ≡ xs ++ zs) × Begins x zs y

one_way : (text : List ℕ) (xs ys : List Sign) (x y : List ℕ) → Begins text xs x → Begins text ys y → Goes xs ys x y ⊎ Goes ys xs y x
one_way text [] ys x y h k = inl (ys, refl, subst (λ (t : List ℕ). Begins t ys y) h k)
one_way text (s ∷ xs) [] x y h k = inr (s ∷ xs, refl, subst (λ (t : List ℕ). Begins t (s ∷ xs) x) k h)
one_way text (s ∷ xs) (r ∷ ys) x y h k =
    let same : sign s h.0 ≡ sign r k.0 = one_here (without_front is_space_byte text) (sign s h.0) (sign r k.0) h.1 k.1 in
    let head : s ≡ r = cc in
    let rest : k.0 ≡ h.0 = cc in
    elim (one_way h.0 xs ys x y h.2 (subst (λ (t : List ℕ). Begins t ys y) rest k.2)) [
      | inl g ↦ inl (g.0, (let t = g.1 in cc), g.2)
      | inr g ↦ inr (g.0, (let t = g.1 in cc), g.2)
    ]

-- ---- signs are those of one tree

glyph : Sign → List ℕ
glyph Open = 40 ∷ []
glyph Close = 41 ∷ []
glyph (Atom bytes) = spelling (leaf bytes)

abbrev glyphs : List Sign → List ℕ
glyphs [] = []
glyphs (s ∷ more) = glyph s ++ glyphs more

glyphs_append : (xs ys : List Sign) → glyphs (xs ++ ys) ≡ glyphs xs ++ glyphs ys
glyphs_append [] ys = refl
glyphs_append (x ∷ xs) ys = ap (λ (s : List ℕ). glyph x ++ s) (glyphs_append xs ys) ∙ sym (append_assoc (glyph x) (glyphs xs) (glyphs ys))

mutual
  unfolding glyph

  spelled_signs : (t : Tree) → glyphs (signs t) ≡ spelling t
  spelled_signs (leaf bytes) = append-nil (spelling (leaf bytes))
  spelled_signs (branch r) = ap (λ (s : List ℕ). 40 ∷ s) (glyphs_append (row_signs r) (Close ∷ []) ∙ ap (λ (s : List ℕ). s ++ 41 ∷ []) (spelled_row r))

  spelled_row : (r : Row) → glyphs (row_signs r) ≡ spellings r
  spelled_row end = refl
  spelled_row (item t r) = glyphs_append (signs t) (row_signs r) ∙ (λ i. spelled_signs t i ++ spelled_row r i)

signs_injective : (t u : Tree) → signs t ≡ signs u → t ≡ u
signs_injective t u e =
    let same : spelling t ≡ spelling u = sym (spelled_signs t) ∙ ap glyphs e ∙ spelled_signs u in
    (one_spelling t u [] [] (ap (λ (s : List ℕ). s ++ []) same)).0

-- ---- no way on from a fault

tested : (t : Bool) (f g : AdvFault) → cond t (Some f) None ≡ Some g → t ≡ true
tested true f g e = refl
tested false f g e = absurd cc

bad_sign : (place n : ℕ) (s : Sign) (fault : AdvFault) → sign_fault place n s ≡ Some fault → ((s ≡ Close) × (n ≡ 0)) ⊎ ((s ≡ Open) × (n ≡ most_depth))
bad_sign place n Open fault e = inr (refl, eqb-true n most_depth (tested (eqb n most_depth) (Deep place) fault e))
bad_sign place n Close fault e = inl (refl, eqb-true n 0 (tested (eqb n 0) (BadByte place) fault e))
bad_sign place n (Atom bytes) fault e = absurd cc

no_way_on : (lists : OpenLists) (s : Sign) (zs whole : List Sign) (place : ℕ) (fault : AdvFault) → whole ≡ opening_signs lists ++ s ∷ zs → sign_fault place (length lists) s ≡ Some fault
    → (run 0 whole ≡ astray → ⊥) → deepest 0 whole ≤ most_depth → ⊥
no_way_on lists s zs whole place fault parts bad well shallow =
    elim (bad_sign place (length lists) s fault bad) [
      | inl closed ↦
          let none : 0 + length lists ≡ 0 = let n = closed.1 in omega arith in
          well (ap (run 0) (parts ∙ ap (λ (r : Sign). opening_signs lists ++ r ∷ zs) closed.0) ∙ run_opening 0 lists (Close ∷ zs) ∙ ap (λ (n : ℕ). run n (Close ∷ zs)) none)
      | inr opened ↦
          let deep = ap (deepest 0) (parts ∙ ap (λ (r : Sign). opening_signs lists ++ r ∷ zs) opened.0) ∙ deepest_opening 0 lists (Open ∷ zs) in
          let n = opened.1 in
          omega (arith, deepest_le (suc (0 + length lists)) zs)
    ]

run_open : (lists : OpenLists) → run 0 (opening_signs lists) ≡ going (length lists)
run_open lists =
    let e : 0 + length lists ≡ length lists = omega arith in
    ap (run 0) (sym (append-nil (opening_signs lists))) ∙ run_opening 0 lists [] ∙ ap going e

run_whole : (t : Tree) → run 0 (signs t) ≡ done []
run_whole t = ap (run 0) (sym (append-nil (signs t))) ∙ run_tree 0 t []

deepest_open : (lists : OpenLists) → deepest 0 (opening_signs lists) ≡ max (open_depth lists) (length lists)
deepest_open lists = omega (arith, ap (deepest 0) (append-nil (opening_signs lists)), deepest_opening 0 lists [])

deepest_whole : (t : Tree) → deepest 0 (signs t) ≡ depth t
deepest_whole t = omega (arith, ap (deepest 0) (append-nil (signs t)), deepest_tree 0 t [])

going_done : (n : ℕ) (xs : List Sign) → going n ≡ done xs → ⊥
going_done n xs e = cc

going_astray : (n : ℕ) → going n ≡ astray → ⊥
going_astray n e = cc

done_astray : (xs : List Sign) → done xs ≡ astray → ⊥
done_astray xs e = cc

-- a fault stands where no way goes on
stopped : (text rest last : List ℕ) (lists : OpenLists) (found : Found) (fault : AdvFault) (zs whole : List Sign) → IsAt (without_front is_space_byte rest) found
    → fault_of (place_of text (without_front is_space_byte rest)) (length lists) found ≡ Some fault → whole ≡ opening_signs lists ++ zs → Begins rest zs last
    → (run 0 whole ≡ astray → ⊥) → deepest 0 whole ≤ most_depth → zs ≡ []
stopped text rest last lists found fault [] whole at is parts goes well shallow = refl
stopped text rest last lists found fault (s ∷ zs) whole at is parts goes well shallow =
    let place = place_of text (without_front is_space_byte rest) in
    let same = one_here (without_front is_space_byte rest) found (sign s goes.0) at goes.1 in
    absurd (no_way_on lists s zs whole place fault parts (ap (fault_of place (length lists)) (sym same) ∙ is) well shallow)

-- ---- no fault where an expression is

no_fault : (bytes : List ℕ) (tree : Sexp) (n : ℕ) (fault : AdvFault) → IsExpression bytes tree n → IsFirstAdvFault bytes fault → ⊥
no_fault bytes tree n fault read first =
    let t = tree_of tree in
    elim (one_way bytes (signs t) (opening_signs first.lists) (drop n bytes) first.rest read.spelled first.begins) [
      | inl g ↦ going_done (length first.lists) g.0 (sym (run_open first.lists) ∙ ap (run 0) g.1 ∙ run_tree 0 t g.0)
      | inr g ↦
          let none = stopped bytes first.rest (drop n bytes) first.lists first.found fault g.0 (signs t) first.stands first.is g.1 g.2
          (λ e. done_astray [] (sym (run_whole t) ∙ e)) (omega (arith, deepest_whole t, read.shallow)) in
          going_done (length first.lists) []
          (sym (run_open first.lists) ∙ ap (run 0) (sym (append-nil (opening_signs first.lists)) ∙ ap (λ (zs : List Sign). opening_signs first.lists ++ zs) (sym none) ∙ sym g.1) ∙ run_whole t)
    ]

-- ---- one fault

abbrev some_fault : AdvFault → Option AdvFault
some_fault f = Some f

same_fault : (bytes : List ℕ) (f g : AdvFault) (a : IsFirstAdvFault bytes f) (b : IsFirstAdvFault bytes g) (zs : List Sign) → opening_signs b.lists ≡ opening_signs a.lists ++ zs → Begins a.rest zs b.rest → f ≡ g
same_fault bytes f g a b zs parts goes =
    let none = stopped bytes a.rest b.rest a.lists a.found f zs (opening_signs b.lists) a.stands a.is parts goes
    (λ e. going_astray (length b.lists) (sym (run_open b.lists) ∙ e)) (omega (arith, deepest_open b.lists, length_le_open_depth b.lists, b.shallow)) in
    let rest : a.rest ≡ b.rest = subst (λ (ws : List Sign). Begins a.rest ws b.rest) none goes in
    let same-signs : opening_signs b.lists ≡ opening_signs a.lists = parts ∙ ap (λ (ws : List Sign). opening_signs a.lists ++ ws) none ∙ append-nil (opening_signs a.lists) in
    let counts : going (length b.lists) ≡ going (length a.lists) = sym (run_open b.lists) ∙ ap (run 0) same-signs ∙ run_open a.lists in
    let count : length b.lists ≡ length a.lists = cc in
    let found : b.found ≡ a.found =
    one_here (without_front is_space_byte a.rest) b.found a.found (subst (λ (t : List ℕ). IsAt (without_front is_space_byte t) b.found) (sym rest) b.stands) a.stands in
    let moved : fault_of (place_of bytes (without_front is_space_byte b.rest)) (length b.lists) b.found ≡ fault_of (place_of bytes (without_front is_space_byte a.rest)) (length a.lists) a.found =
    λ i. fault_of (place_of bytes (without_front is_space_byte (sym rest i))) (count i) (found i) in
    let both : some_fault f ≡ some_fault g = sym a.is ∙ sym moved ∙ b.is in
    cc

-- ---- one expression

done_same : (xs ys : List Sign) → done xs ≡ done ys → xs ≡ ys
done_same xs ys e = cc

same_place : (bytes : List ℕ) (m n : ℕ) → m ≤ length bytes → n ≤ length bytes → drop m bytes ≡ drop n bytes → m ≡ n
same_place bytes m n h g e = omega (arith, ap length e, length-drop m bytes, length-drop n bytes)

same_expression : (bytes : List ℕ) (a b : Sexp) (m n : ℕ) (h : IsExpression bytes a m) (k : IsExpression bytes b n) (zs : List Sign) → signs (tree_of b) ≡ signs (tree_of a) ++ zs
    → Begins (drop m bytes) zs (drop n bytes) → (a ≡ b) × (m ≡ n)
same_expression bytes a b m n h k zs parts goes =
    let none : zs ≡ [] = done_same zs [] (sym (run_tree 0 (tree_of a) zs) ∙ ap (run 0) (sym parts) ∙ run_whole (tree_of b)) in
    let same-signs : signs (tree_of a) ≡ signs (tree_of b) = sym (parts ∙ ap (λ (ws : List Sign). signs (tree_of a) ++ ws) none ∙ append-nil (signs (tree_of a))) in
    let rest : drop m bytes ≡ drop n bytes = subst (λ (ws : List Sign). Begins (drop m bytes) ws (drop n bytes)) none goes in
    (tree_of_injective a b (signs_injective (tree_of a) (tree_of b) same-signs), same_place bytes m n h.within k.within rest)

-- ---- the law

pub one_answer : (bytes : List ℕ) (a b : Result (Sexp × ℕ) AdvFault) → ReadsAdvanced bytes a → ReadsAdvanced bytes b → a ≡ b
one_answer bytes (Ok x) (Ok y) h k =
    elim (one_way bytes (signs (tree_of x.0)) (signs (tree_of y.0)) (drop x.1 bytes) (drop y.1 bytes) h.spelled k.spelled) [
      | inl g ↦ let s = same_expression bytes x.0 y.0 x.1 y.1 h k g.0 g.1 g.2 in λ i. Ok (s.0 i, s.1 i)
      | inr g ↦ let s = same_expression bytes y.0 x.0 y.1 x.1 k h g.0 g.1 g.2 in λ i. Ok (sym s.0 i, sym s.1 i)
    ]
one_answer bytes (Ok x) (Err g) h first = absurd (no_fault bytes x.0 x.1 g h first)
one_answer bytes (Err f) (Ok y) first k = absurd (no_fault bytes y.0 y.1 f k first)
one_answer bytes (Err f) (Err g) a b =
    elim (one_way bytes (opening_signs a.lists) (opening_signs b.lists) a.rest b.rest a.begins b.begins) [
      | inl way ↦ ap Err (same_fault bytes f g a b way.0 way.1 way.2)
      | inr way ↦ ap Err (sym (same_fault bytes g f b a way.0 way.1 way.2))
    ]

-- an answer that is one of those of the bytes is the only one
pub only : (bytes : List ℕ) (r : Result (Sexp × ℕ) AdvFault) → IfOk r (λ read. IsExpression bytes read.0 read.1) → IfErr r (λ fault. (fault ≡ NoMemory) ⊎ IsFirstAdvFault bytes fault)
    → (answer : Result (Sexp × ℕ) AdvFault) → ReadsAdvanced bytes answer → (r ≡ Err NoMemory) ⊎ (r ≡ answer)
only bytes (Ok read) found failed answer h = inr (one_answer bytes (Ok read) answer found h)
only bytes (Err fault) found (inl memory) answer h = inl (ap Err memory)
only bytes (Err fault) found (inr first) answer h = inr (one_answer bytes (Err fault) answer first h)
