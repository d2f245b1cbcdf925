-- What is written reads as the tree again.
use Rattle.std.proofs.Common.{◌≡◌, ℕ, zero, suc, ◌+◌, ◌*◌, ◌/◌, ◌%◌, ◌<◌, ◌≤◌, Bool, true, false, eqb, ◌||◌, ◌&&◌, List, [], ◌∷◌, ◌++◌, length, drop, Some, Ok, refl, sym, ap, subst, ◌∙◌, ◌⊎◌, inl, inr, append_assoc, arith, length-append}
use Rattle.std.{proofs.lemmas.{Bool.{eqb-true, ne_eqb, Decides.nat_tests}, List.append-nil}, specs.Char.is_ascii_digit}
use Rattle.sexp_canonical.{specs.{Tree.{Tree, Row, leaf, branch, end, item}, View.tree_of, Spelling.{most_depth, depth}, declared.tree.Sexp.Sexp}, proofs.Faults.or_true}
use Rattle.sexp_advanced.specs.{Bytes.{is_space_byte, is_token_mark, is_token_start, is_token_byte, hex_value, class_of, front_of, without_front}, Pieces.{byte, low_digit, pair_here, pair}, Signs.{sign, Spells, IsDelimited, IsOf, IsAt}}
use Rattle.sexp_advanced.specs.{Reading.{signs, row_signs, Begins, ReadsAdvanced}, Writing.{are_token_bytes, is_token, hex_glyph, hex_pairs, advanced, row_text, spaced_row, advanced_of, EndsToken}}
use Rattle.sexp_advanced.specs.{Octets.{AreOctets, IsOfOctets, AreOfOctets}, declared.{bytes.Class.{Class, TheVariants.Token}, pieces.Form.TheVariants.Hexadecimal as InHexadecimal, signs.Sign.{Sign, TheVariants.{Close, Atom}}}}
use Rattle.sexp_advanced.proofs.Open.{begins_more}

-- ---- tokens

pub and_true : (a b : Bool) → (a && b) ≡ true → (a ≡ true) × (b ≡ true)
and_true true b e = (refl, e)
and_true false b e = absurd cc

clash : (t : Bool) → t ≡ true → t ≡ false → ⊥
clash true e f = cc
clash false e f = cc

-- a test that fails at a byte tells it from one where the test holds
tells : (p : ℕ → Bool) (b c : ℕ) → p b ≡ true → p c ≡ false → b ≡ c → ⊥
tells p b c e f same = clash (p c) (sym (ap p same) ∙ e) f

pub not_true : (t : Bool) → (t ≡ true → ⊥) → t ≡ false
not_true true h = absurd (h refl)
not_true false h = refl

start_no_blank : (b : ℕ) → is_token_start b ≡ true → is_space_byte b ≡ false
unfolding is_token_start is_token_mark is_space_byte
start_no_blank b e = not_true (is_space_byte b) (λ blank.
    elim (or_true _ _ blank) [
      | inr cr ↦ tells is_token_start b 13 e refl (eqb-true b 13 cr)
      | inl more ↦ elim (or_true _ _ more) [
        | inr lf ↦ tells is_token_start b 10 e refl (eqb-true b 10 lf)
        | inl most ↦ elim (or_true _ _ most) [
          | inr tab ↦ tells is_token_start b 9 e refl (eqb-true b 9 tab)
          | inl space ↦ tells is_token_start b 32 e refl (eqb-true b 32 space)
        ]
      ]
    ])

start_no_digit : (b : ℕ) → is_token_start b ≡ true → is_ascii_digit b ≡ false
unfolding is_token_start is_token_mark
start_no_digit b e = grind (arith, nat_tests)

start_is_no : (b c : ℕ) → is_token_start b ≡ true → is_token_start c ≡ false → eqb b c ≡ false
start_is_no b c e f = ne_eqb b c (tells is_token_start b c e f)

-- no mark of another item begins a token
start_no_mark : (b : ℕ) → is_token_start b ≡ true → (eqb b 40 ≡ false) × (eqb b 41 ≡ false) × (eqb b 35 ≡ false) × (eqb b 34 ≡ false)
unfolding is_token_start is_token_mark
start_no_mark b e = (start_is_no b 40 e refl, start_is_no b 41 e refl, start_is_no b 35 e refl, start_is_no b 34 e refl)

start_class : (b : ℕ) → is_token_start b ≡ true → class_of b ≡ Token
unfolding class_of
start_class b e =
    let marks = start_no_mark b e in
    let m0 = marks.0 in
    let m1 = marks.1 in
    let m2 = marks.2 in
    let m3 = marks.3 in
    let digit = start_no_digit b e in
    rw m0 (rw m1 (rw m2 (rw m3 (rw digit (rw e refl)))))

start_goes : (b : ℕ) → is_token_start b ≡ true → is_token_byte b ≡ true
unfolding is_token_byte
start_goes b e = rw e refl

front_whole : (bytes x : List ℕ) → are_token_bytes bytes ≡ true → EndsToken x → front_of is_token_byte (bytes ++ x) ≡ bytes
front_whole [] [] h e = refl
front_whole [] (b ∷ x) h e = rw e refl
front_whole (b ∷ bytes) x h e =
    let parts = and_true (is_token_byte b) (are_token_bytes bytes) h in
    let goes = parts.0 in
    rw goes (ap (λ (s : List ℕ). b ∷ s) (front_whole bytes x parts.1 e))

rest_whole : (bytes x : List ℕ) → are_token_bytes bytes ≡ true → EndsToken x → without_front is_token_byte (bytes ++ x) ≡ x
rest_whole [] [] h e = refl
rest_whole [] (b ∷ x) h e = rw e refl
rest_whole (b ∷ bytes) x h e =
    let parts = and_true (is_token_byte b) (are_token_bytes bytes) h in
    let goes = parts.0 in
    rw goes (rest_whole bytes x parts.1 e)

token_again : (bytes x : List ℕ) → is_token bytes ≡ true → EndsToken x → Begins (bytes ++ x) (Atom bytes ∷ []) x
token_again [] x h e = absurd cc
token_again (b ∷ bytes) x h e =
    let parts = and_true (is_token_start b) (are_token_bytes bytes) h in
    let whole : are_token_bytes (b ∷ bytes) ≡ true = let g = start_goes b parts.0 in rw g parts.1 in
    let blank : is_space_byte b ≡ false = start_no_blank b parts.0 in
    let front : without_front is_space_byte (b ∷ (bytes ++ x)) ≡ b ∷ (bytes ++ x) = rw blank refl in
    let is : sign (Atom (b ∷ bytes)) x ≡ sign (Atom (front_of is_token_byte (b ∷ (bytes ++ x)))) (without_front is_token_byte (b ∷ (bytes ++ x))) =
    λ i. sign (Atom (sym (front_whole (b ∷ bytes) x whole e) i)) (sym (rest_whole (b ∷ bytes) x whole e) i) in
    let here : IsAt (b ∷ (bytes ++ x)) (sign (Atom (b ∷ bytes)) x) =
    subst (λ (k : Class). IsOf k (b ∷ (bytes ++ x)) (bytes ++ x) (sign (Atom (b ∷ bytes)) x)) (sym (start_class b parts.0)) is in
    (x, subst (λ (t : List ℕ). IsAt t (sign (Atom (b ∷ bytes)) x)) (sym front) here, refl)

-- ---- hexadecimal

abbrev IsGlyph : ℕ → Type 0
IsGlyph n = (hex_value (hex_glyph n) ≡ Some n) × (is_space_byte (hex_glyph n) ≡ false) × (eqb (hex_glyph n) 35 ≡ false)

glyphs_below : (n : ℕ) → n < 16 → IsGlyph n
unfolding hex_value is_space_byte
glyphs_below zero h = (refl, refl, refl)
glyphs_below (suc zero) h = (refl, refl, refl)
glyphs_below (suc (suc zero)) h = (refl, refl, refl)
glyphs_below (suc (suc (suc zero))) h = (refl, refl, refl)
glyphs_below (suc (suc (suc (suc zero)))) h = (refl, refl, refl)
glyphs_below (suc (suc (suc (suc (suc zero))))) h = (refl, refl, refl)
glyphs_below (suc (suc (suc (suc (suc (suc zero)))))) h = (refl, refl, refl)
glyphs_below (suc (suc (suc (suc (suc (suc (suc zero))))))) h = (refl, refl, refl)
glyphs_below (suc (suc (suc (suc (suc (suc (suc (suc n)))))))) h = glyphs_above n (omega arith)
  where
    glyphs_above : (m : ℕ) → m < 8 → IsGlyph (suc (suc (suc (suc (suc (suc (suc (suc m))))))))
    glyphs_above zero g = (refl, refl, refl)
    glyphs_above (suc zero) g = (refl, refl, refl)
    glyphs_above (suc (suc zero)) g = (refl, refl, refl)
    glyphs_above (suc (suc (suc zero))) g = (refl, refl, refl)
    glyphs_above (suc (suc (suc (suc zero)))) g = (refl, refl, refl)
    glyphs_above (suc (suc (suc (suc (suc zero))))) g = (refl, refl, refl)
    glyphs_above (suc (suc (suc (suc (suc (suc zero)))))) g = (refl, refl, refl)
    glyphs_above (suc (suc (suc (suc (suc (suc (suc zero))))))) g = (refl, refl, refl)
    glyphs_above (suc (suc (suc (suc (suc (suc (suc (suc m)))))))) g = absurd (omega arith)

low_again : (high low : ℕ) (rest : List ℕ) → low < 16 → low_digit high (hex_glyph low ∷ rest) ≡ byte (16 * high + low) rest
unfolding low_digit
low_again high low rest h =
    let glyph = glyphs_below low h in
    let value = glyph.0 in
    rw (value, low_digit) refl

pair_again : (b : ℕ) (rest : List ℕ) → b < 256 → pair (hex_glyph (b / 16) ∷ hex_glyph (b % 16) ∷ rest) ≡ byte b rest
unfolding pair pair_here
pair_again b rest h =
    let high = glyphs_below (b / 16) (omega arith) in
    let low = glyphs_below (b % 16) (omega arith) in
    let whole : 16 * (b / 16) + b % 16 ≡ b = omega arith in
    let front : without_front is_space_byte (hex_glyph (b % 16) ∷ rest) ≡ hex_glyph (b % 16) ∷ rest = let blank = low.1 in rw blank refl in
    let value = high.0 in
    let blank = high.1 in
    let mark = high.2 in
    rw blank (rw mark (rw value (ap (low_digit (b / 16)) front ∙ low_again (b / 16) (b % 16) rest (omega arith) ∙ ap (λ (n : ℕ). byte n rest) whole)))

pairs_again : (bytes x : List ℕ) → AreOctets bytes → Spells InHexadecimal (hex_pairs bytes ++ 35 ∷ x) bytes (35 ∷ x)
pairs_again [] x h = refl
pairs_again (b ∷ bytes) x h = (hex_pairs bytes ++ 35 ∷ x, pair_again b (hex_pairs bytes ++ 35 ∷ x) h.0, pairs_again bytes x h.1)

hex_again : (bytes x : List ℕ) → AreOctets bytes → Begins ((35 ∷ hex_pairs bytes ++ 35 ∷ []) ++ x) (Atom bytes ∷ []) x
unfolding is_space_byte class_of pair pair_here
hex_again bytes x h =
    let text : hex_pairs bytes ++ 35 ∷ x ≡ (hex_pairs bytes ++ 35 ∷ []) ++ x = sym (append_assoc (hex_pairs bytes) (35 ∷ []) x) in
    let here : IsDelimited InHexadecimal (hex_pairs bytes ++ 35 ∷ x) (sign (Atom bytes) x) = record { bytes = bytes; at = 35 ∷ x; spelled = pairs_again bytes x h; is = refl } in
    (x, subst (λ (t : List ℕ). IsDelimited InHexadecimal t (sign (Atom bytes) x)) text here, refl)

leaf_again : (bytes x : List ℕ) → AreOctets bytes → EndsToken x → Begins (advanced (leaf bytes) ++ x) (Atom bytes ∷ []) x
leaf_again bytes x h e = by_test bytes x h e (is_token bytes) refl
  where
    by_test : (bs y : List ℕ) → AreOctets bs → EndsToken y → (t : Bool) → is_token bs ≡ t → Begins (advanced (leaf bs) ++ y) (Atom bs ∷ []) y
    by_test bs y g f true is = rw is (token_again bs y is f)
    by_test bs y g f false is = rw is (hex_again bs y g)

-- ---- lists

blank_before : (text rest : List ℕ) (xs : List Sign) → (xs ≡ [] → ⊥) → Begins text xs rest → Begins (32 ∷ text) xs rest
unfolding is_space_byte
blank_before text rest [] some h = absurd (some refl)
blank_before text rest (x ∷ xs) some h = h

some_signs : (t : Tree) (xs : List Sign) → signs t ++ xs ≡ [] → ⊥
some_signs (leaf bytes) xs e = cc
some_signs (branch r) xs e = cc

spaced_ends : (r : Row) (y : List ℕ) → EndsToken y → EndsToken (spaced_row r ++ y)
unfolding is_token_byte is_token_start is_token_mark
spaced_ends end y e = e
spaced_ends (item t r) y e = refl

first_from : (t : Tree) (r : Row) (y : List ℕ) → Begins (advanced t ++ (spaced_row r ++ y)) (signs t) (spaced_row r ++ y) → Begins (spaced_row r ++ y) (row_signs r) y
    → Begins ((advanced t ++ spaced_row r) ++ y) (signs t ++ row_signs r) y
first_from t r y h g =
    let parts : advanced t ++ (spaced_row r ++ y) ≡ (advanced t ++ spaced_row r) ++ y = sym (append_assoc (advanced t) (spaced_row r) y) in
    subst (λ (s : List ℕ). Begins s (signs t ++ row_signs r) y) parts (begins_more (advanced t ++ (spaced_row r ++ y)) (spaced_row r ++ y) y (signs t) (row_signs r) h g)

mutual
  unfolding is_space_byte class_of is_token_byte is_token_start is_token_mark

  pub tree_again : (t : Tree) (x : List ℕ) → IsOfOctets t → EndsToken x → Begins (advanced t ++ x) (signs t) x
  tree_again (leaf bytes) x h e = leaf_again bytes x h e
  tree_again (branch r) x h e =
      let inside = begins_more (row_text r ++ 41 ∷ x) (41 ∷ x) x (row_signs r) (Close ∷ []) (row_again r (41 ∷ x) h refl) (x, refl, refl) in
      let text : row_text r ++ 41 ∷ x ≡ (row_text r ++ 41 ∷ []) ++ x = sym (append_assoc (row_text r) (41 ∷ []) x) in
      ((row_text r ++ 41 ∷ []) ++ x, refl, subst (λ (t : List ℕ). Begins t (row_signs r ++ Close ∷ []) x) text inside)

  row_again : (r : Row) (y : List ℕ) → AreOfOctets r → EndsToken y → Begins (row_text r ++ y) (row_signs r) y
  row_again end y h e = refl
  row_again (item t r) y h e = first_from t r y (tree_again t (spaced_row r ++ y) h.0 (spaced_ends r y e)) (spaced_again r y h.1 e)

  spaced_again : (r : Row) (y : List ℕ) → AreOfOctets r → EndsToken y → Begins (spaced_row r ++ y) (row_signs r) y
  spaced_again end y h e = refl
  spaced_again (item t r) y h e =
      blank_before ((advanced t ++ spaced_row r) ++ y) y (signs t ++ row_signs r) (some_signs t (row_signs r))
      (first_from t r y (tree_again t (spaced_row r ++ y) h.0 (spaced_ends r y e)) (spaced_again r y h.1 e))

-- ---- the law

pub drop_front : (xs ys : List ℕ) → drop (length xs) (xs ++ ys) ≡ ys
drop_front [] ys = refl
drop_front (x ∷ xs) ys = drop_front xs ys

front_by_test : (t : Bool) (b : ℕ) (blanks text : List ℕ) → is_space_byte b ≡ t → (without_front is_space_byte blanks ≡ [] → without_front is_space_byte (blanks ++ text) ≡ without_front is_space_byte text)
    → without_front is_space_byte (b ∷ blanks) ≡ [] → without_front is_space_byte (b ∷ (blanks ++ text)) ≡ without_front is_space_byte text
front_by_test true b blanks text e again h = rw e (again (rw e at h))
front_by_test false b blanks text e again h = let none : b ∷ blanks ≡ [] = (rw e at h) in absurd cc

pub blanks_front : (blanks text : List ℕ) → without_front is_space_byte blanks ≡ [] → without_front is_space_byte (blanks ++ text) ≡ without_front is_space_byte text
blanks_front [] text h = refl
blanks_front (b ∷ blanks) text h = front_by_test (is_space_byte b) b blanks text refl (blanks_front blanks text) h

blanks_before : (blanks text rest : List ℕ) (xs : List Sign) → (xs ≡ [] → ⊥) → without_front is_space_byte blanks ≡ [] → Begins text xs rest → Begins (blanks ++ text) xs rest
blanks_before blanks text rest [] some h g = absurd (some refl)
blanks_before blanks text rest (x ∷ xs) some h g = (g.0, subst (λ (t : List ℕ). IsAt t (sign x g.0)) (sym (blanks_front blanks text h)) g.1, g.2)

not_none : (t : Tree) → signs t ≡ [] → ⊥
not_none (leaf bytes) e = cc
not_none (branch r) e = cc

pub written_again : (tree : Sexp) (blanks more : List ℕ) → without_front is_space_byte blanks ≡ [] → IsOfOctets (tree_of tree) → depth (tree_of tree) ≤ most_depth → EndsToken more
    → ReadsAdvanced (blanks ++ (advanced_of tree ++ more)) (Ok (tree, length (blanks ++ advanced_of tree)))
written_again tree blanks more before octets shallow ends =
    let parts : (blanks ++ advanced_of tree) ++ more ≡ blanks ++ (advanced_of tree ++ more) = append_assoc blanks (advanced_of tree) more in
    let last : drop (length (blanks ++ advanced_of tree)) (blanks ++ (advanced_of tree ++ more)) ≡ more =
    ap (drop (length (blanks ++ advanced_of tree))) (sym parts) ∙ drop_front (blanks ++ advanced_of tree) more in
    record {
      within = omega (arith, ap length parts, length-append (blanks ++ advanced_of tree) more);
      shallow = shallow;
      spelled = subst (Begins (blanks ++ (advanced_of tree ++ more)) (signs (tree_of tree))) (sym last)
          (blanks_before blanks (advanced_of tree ++ more) more (signs (tree_of tree)) (not_none (tree_of tree)) before (tree_again (tree_of tree) more octets ends));
    }

pub whole_again : (text : List ℕ) (tree : Sexp) → text ≡ advanced_of tree → IsOfOctets (tree_of tree) → depth (tree_of tree) ≤ most_depth → ReadsAdvanced text (Ok (tree, length text))
whole_again text tree e octets shallow =
    subst (λ (s : List ℕ). ReadsAdvanced s (Ok (tree, length text))) (append-nil (advanced_of tree) ∙ sym e)
    (subst (λ (n : ℕ). ReadsAdvanced (advanced_of tree ++ []) (Ok (tree, n))) (ap length (sym e)) (written_again tree [] [] refl octets shallow tt))
