-- Steps of reading.
use Rattle.std.proofs.Common.{◌≡◌, ℕ, ◌+◌, ◌*◌, ◌-◌, ◌<◌, ◌≤◌, Bool, true, false, eqb, ltb, leb, ◌||◌, ◌&&◌, List, [], ◌∷◌, ◌++◌, length, get_or, take, drop, Some, refl, sym, ap, ◌∙◌, ◌⊎◌, inl, inr, append_assoc, arith, length-append}
use Rattle.std.{proofs.{Common.{length-drop, drop-cons, add-one}, lemmas.{List.{drop_all, drop-drop, take-append-drop, length-take}, Bool.{lt-ltb, ne_eqb, le-leb, lt-leb, eq-eqb}}}, specs.Char.is_ascii_digit}
use Rattle.sexp_canonical.specs.{Tree.leaf, View.tree_of, Spelling.{most_bytes, numeral, spelling, depth, spelling_of}, Reading.{length_fault, IsLengthFault}, Steps.{IsDigit, HasLength, HasAtom}, declared.tree.Sexp.{Sexp, TheVariants.Atom}}
use Rattle.sexp_canonical.{specs.declared.fault.SexpFault.{SexpFault, TheVariants.{BadByte, BadLength, Short}}, proofs.Numerals.{numeral_small, numeral_digit}}

-- the bytes from a place on begin with the byte there
pub drop_at_place : (text : List ℕ) (place : ℕ) → place < length text → drop place text ≡ get_or text place 0 ∷ drop (place + 1) text
drop_at_place text place h = rw (add-one, drop-cons text place 0) refl

-- up to the end stand the digits of a length
pub record IsNumeralUpTo (text : List ℕ) (place end count : ℕ) : Type 0 where
  pub small : count ≤ most_bytes
  pub within : end ≤ length text
  pub further : place < end
  pub parts : drop place text ≡ numeral count ++ drop end text

pub IsNumeralUpTo_first : (text : List ℕ) (place : ℕ) → IsDigit text place → IsNumeralUpTo text place (place + 1) (get_or text place 0 - 48)
IsNumeralUpTo_first text place digit =
    let low = digit.low in
    let high = digit.high in
    let glyph : 48 + (get_or text place 0 - 48) ≡ get_or text place 0 = omega arith in
    let small : get_or text place 0 - 48 < 10 = omega arith in
    record {
      small = omega arith;
      within = let h = digit.within in omega arith;
      further = omega arith;
      parts = drop_at_place text place digit.within ∙ sym (rw (numeral_small (get_or text place 0 - 48) small, glyph) refl);
    }

pub IsNumeralUpTo_more : (text : List ℕ) (place end count more : ℕ) → IsNumeralUpTo text place end count → end < length text → 48 ≤ get_or text end 0 → get_or text end 0 ≤ 57
    → 0 < count → more ≡ 10 * count + (get_or text end 0 - 48) → more ≤ most_bytes → IsNumeralUpTo text place (end + 1) more
IsNumeralUpTo_more text place end count more so_far within low high some more-is small =
    let d = get_or text end 0 - 48 in
    let glyph : 48 + d ≡ get_or text end 0 = omega arith in
    let longer : numeral more ≡ numeral count ++ get_or text end 0 ∷ [] = ap numeral more-is ∙ numeral_digit count d some (omega arith) ∙ ap (λ (b : ℕ). numeral count ++ b ∷ []) glyph in
    let f = so_far.further in
    record {
      small = small;
      within = omega arith;
      further = omega arith;
      parts = so_far.parts ∙ ap (λ (s : List ℕ). numeral count ++ s) (drop_at_place text end within) ∙ sym (rw longer (append_assoc (numeral count) (get_or text end 0 ∷ []) (drop (end + 1) text)));
    }

-- the fault of the byte behind a numeral
at_byte : (text : List ℕ) (place end count : ℕ) (fault : SexpFault) → IsNumeralUpTo text place end count → end < length text
    → length_fault place count (get_or text end 0 ∷ drop (end + 1) text) ≡ Some fault → IsLengthFault place (drop place text) fault
at_byte text place end count fault so_far within at = record {
  count = count;
  after = get_or text end 0 ∷ drop (end + 1) text;
  within = so_far.small;
  parts = so_far.parts ∙ ap (λ (s : List ℕ). numeral count ++ s) (drop_at_place text end within);
  at = at;
}

pub is_digit_from_bounds : (b : ℕ) → 48 ≤ b → b ≤ 57 → is_ascii_digit b ≡ true
is_digit_from_bounds b low high = rw (le-leb 48 b low, le-leb b 57 high) refl

or_first : (a b : Bool) → a ≡ true → (a || b) ≡ true
or_first true b e = refl
or_first false b e = absurd cc

or_second : (a b : Bool) → b ≡ true → (a || b) ≡ true
or_second true b e = refl
or_second false b e = e

pub bad_length : (text : List ℕ) (place end count : ℕ) → IsNumeralUpTo text place end count → end < length text → 48 ≤ get_or text end 0 → get_or text end 0 ≤ 57
    → (count ≡ 0) ⊎ (most_bytes < 10 * count + (get_or text end 0 - 48)) → IsLengthFault place (drop place text) (BadLength place)
unfolding length_fault
bad_length text place end count so_far within low high too_far =
    let digit : is_ascii_digit (get_or text end 0) ≡ true = is_digit_from_bounds (get_or text end 0) low high in
    let test : (eqb count 0 || ltb most_bytes (10 * count + (get_or text end 0 - 48))) ≡ true =
    elim too_far [
      | inl z ↦ or_first (eqb count 0) (ltb most_bytes (10 * count + (get_or text end 0 - 48))) (eq-eqb count 0 z)
      | inr lt ↦ or_second (eqb count 0) (ltb most_bytes (10 * count + (get_or text end 0 - 48))) (lt-ltb most_bytes (10 * count + (get_or text end 0 - 48)) lt)
    ] in
    at_byte text place end count (BadLength place) so_far within (rw (digit, test) refl)

length_is : (text : List ℕ) (place end count : ℕ) → IsNumeralUpTo text place end count → place + length (numeral count) ≡ end
length_is text place end count so_far =
    let f = so_far.further in
    let w = so_far.within in
    omega (arith, ap length so_far.parts, length-append (numeral count) (drop end text), length-drop place text, length-drop end text)

bad_byte : (text : List ℕ) (place end count : ℕ) → IsNumeralUpTo text place end count → end < length text → is_ascii_digit (get_or text end 0) ≡ false → (get_or text end 0 ≡ 58 → ⊥) → IsLengthFault place (drop place text) (BadByte end)
unfolding length_fault
bad_byte text place end count so_far within other no_colon =
    let colon : eqb (get_or text end 0) 58 ≡ false = ne_eqb (get_or text end 0) 58 no_colon in
    at_byte text place end count (BadByte end) so_far within (rw (other, colon, length_is text place end count so_far) refl)

and_second : (a b : Bool) → b ≡ false → (a && b) ≡ false
and_second true b e = e
and_second false b e = refl

pub not_digit_low : (b : ℕ) → b < 48 → is_ascii_digit b ≡ false
not_digit_low b h = rw (lt-leb 48 b h) refl

pub not_digit_high : (b : ℕ) → 57 < b → is_ascii_digit b ≡ false
not_digit_high b h = and_second (leb 48 b) (leb b 57) (lt-leb b 57 h)

pub bad_byte_low : (text : List ℕ) (place end count : ℕ) → IsNumeralUpTo text place end count → end < length text → get_or text end 0 < 48 → IsLengthFault place (drop place text) (BadByte end)
bad_byte_low text place end count so_far within low = bad_byte text place end count so_far within (not_digit_low (get_or text end 0) low) (λ same. omega arith)

pub bad_byte_high : (text : List ℕ) (place end count : ℕ) → IsNumeralUpTo text place end count → end < length text → 57 < get_or text end 0 → (get_or text end 0 ≡ 58 → ⊥) → IsLengthFault place (drop place text) (BadByte end)
bad_byte_high text place end count so_far within high no_colon = bad_byte text place end count so_far within (not_digit_high (get_or text end 0) high) no_colon

pub cut_short : (text : List ℕ) (place end count : ℕ) → IsNumeralUpTo text place end count → length text ≤ end → IsLengthFault place (drop place text) Short
unfolding length_fault
cut_short text place end count so_far past = record {
  count = count;
  after = [];
  within = so_far.small;
  parts = so_far.parts ∙ ap (λ (s : List ℕ). numeral count ++ s) (drop_all end text past);
  at = refl;
}

-- ---- the bytes of an atom

pub missing_bytes : (text : List ℕ) (place count start : ℕ) → HasLength text place (count, start) → length text - start < count → IsLengthFault place (drop place text) Short
unfolding length_fault
missing_bytes text place count start read missing =
    let w = read.within in
    let few : ltb (length (drop start text)) count ≡ true = lt-ltb (length (drop start text)) count (omega (arith, length-drop start text)) in
    record { count = count; after = 58 ∷ drop start text; within = read.small; parts = read.parts; at = rw few refl }

pub has_atom : (text : List ℕ) (place count start end : ℕ) (tree : Sexp) → HasLength text place (count, start) → count ≤ length text - start → end ≡ start + count
    → tree ≡ Atom (take (end - start) (drop start text)) → HasAtom text place (tree, end)
has_atom text place count start end tree read enough end-is tree-is =
    let w = read.within in
    let f = read.further in
    let size : end - start ≡ count = omega arith in
    let bytes = take count (drop start text) in
    let len : length bytes ≡ count = omega (arith, length-take count (drop start text), length-drop start text) in
    let leaf-is : tree_of tree ≡ leaf bytes = ap tree_of tree-is ∙ ap (λ (n : ℕ). leaf (take n (drop start text))) size in
    let spelled : spelling_of tree ≡ numeral count ++ 58 ∷ bytes = ap spelling leaf-is ∙ ap (λ (n : ℕ). numeral n ++ 58 ∷ bytes) len in
    let behind : drop count (drop start text) ≡ drop end text = drop-drop count start text ∙ ap (λ (n : ℕ). drop n text) (omega arith) in
    let cut : drop start text ≡ bytes ++ drop end text = sym (take-append-drop count (drop start text)) ∙ ap (λ (s : List ℕ). bytes ++ s) behind in
    record {
      within = omega arith;
      further = omega arith;
      flat = ap depth leaf-is;
      parts = read.parts ∙ ap (λ (s : List ℕ). numeral count ++ 58 ∷ s) cut ∙ sym (rw spelled (append_assoc (numeral count) (58 ∷ bytes) (drop end text)));
    }
