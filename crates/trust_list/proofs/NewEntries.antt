-- What a new entry says, and of whom.
use Rattle.std.proofs.Common.{◌≡◌, ◌≢◌, ◌/◌, ◌%◌, ◌==◌, ℕ, zero, suc, Bool, true, false, cond, ◌&&◌, List, [], ◌∷◌, ◌++◌, length, map, Option, Some, None, refl, sym, ap, ap₂, ◌∙◌, inl, inr, slice_index, append_assoc, arith}
use Rattle.std.proofs.lemmas.{Bool.{and_parts, eqb-true, false_from_ne_true, not-true}, List.{Elements.{All-weaker, All-append, All-cons, All-nil}, Splits.{slice_split_none, slice_split_at}, Sums.AllPass-from_list_all}}
use Rattle.std.{proofs.lemmas.Slice.Eq.bytes_eq-Decides, specs.{Prelude.{not, nat_le}, Char.to_ascii_uppercase, List.{All, list_all, filter, filter_map, cons_option, slice_split}, Str.bytes_eq}}
use Rattle.{hex.{specs.Hex.{IsBytes, decode_of, encode_upper, encode_with, upper_digits}, proofs.HexLemmas.{decode_of-encode_upper, length-encode_with}}, assuan_text.specs.{Blanks.is_blank, LineEnds.is_lf, Words.words}}
use Rattle.trust_list.{specs.{Entries.{are_pairs, capital_digits, is_colon, is_flag, is_in_pairs, first_word_judgement, judgement_of, spells}, Trust.{entry, IsNewFlag, judgements, with_entry}}, proofs.LastLines.judgements_append}

-- no colon, blank, line feed or `!`, and no lowercase letter
abbrev pub is_plain : ℕ → Bool
is_plain c = not (is_colon c) && (not (is_blank c) && (not (is_lf c) && (not (c == 33) && to_ascii_uppercase c == c)))

pub record IsPlain (c : ℕ) : Type 0 where
  pub colon : is_colon c ≡ false
  pub blank : is_blank c ≡ false
  pub lf : is_lf c ≡ false
  pub exclamation : (c == 33) ≡ false
  pub capital : to_ascii_uppercase c ≡ c

pub IsPlain_from_test : (c : ℕ) → is_plain c ≡ true → IsPlain c
IsPlain_from_test c plain =
    let one = and_parts (not (is_colon c)) _ plain in
    let two = and_parts (not (is_blank c)) _ one.1 in
    let three = and_parts (not (is_lf c)) _ two.1 in
    let four = and_parts (not (c == 33)) _ three.1 in
    record {
      colon = not-true (is_colon c) one.0;
      blank = not-true (is_blank c) two.0;
      lf = not-true (is_lf c) three.0;
      exclamation = not-true (c == 33) four.0;
      capital = eqb-true (to_ascii_uppercase c) c four.1;
    }

plain_at : (table : List ℕ) (place : ℕ) → list_all is_plain table ≡ true → is_plain (slice_index table place) ≡ true
plain_at [] place all = refl
plain_at (c ∷ table) zero all = (and_parts (is_plain c) (list_all is_plain table) all).0
plain_at (c ∷ table) (suc place) all = plain_at table place (and_parts (is_plain c) (list_all is_plain table) all).1

plain_digits : (bytes : List ℕ) → list_all is_plain (encode_upper bytes) ≡ true
unfolding encode_with
plain_digits [] = refl
plain_digits (byte ∷ bytes) =
    ap₂ (λ x y. x && y) (plain_at upper_digits (byte / 16) refl)
    (ap₂ (λ x y. x && y) (plain_at upper_digits (byte % 16) refl) (plain_digits bytes))

-- forty plain digits
pub record AreDigits (text : List ℕ) : Type 0 where
  pub plain : list_all is_plain text ≡ true
  pub len : length text ≡ 40

pub AreDigits_encode_upper : (bytes : List ℕ) → length bytes ≡ 20 → AreDigits (encode_upper bytes)
AreDigits_encode_upper bytes len =
    record { plain = plain_digits bytes; len = omega (arith, len, length-encode_with upper_digits bytes) }

each : (test : ℕ → Bool) → ((c : ℕ) → IsPlain c → test c ≡ false) → (text : List ℕ) → list_all is_plain text ≡ true → All (λ c. test c ≡ false) text
each test fails text plain =
    All-weaker (λ c. is_plain c ≡ true) (λ c. test c ≡ false) (λ c p. fails c (IsPlain_from_test c p)) text
    (AllPass-from_list_all is_plain text plain)

capital : (text : List ℕ) → list_all is_plain text ≡ true → capital_digits text ≡ text
capital [] plain = refl
capital (c ∷ text) plain =
    let parts = and_parts (is_plain c) (list_all is_plain text) plain in
    let first = IsPlain_from_test c parts.0 in
    let others = filter (λ byte. not (is_colon byte)) text in
    ap (λ b. map to_ascii_uppercase (cond (not b) (c ∷ others) others)) first.colon
    ∙ ap₂ (λ (d : ℕ) (ds : List ℕ). d ∷ ds) first.capital (capital text parts.1)

in_pairs : (text : List ℕ) → AreDigits text → is_in_pairs text ≡ true
in_pairs text are =
    ap (list_all are_pairs) (slice_split_none is_colon text (each is_colon (λ c p. p.colon) text are.plain))
    ∙ ap (λ n. (nat_le 1 n && n % 2 == 0) && true) are.len

spelled : (digits text : List ℕ) → AreDigits text → spells digits text ≡ bytes_eq text digits
spelled digits text are =
    ap (λ b. b && bytes_eq (capital_digits text) digits) (in_pairs text are)
    ∙ ap (λ (t : List ℕ). bytes_eq t digits) (capital text are.plain)

judgement_at_digits : (digits text : List ℕ) → AreDigits text → first_word_judgement digits text ≡ cond (bytes_eq text digits) (Some true) None
judgement_at_digits digits [] are = absurd (omega (arith, are.len))
judgement_at_digits digits (c ∷ text) are =
    let first = IsPlain_from_test c (and_parts (is_plain c) (list_all is_plain text) are.plain).0 in
    ap (λ b. cond b (cond (spells digits text) (Some false) None) (cond (spells digits (c ∷ text)) (Some true) None)) first.exclamation
    ∙ ap (λ b. cond b (Some true) None) (spelled digits (c ∷ text) are)

record IsPlainFlag (flag : ℕ) : Type 0 where
  blank : is_blank flag ≡ false
  lf : is_lf flag ≡ false
  known : is_flag (flag ∷ []) ≡ true

IsPlainFlag_from_new : (flag : ℕ) → IsNewFlag flag → IsPlainFlag flag
IsPlainFlag_from_new flag new =
    elim new [
      | inl is ↦ record { blank = ap is_blank is; lf = ap is_lf is; known = ap (λ c. is_flag (c ∷ [])) is }
      | inr is ↦ record { blank = ap is_blank is; lf = ap is_lf is; known = ap (λ c. is_flag (c ∷ [])) is }
    ]

abbrev line_of : List ℕ → ℕ → List ℕ
line_of text flag = text ++ 32 ∷ flag ∷ []

filled : List (List ℕ) → List (List ℕ)
filled parts = filter (λ word. nat_le 1 (length word)) parts

words_line : (text : List ℕ) (flag : ℕ) → AreDigits text → IsPlainFlag flag → words (line_of text flag) ≡ text ∷ (flag ∷ []) ∷ []
unfolding filled
words_line text flag are is =
    ap filled (slice_split_at is_blank text 32 (flag ∷ []) (each is_blank (λ c p. p.blank) text are.plain) refl)
    ∙ ap (λ b. filled (text ∷ cond b ([] ∷ [] ∷ []) ((flag ∷ []) ∷ []))) is.blank
    ∙ ap (λ n. cond (nat_le 1 n) (text ∷ (flag ∷ []) ∷ []) ((flag ∷ []) ∷ [])) are.len

judgement_of_line : (digits text : List ℕ) (flag : ℕ) → AreDigits text → IsPlainFlag flag → judgement_of digits (words (line_of text flag)) ≡ cond (bytes_eq text digits) (Some true) None
judgement_of_line digits text flag are is =
    ap (judgement_of digits) (words_line text flag are is)
    ∙ ap (λ b. cond b (first_word_judgement digits text) None) is.known
    ∙ judgement_at_digits digits text are

lines_entry : (f : List ℕ) (flag : ℕ) → length f ≡ 20 → IsPlainFlag flag → slice_split is_lf (entry f flag) ≡ line_of (encode_upper f) flag ∷ [] ∷ []
lines_entry f flag len is =
    let lf = λ (c : ℕ). is_lf c ≡ false in
    let text = encode_upper f in
    ap (slice_split is_lf) (sym (append_assoc text (32 ∷ flag ∷ []) (10 ∷ [])))
    ∙ slice_split_at is_lf (line_of text flag) 10 []
    (All-append lf text (32 ∷ flag ∷ []) (each is_lf (λ c p. p.lf) text (plain_digits f)) (All-cons lf 32 (flag ∷ []) refl (All-cons lf flag [] is.lf (All-nil lf)))) refl

-- that an entry of f says of g: that it is trusted, where they are one
abbrev pub new_judgements : List ℕ → List ℕ → List Bool
new_judgements f g = cons_option (cond (bytes_eq (encode_upper f) (encode_upper g)) (Some true) None) []

-- after all that the file said
pub judgements_with_entry : (file f g : List ℕ) (flag : ℕ) → length f ≡ 20 → IsNewFlag flag → judgements (with_entry file f flag) g ≡ judgements file g ++ new_judgements f g
judgements_with_entry file f g flag len new =
    let is = IsPlainFlag_from_new flag new in
    let judge = λ (line : List ℕ). judgement_of (encode_upper g) (words line) in
    judgements_append judge refl file (entry f flag)
    ∙ ap (λ (ms : List Bool). judgements file g ++ ms)
    (ap (filter_map judge) (lines_entry f flag len is)
    ∙ ap (λ (m : Option Bool). cons_option m []) (judgement_of_line (encode_upper g) (encode_upper f) flag (AreDigits_encode_upper f len) is))

same_bytes : (f g : List ℕ) → IsBytes f → IsBytes g → encode_upper f ≡ encode_upper g → f ≡ g
same_bytes f g fits fits' e =
    let decoded : decode_of (encode_upper f) ≡ decode_of (encode_upper g) = ap decode_of e in
    cc (sym (decode_of-encode_upper f fits) ∙ decoded ∙ decode_of-encode_upper g fits')

pub same_digits : (f : List ℕ) → bytes_eq (encode_upper f) (encode_upper f) ≡ true
same_digits f = (bytes_eq-Decides (encode_upper f) (encode_upper f)).1 refl

pub other_digits : (f g : List ℕ) → IsBytes f → IsBytes g → g ≢ f → bytes_eq (encode_upper f) (encode_upper g) ≡ false
other_digits f g fits fits' other =
    false_from_ne_true (bytes_eq (encode_upper f) (encode_upper g))
    (λ e. other (sym (same_bytes f g fits fits' ((bytes_eq-Decides (encode_upper f) (encode_upper g)).0 e))))
