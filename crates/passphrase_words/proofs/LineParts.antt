-- Ids and texts as parts of a line: their lengths, and that no line feed is among them.
use Rattle.std.proofs.Common.{◌≡◌, ◌+◌, ◌*◌, ◌/◌, ◌%◌, ◌≤◌, ◌<◌, ◌^◌, ℕ, Bool, true, false, cond, List, [], ◌∷◌, ◌++◌, suc, length, slice_index, Option, Some, None, refl, sym, ap, subst, ◌∙◌, arith, length-append}
use Rattle.std.proofs.lemmas.{Bool.{and_parts, or_from, eqb-true, cond_both, Decides.nat_tests}, Fmt.digits_decimal, List.Folds.{list_any-append, list_all_at}, Str.Parse.{tells_all_ascii_digits, numerals_by_value}}
use Rattle.std.specs.{Prelude.{codes, decimal, not, ◌==◌, ◌&&◌, nat_le}, Char.is_ascii_digit, List.{flat_map, list_all}, Str.{all_ascii_digits, bytes_eq}}
use Rattle.{assuan_line.specs.Lines.IsLine, assuan_text.specs.{Blanks.is_blank, LineEnds.{is_lf, has_lf}}, hex.{proofs.HexLemmas.length-encode_with, specs.Hex.{encode_with, encode_lower, lower_digits, IsBytes}}}
use Rattle.passphrase_words.specs.{Ids.{is_id_byte, has_id_form, is_id}, Requests.{hex_of, hex_digit}, Texts.{escape_of, word_of, prompt_word, description_or, texts_of, longest_line, Fits}}

-- a part that fails the test among these of a byte isn't a line feed
passing_no_lf : (test : ℕ → Bool) (byte : ℕ) (feed : Bool) → test 10 ≡ false → is_lf byte ≡ feed → test byte ≡ true → feed ≡ false
passing_no_lf test byte false never is passes = refl
passing_no_lf test byte true never is passes = absurd (cc (never, subst (λ (b : ℕ). test b ≡ true) (eqb-true byte 10 is) passes))

all_no_lf : (test : ℕ → Bool) (bytes : List ℕ) → test 10 ≡ false → list_all test bytes ≡ true → has_lf bytes ≡ false
all_no_lf test [] never all = refl
all_no_lf test (byte ∷ bytes) never all =
    let parts = and_parts (test byte) (list_all test bytes) all in
    or_from (is_lf byte) (has_lf bytes) (passing_no_lf test byte (is_lf byte) never refl parts.0) (all_no_lf test bytes never parts.1)

digits_no_lf : (digits : List ℕ) → all_ascii_digits digits ≡ true → has_lf digits ≡ false
digits_no_lf [] all = refl
digits_no_lf (byte ∷ more) all =
    let parts = and_parts (is_ascii_digit byte) (all_ascii_digits more) all in
    or_from (is_lf byte) (has_lf more) (passing_no_lf is_ascii_digit byte (is_lf byte) refl refl parts.0) (digits_no_lf more parts.1)

pub decimal_no_lf : (number : ℕ) → number < 2 ^ 64 → has_lf (decimal number) ≡ false
decimal_no_lf number small = digits_no_lf (decimal number) (digits_decimal (numerals_by_value (λ ds. all_ascii_digits ds ≡ true) tells_all_ascii_digits) number small)

append_no_lf : (one other : List ℕ) → has_lf one ≡ false → has_lf other ≡ false → has_lf (one ++ other) ≡ false
append_no_lf one other no_one no_other = list_any-append is_lf one other ∙ or_from (has_lf one) (has_lf other) no_one no_other

flat_no_lf : (word : ℕ → List ℕ) → ((byte : ℕ) → has_lf (word byte) ≡ false) → (bytes : List ℕ) → has_lf (flat_map word bytes) ≡ false
flat_no_lf word none [] = refl
flat_no_lf word none (byte ∷ bytes) = append_no_lf (word byte) (flat_map word bytes) (none byte) (flat_no_lf word none bytes)

-- parts of a line, and how long they are together
abbrev total : List (List ℕ) → ℕ
total [] = 0
total (part ∷ parts) = length part + total parts

abbrev pub HaveNoLf : List (List ℕ) → Type 0
HaveNoLf [] = Unit {0}
HaveNoLf (part ∷ parts) = (has_lf part ≡ false) × HaveNoLf parts

total_is : (parts : List (List ℕ)) → length (flat_map (λ part. part) parts) ≡ total parts
total_is [] = refl
total_is (part ∷ parts) = let more = total_is parts in omega (arith, length-append part (flat_map (λ p. p) parts), more)

parts_no_lf : (parts : List (List ℕ)) → HaveNoLf parts → has_lf (flat_map (λ part. part) parts) ≡ false
parts_no_lf [] none = refl
parts_no_lf (part ∷ parts) none = append_no_lf part (flat_map (λ p. p) parts) none.0 (parts_no_lf parts none.1)

pub parts_line : (parts : List (List ℕ)) → total parts ≤ 1000 → HaveNoLf parts → IsLine (flat_map (λ part. part) parts)
parts_line parts short none = record {
  short = omega (arith, total_is parts, short);
  whole = parts_no_lf parts none;
}

id_parts : (id : List ℕ) → is_id id ≡ true → (has_id_form id ≡ true) × (nat_le (length id) 50 ≡ true)
id_parts id is = and_parts (has_id_form id) (nat_le (length id) 50) is

pub id_no_lf : (id : List ℕ) → is_id id ≡ true → has_lf id ≡ false
id_no_lf id is =
    let form = (id_parts id is).0 in
    all_no_lf is_id_byte id refl (and_parts (nat_le 1 (length id) && not (bytes_eq id (codes "X")) && not (slice_index id 0 == 45)) (list_all is_id_byte id) form).1

pub id_short : (id : List ℕ) → is_id id ≡ true → length id ≤ 50
id_short id is = grind (arith, nat_tests, (id_parts id is).1)

-- no line feed is in an escape
escape_no_lf : (byte : ℕ) → has_lf (escape_of byte) ≡ false
escape_no_lf byte =
    cond_both (is_blank byte) (codes "+") (cond (byte == 37) (codes "%25") (cond (byte == 43) (codes "%2B") (cond (byte == 10) (codes "%0A") (cond (byte == 13) (codes "%0D") (byte ∷ [])))))
    (λ word. has_lf word ≡ false) (λ _. refl) (λ _.
    cond_both (byte == 37) (codes "%25") (cond (byte == 43) (codes "%2B") (cond (byte == 10) (codes "%0A") (cond (byte == 13) (codes "%0D") (byte ∷ []))))
    (λ word. has_lf word ≡ false) (λ _. refl) (λ _.
    cond_both (byte == 43) (codes "%2B") (cond (byte == 10) (codes "%0A") (cond (byte == 13) (codes "%0D") (byte ∷ [])))
    (λ word. has_lf word ≡ false) (λ _. refl) (λ _.
    cond_both (byte == 10) (codes "%0A") (cond (byte == 13) (codes "%0D") (byte ∷ []))
    (λ word. has_lf word ≡ false) (λ _. refl) (λ no_feed.
    cond_both (byte == 13) (codes "%0D") (byte ∷ [])
    (λ word. has_lf word ≡ false) (λ _. refl) (λ _. or_from (byte == 10) false no_feed refl)))))

word_no_lf : (text : List ℕ) → has_lf (word_of text) ≡ false
word_no_lf text = cond_both (bytes_eq text (codes "X")) (codes "%58") (flat_map escape_of text) (λ word. has_lf word ≡ false) (λ _. refl) (λ _. flat_no_lf escape_of escape_no_lf text)

prompt_no_lf : (prompt : Option (List ℕ)) → has_lf (prompt_word prompt) ≡ false
prompt_no_lf None = refl
prompt_no_lf (Some text) = word_no_lf text

pub texts_no_lf : (id : List ℕ) (prompt : Option (List ℕ)) (description : List ℕ) → has_lf (texts_of id prompt description) ≡ false
texts_no_lf id prompt description =
    append_no_lf (prompt_word prompt) (32 ∷ word_of (description_or id description)) (prompt_no_lf prompt) (word_no_lf (description_or id description))

-- the frame of the longest request, which the code adds up
pub longest_length : (id texts : List ℕ) → length (longest_line id texts) ≡ 36 + length id + length texts
longest_length id texts =
    omega (
      arith,
      length-append (codes "GET_PASSPHRASE --data --repeat=1 " ++ id ++ codes " X ") texts,
      length-append (codes "GET_PASSPHRASE --data --repeat=1 " ++ id) (codes " X "),
      length-append (codes "GET_PASSPHRASE --data --repeat=1 ") id,
    )

pub fits_short : (id texts : List ℕ) → Fits id texts → 36 + length id + length texts ≤ 1000
fits_short id texts fit = omega (arith, fit.short, longest_length id texts)

pub fits_from : (id texts : List ℕ) (prompt : Option (List ℕ)) (description : List ℕ) → is_id id ≡ true → texts ≡ texts_of id prompt description
    → length (longest_line id (texts_of id prompt description)) ≤ 1000 → Fits id texts
fits_from id texts prompt description is same short = record {
  id_is = is;
  short = subst (λ (t : List ℕ). length (longest_line id t) ≤ 1000) (sym same) short;
  whole = ap has_lf same ∙ texts_no_lf id prompt description;
}

-- hexadecimal digits
hex_digit_no_lf : (number : ℕ) → is_lf (hex_digit number) ≡ false
hex_digit_no_lf number = grind (arith, nat_tests)

hex_byte_no_lf : (byte : ℕ) → has_lf (hex_of byte) ≡ false
hex_byte_no_lf byte = or_from (is_lf (hex_digit (byte / 16))) (has_lf (hex_digit (byte % 16) ∷ [])) (hex_digit_no_lf (byte / 16))
    (or_from (is_lf (hex_digit (byte % 16))) false (hex_digit_no_lf (byte % 16)) refl)

pub hex_no_lf : (bytes : List ℕ) → has_lf (flat_map hex_of bytes) ≡ false
hex_no_lf bytes = flat_no_lf hex_of hex_byte_no_lf bytes

pub hex_length : (bytes : List ℕ) → length (flat_map hex_of bytes) ≡ 2 * length bytes
hex_length [] = refl
hex_length (byte ∷ bytes) = let more = hex_length bytes in omega (arith, more, length-append (hex_of byte) (flat_map hex_of bytes))

-- the digits of an askpass's id
digit_passes : (test : ℕ → Bool) (digits : List ℕ) (place : ℕ) (passes : Bool) → list_all test digits ≡ true → place < length digits → test (slice_index digits place) ≡ passes → passes ≡ true
digit_passes test digits place true all within is = refl
digit_passes test digits place false all within is = absurd (cc (all, list_all_at test digits place 0 within is))

encoded_passes : (bytes : List ℕ) → IsBytes bytes → list_all is_id_byte (encode_lower bytes) ≡ true
unfolding encode_with
encoded_passes [] small = refl
encoded_passes (byte ∷ bytes) small =
    let fits : byte < 256 = small 0 in
    let high : byte / 16 < 16 = omega arith in
    let low : byte % 16 < 16 = omega arith in
    let at_high : is_id_byte (slice_index lower_digits (byte / 16)) ≡ true = digit_passes is_id_byte lower_digits (byte / 16) _ refl high refl in
    let at_low : is_id_byte (slice_index lower_digits (byte % 16)) ≡ true = digit_passes is_id_byte lower_digits (byte % 16) _ refl low refl in
    both (is_id_byte (slice_index lower_digits (byte / 16))) (is_id_byte (slice_index lower_digits (byte % 16)) && list_all is_id_byte (encode_lower bytes)) at_high
    (both (is_id_byte (slice_index lower_digits (byte % 16))) (list_all is_id_byte (encode_lower bytes)) at_low (encoded_passes bytes (λ k. small (suc k))))
  where
    both : (a b : Bool) → a ≡ true → b ≡ true → (a && b) ≡ true
    both a b x y = ap (λ c. c && b) x ∙ y

pub askpass_is_id : (digest : List ℕ) → IsBytes digest → length digest ≡ 20 → is_id (codes "askpass:" ++ encode_lower digest) ≡ true
askpass_is_id digest small len =
    let digits = encode_lower digest in
    let word = codes "askpass:" ++ digits in
    let twice : length digits ≡ 40 = length-encode_with lower_digits digest ∙ ap (λ (n : ℕ). 2 * n) len in
    let at : length word ≡ 48 = length-append (codes "askpass:") digits ∙ ap (λ (n : ℕ). 8 + n) twice in
    ap (λ (n : ℕ). nat_le 1 n && not (bytes_eq word (codes "X")) && not (slice_index word 0 == 45) && list_all is_id_byte word && nat_le n 50) at
    ∙ ap (λ b. b && nat_le 48 50) (encoded_passes digest small)
