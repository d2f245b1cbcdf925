-- Words behind one another are read as they were written, and texts as they were meant.
use Rattle.std.proofs.Common.{◌≡◌, ◌≢◌, ℕ, ◌≤◌, ◌==◌, Bool, true, false, cond, List, [], ◌∷◌, ◌++◌, length, map, codes, inl, inr, refl, ap, sym, ◌∙◌, arith, length-append}
use Rattle.std.proofs.lemmas.{Bool.{le-leb, cases_Bool, cond-true, cond-false, or_parts, or_from, eqb-true, eqb-false, false_from_ne_true, false≢true}, List.{map-append, Folds.list_any-append}}
use Rattle.std.{proofs.lemmas.{List.Splits.{slice_split-cons_yes, slice_split-cons_no}, Slice.Eq.bytes_eq-Decides}, specs.{Prelude.{nat_le, if◌then◌else◌}, List.{flat_map, list_any, filter, slice_split, onto_first}, Str.bytes_eq}}
use Rattle.{assuan_escape.specs.Escapes.{unescaped, with_blanks}, assuan_text.specs.{Blanks.is_blank, Words.words}, passphrase_words.specs.Texts.{escape_of, word_of}}
use Rattle.percent_encoding.{proofs.PercentLemmas.{percent_decode-nil, percent_decode_not_percent, percent_decode-percent_encode_byte}, specs.Percent.{percent_decode, percent_encode_byte}}

-- a word: some bytes, and no blank among them
pub record IsWord (word : List ℕ) : Type 0 where
  pub some : 1 ≤ length word
  pub whole : list_any is_blank word ≡ false

split_front : (word rest : List ℕ) → list_any is_blank word ≡ false → slice_split is_blank (word ++ 32 ∷ rest) ≡ word ∷ slice_split is_blank rest
split_front [] rest whole = slice_split-cons_yes is_blank 32 rest refl
split_front (byte ∷ word) rest whole =
    let parts = or_parts (is_blank byte) (list_any is_blank word) whole in
    slice_split-cons_no is_blank byte (word ++ 32 ∷ rest) parts.0 ∙ ap (onto_first byte) (split_front word rest parts.1)

split_alone : (word : List ℕ) → list_any is_blank word ≡ false → slice_split is_blank word ≡ word ∷ []
split_alone [] whole = refl
split_alone (byte ∷ word) whole =
    let parts = or_parts (is_blank byte) (list_any is_blank word) whole in
    slice_split-cons_no is_blank byte word parts.0 ∙ ap (onto_first byte) (split_alone word parts.1)

pub next_word : (word rest : List ℕ) → IsWord word → words (word ++ 32 ∷ rest) ≡ word ∷ words rest
next_word word rest is =
    ap (λ (pieces : List (List ℕ)). filter (λ w. nat_le 1 (length w)) pieces) (split_front word rest is.whole)
    ∙ ap (λ (b : Bool). cond b (word ∷ words rest) (words rest)) (le-leb 1 (length word) is.some)

pub last_word : (word : List ℕ) → IsWord word → words word ≡ word ∷ []
last_word word is =
    ap (λ (pieces : List (List ℕ)). filter (λ w. nat_le 1 (length w)) pieces) (split_alone word is.whole)
    ∙ ap (λ (b : Bool). cond b (word ∷ []) []) (le-leb 1 (length word) is.some)

-- ---- texts

-- a byte as it is read: a tab counts as a blank
abbrev pub blank_of : ℕ → ℕ
blank_of byte = if is_blank byte then 32 else byte

decode_plus : (rest : List ℕ) → percent_decode (37 ∷ 50 ∷ 66 ∷ rest) ≡ 43 ∷ percent_decode rest
unfolding percent_encode_byte
decode_plus rest = percent_decode-percent_encode_byte 43 rest (omega arith)

decode_percent : (rest : List ℕ) → percent_decode (37 ∷ 50 ∷ 53 ∷ rest) ≡ 37 ∷ percent_decode rest
unfolding percent_encode_byte
decode_percent rest = percent_decode-percent_encode_byte 37 rest (omega arith)

decode_lf : (rest : List ℕ) → percent_decode (37 ∷ 48 ∷ 65 ∷ rest) ≡ 10 ∷ percent_decode rest
unfolding percent_encode_byte
decode_lf rest = percent_decode-percent_encode_byte 10 rest (omega arith)

decode_cr : (rest : List ℕ) → percent_decode (37 ∷ 48 ∷ 68 ∷ rest) ≡ 13 ∷ percent_decode rest
unfolding percent_encode_byte
decode_cr rest = percent_decode-percent_encode_byte 13 rest (omega arith)

decode_x : (rest : List ℕ) → percent_decode (37 ∷ 53 ∷ 56 ∷ rest) ≡ 88 ∷ percent_decode rest
unfolding percent_encode_byte
decode_x rest = percent_decode-percent_encode_byte 88 rest (omega arith)

-- what is written for a byte is part of a word, and read as it
record Escape (byte : ℕ) (text : List ℕ) : Type 0 where
  some : 1 ≤ length text
  whole : list_any is_blank text ≡ false
  read : (rest : List ℕ) → percent_decode (with_blanks text ++ rest) ≡ blank_of byte ∷ percent_decode rest

stays : (byte value : ℕ) → is_blank byte ≡ false → byte ≡ value → value ≡ blank_of byte
stays byte value plain is = sym is ∙ sym (cond-false (is_blank byte) 32 byte plain)

read_so : (byte value : ℕ) (text rest : List ℕ) → percent_decode (text ++ rest) ≡ value ∷ percent_decode rest → value ≡ blank_of byte → percent_decode (text ++ rest) ≡ blank_of byte ∷ percent_decode rest
read_so byte value text rest decodes is = decodes ∙ ap (λ (v : ℕ). v ∷ percent_decode rest) is

escape_by : (byte : ℕ) (blank percent plus lf cr : Bool) → is_blank byte ≡ blank → (byte == 37) ≡ percent → (byte == 43) ≡ plus → (byte == 10) ≡ lf → (byte == 13) ≡ cr
    → Escape byte (if blank then codes "+" else if percent then codes "%25" else if plus then codes "%2B" else if lf then codes "%0A" else if cr then codes "%0D" else byte ∷ [])
escape_by byte true percent plus lf cr a b c d e = record {
  some = omega arith;
  whole = refl;
  read = λ rest. read_so byte 32 (32 ∷ []) rest (percent_decode_not_percent 32 rest (λ is. omega (arith, is))) (sym (cond-true (is_blank byte) 32 byte a));
}
escape_by byte false true plus lf cr a b c d e =
    record { some = omega arith; whole = refl; read = λ rest. read_so byte 37 (codes "%25") rest (decode_percent rest) (stays byte 37 a (eqb-true byte 37 b)) }
escape_by byte false false true lf cr a b c d e =
    record { some = omega arith; whole = refl; read = λ rest. read_so byte 43 (codes "%2B") rest (decode_plus rest) (stays byte 43 a (eqb-true byte 43 c)) }
escape_by byte false false false true cr a b c d e =
    record { some = omega arith; whole = refl; read = λ rest. read_so byte 10 (codes "%0A") rest (decode_lf rest) (stays byte 10 a (eqb-true byte 10 d)) }
escape_by byte false false false false true a b c d e =
    record { some = omega arith; whole = refl; read = λ rest. read_so byte 13 (codes "%0D") rest (decode_cr rest) (stays byte 13 a (eqb-true byte 13 e)) }
escape_by byte false false false false false a b c d e = record {
  some = omega arith;
  whole = or_from (is_blank byte) false a refl;
  read = λ rest. ap (λ (v : ℕ). percent_decode (v ∷ rest)) (cond-false (byte == 43) 32 byte c)
      ∙ read_so byte byte (byte ∷ []) rest (percent_decode_not_percent byte rest (eqb-false byte 37 b)) (stays byte byte a refl);
}

escaped : (byte : ℕ) → Escape byte (escape_of byte)
escaped byte = escape_by byte (is_blank byte) (byte == 37) (byte == 43) (byte == 10) (byte == 13) refl refl refl refl refl

whole_flat : (bytes : List ℕ) → list_any is_blank (flat_map escape_of bytes) ≡ false
whole_flat [] = refl
whole_flat (byte ∷ bytes) =
    list_any-append is_blank (escape_of byte) (flat_map escape_of bytes)
    ∙ or_from (list_any is_blank (escape_of byte)) (list_any is_blank (flat_map escape_of bytes)) (escaped byte).whole (whole_flat bytes)

some_flat : (bytes : List ℕ) → bytes ≢ [] → 1 ≤ length (flat_map escape_of bytes)
some_flat [] not = absurd (not refl)
some_flat (byte ∷ bytes) not = omega (arith, (escaped byte).some, length-append (escape_of byte) (flat_map escape_of bytes))

read_flat : (bytes : List ℕ) → percent_decode (with_blanks (flat_map escape_of bytes)) ≡ map blank_of bytes
read_flat [] = percent_decode-nil
read_flat (byte ∷ bytes) =
    ap percent_decode (map-append (λ b. if b == 43 then 32 else b) (escape_of byte) (flat_map escape_of bytes))
    ∙ (escaped byte).read (with_blanks (flat_map escape_of bytes)) ∙ ap (λ (t : List ℕ). blank_of byte ∷ t) (read_flat bytes)

-- a text's word
pub record TextWord (bytes word : List ℕ) : Type 0 where
  pub word_is : bytes ≢ [] → IsWord word
  pub read : unescaped true word ≡ map blank_of bytes
  pub not_x : bytes_eq word (codes "X") ≡ false

is_88 : (byte : ℕ) → blank_of byte ≡ 88 → byte ≡ 88
is_88 byte is = elim (cases_Bool (is_blank byte)) [
  | inl blank ↦ let both : 32 ≡ 88 = sym (cond-true (is_blank byte) 32 byte blank) ∙ is in absurd (omega (arith, both))
  | inr plain ↦ sym (cond-false (is_blank byte) 32 byte plain) ∙ is
]

only_x : (bytes : List ℕ) → map blank_of bytes ≡ codes "X" → bytes ≡ codes "X"
only_x [] is = absurd (cc is)
only_x (byte ∷ []) is = ap (λ (b : ℕ). b ∷ []) (is_88 byte (cc is))
only_x (byte ∷ next ∷ more) is = absurd (cc is)

word_by : (bytes : List ℕ) (x : Bool) → bytes_eq bytes (codes "X") ≡ x → TextWord bytes (if x then codes "%58" else flat_map escape_of bytes)
word_by bytes true is = record {
  word_is = λ some. record { some = omega arith; whole = refl };
  read = decode_x [] ∙ ap (λ (t : List ℕ). 88 ∷ t) percent_decode-nil ∙ sym (ap (λ (b : List ℕ). map blank_of b) ((bytes_eq-Decides bytes (codes "X")).0 is));
  not_x = refl;
}
word_by bytes false is = record {
  word_is = λ some. record { some = some_flat bytes some; whole = whole_flat bytes };
  read = read_flat bytes;
  not_x = false_from_ne_true (bytes_eq (flat_map escape_of bytes) (codes "X")) (λ same.
      let word : flat_map escape_of bytes ≡ codes "X" = (bytes_eq-Decides (flat_map escape_of bytes) (codes "X")).0 same in
      let one : map blank_of bytes ≡ codes "X" =
      sym (read_flat bytes) ∙ ap (λ (w : List ℕ). percent_decode (with_blanks w)) word ∙ percent_decode_not_percent 88 [] (λ e. omega (arith, e)) ∙ ap (λ (t : List ℕ). 88 ∷ t) percent_decode-nil in
      false≢true (sym is ∙ (bytes_eq-Decides bytes (codes "X")).1 (only_x bytes one)));
}

pub text_word : (bytes : List ℕ) → TextWord bytes (word_of bytes)
text_word bytes = word_by bytes (bytes_eq bytes (codes "X")) refl
