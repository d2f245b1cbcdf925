-- Escapes: that they are undone, how long they are, and that they hold no line feed.
use Rattle.std.proofs.Common.{◌≡◌, ℕ, zero, suc, ◌+◌, ◌*◌, ◌<◌, ◌≤◌, ◌==◌, true, false, List, [], ◌∷◌, ◌++◌, length, take, get_or, append-nil, All, refl, ap, ◌∙◌, ⊎_elim, arith, length-append}
use Rattle.std.proofs.lemmas.{Bool.{cond-true, cond-false, cases_Bool, cases_lt, Decides.nat_tests}, List.{take_more, Elements.{All-head, All-tail}, Folds.list_any-append, Concat.flat_map-append}}
use Rattle.{percent_encoding.{specs.Percent.{percent_encode_byte, percent_decode}, proofs.PercentLemmas.{IsByte, percent_decode-nil, percent_decode_not_percent, percent_decode-percent_encode_byte}}, assuan_text.specs.LineEnds.has_lf}
use Rattle.assuan_escape.specs.Escapes.{hex_digits, hex_text, is_escaped, escape_of, escapes}

pub escape_of_escaped : (byte : ℕ) → is_escaped byte ≡ true → escape_of byte ≡ 37 ∷ hex_digits byte
escape_of_escaped byte e = cond-true _ _ _ e

pub escape_of_plain : (byte : ℕ) → is_escaped byte ≡ false → escape_of byte ≡ byte ∷ []
escape_of_plain byte e = cond-false _ _ _ e

undone_here : (byte : ℕ) (rest : List ℕ) → byte < 256 → percent_decode ((37 ∷ hex_digits byte) ++ rest) ≡ byte ∷ percent_decode rest
unfolding percent_encode_byte
undone_here byte rest small = percent_decode-percent_encode_byte byte rest small

-- what was escaped is read again
pub percent_decode_escapes : (bytes : List ℕ) → All IsByte bytes → percent_decode (escapes bytes) ≡ bytes
percent_decode_escapes [] small = percent_decode-nil
percent_decode_escapes (byte ∷ bytes) small =
    let rest = ap (λ x. byte ∷ x) (percent_decode_escapes bytes (All-tail IsByte byte bytes small)) in
    ⊎_elim
    (λ e. ap (λ x. percent_decode (x ++ escapes bytes)) (escape_of_escaped byte e) ∙ undone_here byte (escapes bytes) (All-head IsByte byte bytes small) ∙ rest)
    (λ e. ap (λ x. percent_decode (x ++ escapes bytes)) (escape_of_plain byte e) ∙ percent_decode_not_percent byte (escapes bytes) (λ percent. grind (arith, nat_tests)) ∙ rest)
    (cases_Bool (is_escaped byte))

-- more bytes have no shorter escapes
pub length_escapes_le : (bytes : List ℕ) (m n : ℕ) → m ≤ n → length (escapes (take m bytes)) ≤ length (escapes (take n bytes))
length_escapes_le [] zero n le = omega arith
length_escapes_le [] (suc m) zero le = absurd (omega arith)
length_escapes_le [] (suc m) (suc n) le = omega arith
length_escapes_le (byte ∷ bytes) zero n le = omega arith
length_escapes_le (byte ∷ bytes) (suc m) zero le = absurd (omega arith)
length_escapes_le (byte ∷ bytes) (suc m) (suc n) le =
    omega (arith, length-append (escape_of byte) (escapes (take m bytes)), length-append (escape_of byte) (escapes (take n bytes)), length_escapes_le bytes m n (omega arith))

-- the digits are no line feed
pub has_lf_hex_digits : (byte : ℕ) → has_lf (hex_digits byte) ≡ false
has_lf_hex_digits byte = grind (arith, nat_tests)

has_lf_escape_of : (byte : ℕ) → has_lf (escape_of byte) ≡ false
has_lf_escape_of byte =
    ⊎_elim
    (λ e. ap has_lf (escape_of_escaped byte e) ∙ has_lf_hex_digits byte)
    (λ e. ap has_lf (escape_of_plain byte e) ∙ grind (arith, nat_tests))
    (cases_Bool (is_escaped byte))

no_lf : (xs ys : List ℕ) → has_lf xs ≡ false → has_lf ys ≡ false → has_lf (xs ++ ys) ≡ false
no_lf xs ys first second = list_any-append (λ byte. byte == 10) xs ys ∙ grind (arith, nat_tests)

pub has_lf_escapes : (bytes : List ℕ) → has_lf (escapes bytes) ≡ false
has_lf_escapes [] = refl
has_lf_escapes (byte ∷ bytes) =
    no_lf (escape_of byte) (escapes bytes) (has_lf_escape_of byte) (has_lf_escapes bytes)

pub has_lf_hex_text : (bytes : List ℕ) → has_lf (hex_text bytes) ≡ false
has_lf_hex_text [] = refl
has_lf_hex_text (byte ∷ bytes) =
    no_lf (hex_digits byte) (hex_text bytes) (has_lf_hex_digits byte) (has_lf_hex_text bytes)

-- what is appended holds no line feed
pub stays_one_line : (old new bytes : List ℕ) → new ≡ old ++ escapes bytes → has_lf old ≡ false → has_lf new ≡ false
stays_one_line old new bytes written whole = ap has_lf written ∙ no_lf old (escapes bytes) whole (has_lf_escapes bytes)

pub length_hex_text : (bytes : List ℕ) → length (hex_text bytes) ≡ 2 * length bytes
length_hex_text [] = refl
length_hex_text (byte ∷ bytes) = omega (arith, length_hex_text bytes)

-- one byte more has its own escape more
escapes_take_more : (bytes : List ℕ) (count : ℕ) → count < length bytes → length (escapes (take (count + 1) bytes)) ≡ length (escapes (take count bytes)) + length (escape_of (get_or bytes count 0))
escapes_take_more bytes count inside =
    ap (λ (x : List ℕ). length (escapes x)) (take_more bytes count 0 inside)
    ∙ ap length (flat_map-append escape_of (take count bytes) (get_or bytes count 0 ∷ []))
    ∙ length-append (escapes (take count bytes)) (escape_of (get_or bytes count 0) ++ [])
    ∙ ap (λ (x : List ℕ). length (escapes (take count bytes)) + length x) (append-nil (escape_of (get_or bytes count 0)))

-- where the next escape doesn't fit, no more bytes do
pub no_more_fit : (bytes old new : List ℕ) (count : ℕ) → count < length bytes → new ≡ old ++ escapes (take count bytes) → 1000 < length new + length (escape_of (get_or bytes count 0))
    → (more : ℕ) → more ≤ length bytes → length old + length (escapes (take more bytes)) ≤ 1000 → more ≤ count
no_more_fit bytes old new count inside written full more within fits =
    ⊎_elim
    (λ less. omega (arith, length_escapes_le bytes (count + 1) more (omega arith), escapes_take_more bytes count inside, ap length written, length-append old (escapes (take count bytes))))
    (λ le. le)
    (cases_lt count more)
