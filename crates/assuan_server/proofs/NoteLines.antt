-- The lines that tell a client of a prompt or of a limit, or ask it for a passphrase.
use Rattle.std.proofs.{Common.{◌≡◌, ◌+◌, ◌≤◌, ◌<◌, ◌^◌, ℕ, Bool, true, false, List, [], ◌∷◌, ◌++◌, length, inl, inr, refl, sym, subst, ◌∙◌, arith, length-append}, lemmas.Bool.{and_parts, or_parts, or_from, eqb-true, Decides.eqb_tells}}
use Rattle.std.{proofs.lemmas.{Fmt.digits_decimal, List.Folds.list_any-append, Str.Parse.{tells_all_ascii_digits, numerals_by_value}}, specs.{Prelude.{codes, decimal}, Char.is_ascii_digit, Str.all_ascii_digits}}
use Rattle.{assuan_line.specs.Lines.IsLine, assuan_text.specs.LineEnds.{is_lf, has_lf}}
use Rattle.assuan_server.specs.{Inquiries.inquire_text, Written.status_text}

-- the text that tells the client of a prompt in the process of this number
abbrev pub note_text : ℕ → List ℕ
note_text pid = inquire_text (codes "PINENTRY_LAUNCHED") (decimal pid)

digit_no_lf : (byte : ℕ) (feed : Bool) → is_lf byte ≡ feed → is_ascii_digit byte ≡ true → is_lf byte ≡ false
digit_no_lf byte false is digit = is
digit_no_lf byte true is digit = absurd (cc (sym (subst (λ (b : ℕ). is_ascii_digit b ≡ true) (eqb-true byte 10 is) digit)))

digits_no_lf : (digits : List ℕ) → all_ascii_digits digits ≡ true → has_lf digits ≡ false
digits_no_lf [] all = refl
digits_no_lf (byte ∷ more) all =
    let parts = and_parts (is_ascii_digit byte) (all_ascii_digits more) all in
    or_from (is_lf byte) (has_lf more) (digit_no_lf byte (is_lf byte) refl parts.0) (digits_no_lf more parts.1)

pub decimal_no_lf : (number : ℕ) → number < 2 ^ 64 → has_lf (decimal number) ≡ false
decimal_no_lf number small = digits_no_lf (decimal number) (digits_decimal (numerals_by_value (λ ds. all_ascii_digits ds ≡ true) tells_all_ascii_digits) number small)

-- a text in two parts is a line
joined_line : (first second : List ℕ) → length first + length second ≤ 1000 → has_lf first ≡ false → has_lf second ≡ false → IsLine (first ++ second)
joined_line first second short whole other = record {
  short = omega (arith, length-append first second);
  whole = list_any-append is_lf first second ∙ rw (whole, other) refl;
}

text_is : (count : ℕ) (digits : List ℕ) → length digits ≡ count → 0 < count → inquire_text (codes "PINENTRY_LAUNCHED") digits ≡ codes "INQUIRE PINENTRY_LAUNCHED " ++ digits
text_is count [] is some = absurd (omega (arith, is, some))
text_is count (digit ∷ digits) is some = elim (eqb_tells (length (digit ∷ digits)) 0) [
  | inl none ↦ absurd (omega (arith, none.1))
  | inr more ↦ rw more.0 refl
]

pub note_is_line : (pid : ℕ) → pid < 2 ^ 64 → 0 < length (decimal pid) → length (decimal pid) ≤ 40 → IsLine (note_text pid)
note_is_line pid small some short =
    subst IsLine (sym (text_is (length (decimal pid)) (decimal pid) refl some))
    (joined_line (codes "INQUIRE PINENTRY_LAUNCHED ") (decimal pid) (omega (arith, short)) refl (decimal_no_lf pid small))

pub limit_is_line : (limit : ℕ) → limit < 2 ^ 64 → length (decimal limit) ≤ 40 → IsLine (status_text (codes "INQUIRE_MAXLEN") (decimal limit))
limit_is_line limit small short = joined_line (codes "S INQUIRE_MAXLEN ") (decimal limit) (omega (arith, short)) refl (decimal_no_lf limit small)

pub wish_is_line : (word : List ℕ) → length word ≤ 992 → IsLine word → IsLine (inquire_text word [])
wish_is_line word short line = joined_line (codes "INQUIRE ") word (omega (arith, short)) refl line.whole

-- the line of a word is longer than the word
pub wish_no_line : (word : List ℕ) → 992 < length word → ¬ IsLine (inquire_text word [])
wish_no_line word long line = omega (arith, line.short, long, length-append (codes "INQUIRE ") word)

-- nor does a word fit that isn't a line
pub wish_unfit : (word : List ℕ) → ¬ IsLine word → ¬ IsLine (inquire_text word [])
wish_unfit word unfit line = unfit (record {
  short = omega (arith, line.short, length-append (codes "INQUIRE ") word);
  whole = (or_parts false (has_lf word) (sym (list_any-append is_lf (codes "INQUIRE ") word) ∙ line.whole)).1;
})
