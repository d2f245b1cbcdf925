-- The count of a protection, as it is written.
use Rattle.std.proofs.{Common.{◌≡◌, ◌&&◌, cond, inl, inr, ℕ, ◌+◌, ◌-◌, ◌*◌, ◌%◌, ◌≤◌, Bool, true, false, List, [], ◌∷◌, length, Option, Some, None, IfSome, IfNone, refl, sym, ap, subst, ◌∙◌, arith}, lemmas.Slice.Eq.bytes_eq-Decides}
use Rattle.std.{proofs.lemmas.{Bool.{le-leb, lt-leb, cases_lt}, Grind.fold-append}, specs.{Prelude.{not, bytes_eq, SomeIff, nat_le}, Str.all_ascii_digits}}
use Rattle.{s2k_derive.specs.S2k.{octets, IsAccepted}, sexp_canonical.{specs.Spelling.numeral, proofs.{Numerals.{AreDigits, AreDigits_numeral, numeral_by_steps}, Trees.numeral_begins}}}
use Rattle.secret_file.specs.Protection.{IsCount}
use Rattle.assuan_text.specs.Numbers as numbers

all_digits : (ds : List ℕ) → AreDigits ds → all_ascii_digits ds ≡ true
all_digits [] h = refl
all_digits (d ∷ ds) h = rw h.0 (all_digits ds h.1)

decimal_numeral : (n : ℕ) → numbers.decimal (numeral n) ≡ n
decimal_numeral = numeral_by_steps (λ n ds. numbers.decimal ds ≡ n)
    (λ n h. omega arith)
    (λ n ds h g. fold-append (λ (number digit : ℕ). 10 * number + (digit - 48)) 0 ds ((48 + n % 10) ∷ []) ∙ rw g (omega arith))

-- a written number is read as that number
number_of_numeral : (digits : List ℕ) (n : ℕ) → digits ≡ numeral n → length digits ≤ 10 → numbers.number_of digits ≡ Some n
number_of_numeral digits n e short =
    let begins = numeral_begins n in
    let some : 1 ≤ length digits = omega (arith, ap length e, ap length begins.parts) in
    let test : all_ascii_digits digits ≡ true = ap all_ascii_digits e ∙ all_digits (numeral n) (AreDigits_numeral n) in
    rw (le-leb 1 (length digits) some, le-leb (length digits) 10 short, test) (ap (λ (ds : List ℕ). Some (numbers.decimal ds)) e ∙ ap Some (decimal_numeral n))

too_long : (a b c : Bool) (m n : ℕ) → b ≡ false → cond (a && b && c) (Some m) None ≡ Some n → ⊥
too_long true true c m n e f = cc
too_long true false c m n e f = cc
too_long false b c m n e f = cc

-- a number that is read has at most ten digits
number_of_short : (digits : List ℕ) (n : ℕ) → numbers.number_of digits ≡ Some n → length digits ≤ 10
number_of_short digits n e =
    elim (cases_lt 10 (length digits)) [
      | inl lt ↦ absurd (too_long (nat_le 1 (length digits)) (nat_le (length digits) 10) (all_ascii_digits digits) (numbers.decimal digits) n (lt-leb (length digits) 10 lt) e)
      | inr le ↦ le
    ]

pub counted : (digits : List ℕ) (n : ℕ) (r : Option ℕ) → digits ≡ numeral n → numbers.number_of digits ≡ Some n → SomeIff r (IsAccepted (octets n)) (octets n) → IfSome r (IsCount digits)
counted digits n None e read h = tt
counted digits n (Some count) e read h = record { written = n; spelled = e; short = number_of_short digits n read; value = h.1; accepted = subst IsAccepted (sym h.1) h.0 }

-- no count is written
pub not_read : (digits : List ℕ) → numbers.number_of digits ≡ None → (count : ℕ) → IsCount digits count → ⊥
not_read digits e count h = let read = number_of_numeral digits h.written h.spelled h.short in cc

pub other_digits : (digits : List ℕ) (n : ℕ) → numbers.number_of digits ≡ Some n → (digits ≡ numeral n → ⊥) → (count : ℕ) → IsCount digits count → ⊥
other_digits digits n e other count h =
    let read = number_of_numeral digits h.written h.spelled h.short in
    let same : h.written ≡ n = cc in
    other (h.spelled ∙ ap numeral same)

pub not_counted : (digits : List ℕ) (n : ℕ) (r : Option ℕ) → numbers.number_of digits ≡ Some n → SomeIff r (IsAccepted (octets n)) (octets n) → IfNone r ((count : ℕ) → IsCount digits count → ⊥)
not_counted digits n (Some count) e h = tt
not_counted digits n None e h = λ count is.
    let read = number_of_numeral digits is.written is.spelled is.short in
    let same : is.written ≡ n = cc in
    h (subst (λ (m : ℕ). IsAccepted (octets m)) same (subst IsAccepted is.value is.accepted))

-- ---- texts that are compared

not_true : (b : Bool) → not b ≡ false → b ≡ true
not_true true e = refl
not_true false e = cc

not_false : (b : Bool) → not b ≡ true → b ≡ false
not_false true e = cc
not_false false e = refl

pub same_text : (a b : List ℕ) → not (bytes_eq a b) ≡ false → a ≡ b
same_text a b e = (bytes_eq-Decides a b).0 (not_true (bytes_eq a b) e)

pub other_text : (a b : List ℕ) → not (bytes_eq a b) ≡ true → a ≡ b → ⊥
other_text a b e same = let equal = (bytes_eq-Decides a b).1 same in let other = not_false (bytes_eq a b) e in cc
