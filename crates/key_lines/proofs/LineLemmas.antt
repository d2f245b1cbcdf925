-- The lines of a file, one after the other.
use Rattle.std.{proofs.{Common.{◌≡◌, suc, ◌+◌, ℕ, Bool, true, false, cond, min, List, [], ◌∷◌, length, take, drop, refl, ap, sym, ◌∙◌, arith}, lemmas.Bool.{cond_both, Decides.nat_tests}}, specs.Prelude.{not, nat_lt, nat_le, ◌||◌, ◌&&◌}}
use Rattle.std.specs.List.{concat, list_all, list_any, onto_first, position_or_len, prefix_len}
use Rattle.assuan_text.specs.LineEnds.{is_lf}
use Rattle.key_lines.specs.Lines.{lines_of}

-- how many bytes the first line has, with its end
abbrev pub line_len : List ℕ → ℕ
line_len bytes = min (length bytes) (position_or_len is_lf bytes + 1)

abbrev first_and_rest : List ℕ → List (List ℕ)
first_and_rest bytes = take (line_len bytes) bytes ∷ lines_of (drop (line_len bytes) bytes)

pub long_at : (byte : ℕ) (bytes : List ℕ) → is_lf byte ≡ true → line_len (byte ∷ bytes) ≡ 1
long_at byte bytes lf =
    let at : position_or_len is_lf (byte ∷ bytes) ≡ 0 = ap (λ b. cond (not b) (1 + position_or_len is_lf bytes) 0) lf in
    omega (arith, at)

pub long_before : (byte : ℕ) (bytes : List ℕ) → is_lf byte ≡ false → line_len (byte ∷ bytes) ≡ suc (line_len bytes)
long_before byte bytes plain =
    let at : position_or_len is_lf (byte ∷ bytes) ≡ 1 + position_or_len is_lf bytes = ap (λ b. cond (not b) (1 + position_or_len is_lf bytes) 0) plain in
    omega (arith, at)

ends : (byte : ℕ) (bytes : List ℕ) → is_lf byte ≡ true → lines_of (byte ∷ bytes) ≡ (byte ∷ []) ∷ lines_of bytes
ends byte bytes lf = ap (λ b. cond b ((byte ∷ []) ∷ lines_of bytes) (onto_first byte (lines_of bytes))) lf

goes_further : (byte : ℕ) (bytes : List ℕ) → is_lf byte ≡ false → lines_of (byte ∷ bytes) ≡ onto_first byte (lines_of bytes)
goes_further byte bytes plain = ap (λ b. cond b ((byte ∷ []) ∷ lines_of bytes) (onto_first byte (lines_of bytes))) plain

from_rest : (byte : ℕ) (bytes : List ℕ) → onto_first byte (lines_of bytes) ≡ (byte ∷ take (line_len bytes) bytes) ∷ lines_of (drop (line_len bytes) bytes)
    → lines_of (byte ∷ bytes) ≡ first_and_rest (byte ∷ bytes)
from_rest byte bytes further = elim (is_lf byte) as (λ b. is_lf byte ≡ b → lines_of (byte ∷ bytes) ≡ first_and_rest (byte ∷ bytes)) [
  | true ↦ λ lf. ends byte bytes lf ∙ sym (ap (λ n. take n (byte ∷ bytes) ∷ lines_of (drop n (byte ∷ bytes))) (long_at byte bytes lf))
  | false ↦ λ plain. goes_further byte bytes plain ∙ further
      ∙ sym (ap (λ n. take n (byte ∷ bytes) ∷ lines_of (drop n (byte ∷ bytes))) (long_before byte bytes plain))
] refl

-- the first line ends with the first LF, or with the file
pub lines_step : (byte : ℕ) (bytes : List ℕ) → lines_of (byte ∷ bytes) ≡ first_and_rest (byte ∷ bytes)
lines_step byte [] = from_rest byte [] refl
lines_step byte (next ∷ bytes) = from_rest byte (next ∷ bytes) (ap (onto_first byte) (lines_step next bytes))

-- a byte is among these where the place of the first isn't past their end
pub any_before_end : (test : ℕ → Bool) (bytes : List ℕ) → list_any test bytes ≡ nat_lt (position_or_len test bytes) (length bytes)
any_before_end test [] = refl
any_before_end test (byte ∷ bytes) = elim (test byte) as (λ b. (b || list_any test bytes) ≡ nat_lt (cond (not b) (1 + position_or_len test bytes) 0) (suc (length bytes))) [
  | true ↦ grind (arith, nat_tests)
  | false ↦ grind (arith, nat_tests, any_before_end test bytes)
]

onto : (byte : ℕ) (lines : List (List ℕ)) → concat (onto_first byte lines) ≡ byte ∷ concat lines
onto byte [] = refl
onto byte (line ∷ lines) = refl

-- the lines make the file
pub concat_lines : (bytes : List ℕ) → concat (lines_of bytes) ≡ bytes
concat_lines [] = refl
concat_lines (byte ∷ bytes) = cond_both (is_lf byte) ((byte ∷ []) ∷ lines_of bytes) (onto_first byte (lines_of bytes))
    (λ (lines : List (List ℕ)). concat lines ≡ byte ∷ bytes)
    (λ _. ap (λ (rest : List ℕ). byte ∷ rest) (concat_lines bytes))
    (λ _. onto byte (lines_of bytes) ∙ ap (λ (rest : List ℕ). byte ∷ rest) (concat_lines bytes))

-- all pass where those at the front that pass are all
pub all_within : (test : ℕ → Bool) (bytes : List ℕ) → list_all test bytes ≡ nat_le (length bytes) (prefix_len test bytes)
all_within test [] = refl
all_within test (byte ∷ bytes) = elim (test byte) as (λ b. (b && list_all test bytes) ≡ nat_le (suc (length bytes)) (cond b (1 + prefix_len test bytes) 0)) [
  | true ↦ grind (arith, nat_tests, all_within test bytes)
  | false ↦ grind (arith, nat_tests)
]
