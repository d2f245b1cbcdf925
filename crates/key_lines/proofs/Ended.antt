-- Lines that LF ends, one after another.
use Rattle.std.{proofs.Common.{◌≡◌, ◌<◌, ℕ, Bool, true, false, List, [], ◌∷◌, ◌++◌, length, take, drop, refl, ap, sym, ◌∙◌, arith, append_assoc}, specs.{Prelude.{not, ◌&&◌, ◌==◌, if◌then◌else◌}, List.{concat, list_all, onto_first}}}
use Rattle.assuan_text.specs.LineEnds.{is_lf}
use Rattle.key_lines.{specs.Lines.lines_of, proofs.{LineLemmas.{line_len, lines_step, concat_lines, long_at, long_before}, Plain.{is_plain, are_plain, both}}}

abbrev is_none : List ℕ → Bool
is_none [] = true
is_none (byte ∷ bytes) = false

-- one LF is at the end, and none before it
abbrev pub is_ended : List ℕ → Bool
is_ended [] = false
is_ended (byte ∷ bytes) = if is_lf byte then is_none bytes else is_ended bytes

only : (byte : ℕ) (bytes more : List ℕ) → is_none bytes ≡ true → (byte ∷ []) ∷ lines_of (bytes ++ more) ≡ (byte ∷ bytes) ∷ lines_of more
only byte [] more e = refl
only byte (x ∷ xs) more e = absurd cc

-- such a line is the first of the lines
pub line_first : (line more : List ℕ) → is_ended line ≡ true → lines_of (line ++ more) ≡ line ∷ lines_of more
line_first [] more e = absurd cc
line_first (byte ∷ bytes) more e =
    elim (is_lf byte) as (λ b. (if b then is_none bytes else is_ended bytes) ≡ true
    → (if b then (byte ∷ []) ∷ lines_of (bytes ++ more) else onto_first byte (lines_of (bytes ++ more))) ≡ (byte ∷ bytes) ∷ lines_of more) [
      | true ↦ λ h. only byte bytes more h
      | false ↦ λ h. ap (onto_first byte) (line_first bytes more h)
    ] e

-- so are these, in turn
pub lines_first : (passed : List (List ℕ)) (more : List ℕ) → list_all is_ended passed ≡ true → lines_of (concat passed ++ more) ≡ passed ++ lines_of more
lines_first [] more e = refl
lines_first (line ∷ passed) more e =
    let parts = both (is_ended line) (list_all is_ended passed) e in
    ap lines_of (append_assoc line (concat passed) more)
    ∙ line_first line (concat passed ++ more) parts.0
    ∙ ap (λ (ls : List (List ℕ)). line ∷ ls) (lines_first passed more parts.1)

first_ended : (bytes : List ℕ) → 0 < length (drop (line_len bytes) bytes) → is_ended (take (line_len bytes) bytes) ≡ true
first_ended [] more = absurd (omega (arith, more))
first_ended (byte ∷ bytes) more =
    elim (is_lf byte) as (λ b. is_lf byte ≡ b → is_ended (take (line_len (byte ∷ bytes)) (byte ∷ bytes)) ≡ true) [
      | true ↦ λ lf. ap (λ n. is_ended (take n (byte ∷ bytes))) (long_at byte bytes lf) ∙ ap (λ b. if b then true else false) lf
      | false ↦ λ plain.
          let long = long_before byte bytes plain in
          let rest : 0 < length (drop (line_len bytes) bytes) = omega (arith, more, ap (λ n. length (drop n (byte ∷ bytes))) long) in
          ap (λ n. is_ended (take n (byte ∷ bytes))) long
          ∙ ap (λ b. if b then is_none (take (line_len bytes) bytes) else is_ended (take (line_len bytes) bytes)) plain
          ∙ first_ended bytes rest
    ] refl

some_bytes : (bytes : List ℕ) (passed rest : List (List ℕ)) (line : List ℕ) → lines_of bytes ≡ passed ++ line ∷ rest → 0 < length bytes
some_bytes [] [] rest line e = absurd cc
some_bytes [] (x ∷ passed) rest line e = absurd cc
some_bytes (byte ∷ bytes) passed rest line e = omega arith

-- the lines before another are ended
pub before_ended : (passed rest : List (List ℕ)) (line bytes : List ℕ) → lines_of bytes ≡ passed ++ line ∷ rest → list_all is_ended passed ≡ true
before_ended [] rest line bytes e = refl
before_ended (x ∷ passed) rest line [] e = absurd cc
before_ended (x ∷ passed) rest line (byte ∷ bytes) e =
    let all = byte ∷ bytes in
    let n = line_len all in
    let step = lines_step byte bytes in
    let first : x ≡ take n all = cc (step, e) in
    let others : lines_of (drop n all) ≡ passed ++ line ∷ rest = cc (step, e) in
    let ended : is_ended x ≡ true = ap is_ended first ∙ first_ended all (some_bytes (drop n all) passed rest line others) in
    ap (λ b. b && list_all is_ended passed) ended ∙ before_ended passed rest line (drop n all) others

-- the last of the lines are the lines of their bytes
pub lines_last : (passed rest : List (List ℕ)) (bytes : List ℕ) → lines_of bytes ≡ passed ++ rest → lines_of (concat rest) ≡ rest
lines_last [] rest bytes e = ap (λ (ls : List (List ℕ)). lines_of (concat ls)) (sym e) ∙ ap lines_of (concat_lines bytes) ∙ e
lines_last (x ∷ passed) rest [] e = absurd cc
lines_last (x ∷ passed) rest (byte ∷ bytes) e =
    let all = byte ∷ bytes in
    let n = line_len all in
    let step = lines_step byte bytes in
    let others : lines_of (drop n all) ≡ passed ++ rest = cc (step, e) in
    lines_last passed rest (drop n all) others

-- plain bytes and LF are such a line
pub plain_ended : (text : List ℕ) → are_plain text ≡ true → is_ended (text ++ 10 ∷ []) ≡ true
plain_ended [] e = refl
plain_ended (byte ∷ text) e =
    let parts = both (is_plain byte) (are_plain text) e in
    elim (is_lf byte) as (λ b. (not b && not (byte == 13)) ≡ true → (if b then is_none (text ++ 10 ∷ []) else is_ended (text ++ 10 ∷ [])) ≡ true) [
      | true ↦ λ h. absurd cc
      | false ↦ λ h. plain_ended text parts.1
    ] parts.0
