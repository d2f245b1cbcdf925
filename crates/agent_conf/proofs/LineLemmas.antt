-- The lines of a text, one after the other.
use Rattle.std.{proofs.{lemmas.List.take_all, Common.{◌≡◌, ◌≤◌, ◌<◌, suc, ◌+◌, ◌-◌, ℕ, true, false, cond, List, [], ◌∷◌, ◌++◌, length, take, drop, Option, Some, None, Bor, MatchOption, refl, ap, ap₂, sym, ◌∙◌, arith}}, specs.Prelude.not}
use Rattle.std.specs.{List.{slice_split, onto_first, position_or_len, before_first}, Option.option_to_list}
use Rattle.assuan_text.specs.LineEnds.{is_lf}
use Rattle.agent_conf.specs.{Lines.{setting_of, settings_from}, Written.Written, declared.setting.Place.Place}

-- how many bytes stand before the first line feed
abbrev place : List ℕ → ℕ
place text = position_or_len is_lf text

drop_next : (count byte : ℕ) (text : List ℕ) → drop (1 + count) (byte ∷ text) ≡ drop count text
drop_next count byte text = let one : 1 + count ≡ suc count = omega arith in ap (λ n. drop n (byte ∷ text)) one

take_next : (count byte : ℕ) (text : List ℕ) → take (1 + count) (byte ∷ text) ≡ byte ∷ take count text
take_next count byte text = let one : 1 + count ≡ suc count = omega arith in ap (λ n. take n (byte ∷ text)) one

-- the lines after a text's first one, of what comes behind it, its end in front
abbrev pub lines_behind : List ℕ → List (List ℕ)
lines_behind [] = []
lines_behind (byte ∷ text) = slice_split is_lf text

-- a text's first line, and then those of what comes behind it
pub first_and_others : (text : List ℕ) → slice_split is_lf text ≡ before_first is_lf text ∷ lines_behind (drop (place text) text)
first_and_others [] = refl
first_and_others (byte ∷ text) =
    elim (is_lf byte) as (λ b. cond b ([] ∷ slice_split is_lf text) (onto_first byte (slice_split is_lf text))
    ≡ take (cond (not b) (1 + place text) 0) (byte ∷ text) ∷ lines_behind (drop (cond (not b) (1 + place text) 0) (byte ∷ text))) [
      | true ↦ refl
      | false ↦ ap (onto_first byte) (first_and_others text)
          ∙ sym (ap (λ (w : List ℕ). w ∷ lines_behind (drop (1 + place text) (byte ∷ text))) (take_next (place text) byte text)
          ∙ ap (λ (r : List ℕ). (byte ∷ take (place text) text) ∷ lines_behind r) (drop_next (place text) byte text))
    ]

-- what the lines set that are left, where any are
abbrev pub settings_left : Place → ℕ → Option (Bor (List ℕ)) → List Written
settings_left place number None = []
settings_left place number (Some text) = settings_from place number (slice_split is_lf text.now)

-- how many bytes are left, and one for each text
abbrev pub bytes_left : Option (Bor (List ℕ)) → ℕ
bytes_left None = 0
bytes_left (Some text) = length text.now + 1

-- the first line, and what comes after it
abbrev pub IsCut : List ℕ → List ℕ → Option (Bor (List ℕ)) → Type 0
IsCut text line after =
    MatchOption after (slice_split is_lf text ≡ line ∷ []) (λ after. slice_split is_lf text ≡ line ∷ slice_split is_lf after.now)

-- the first line sets the first of what a text sets
pub first_line_sets : (place : Place) (number : ℕ) (text line : List ℕ) (after : Option (Bor (List ℕ))) → IsCut text line after
    → settings_from place number (slice_split is_lf text) ≡ option_to_list (setting_of place number line) ++ settings_left place (number + 1) after
unfolding settings_from
first_line_sets place number text line None cut = ap (settings_from place number) cut
first_line_sets place number text line (Some after) cut = ap (settings_from place number) cut

-- a text that is cut before its first line feed
pub cut_lines : (text line rest : List ℕ) (len : ℕ) → len ≡ position_or_len is_lf text → line ≡ take len text → rest ≡ drop len text
    → slice_split is_lf text ≡ line ∷ lines_behind rest
cut_lines text line rest len at front back =
    first_and_others text
    ∙ ap (λ n. take n text ∷ lines_behind (drop n text)) (sym at)
    ∙ ap₂ (λ (l r : List ℕ). l ∷ lines_behind r) (sym front) (sym back)

-- behind a line's end come the other lines
pub behind_end : (rest : List ℕ) → 1 ≤ length rest → lines_behind rest ≡ slice_split is_lf (take (length rest - 1) (drop 1 rest))
behind_end [] some = absurd (omega (arith, some))
behind_end (byte ∷ text) some = let all : length text ≤ length (byte ∷ text) - 1 = omega arith in ap (slice_split is_lf) (sym (take_all (length (byte ∷ text) - 1) text all))

pub fewer_left : (text line : List ℕ) (after : Option (Bor (List ℕ))) → MatchOption after (length line ≤ length text) (λ after. length after.now < length text)
    → bytes_left after ≤ length text
fewer_left text line None shorter = omega arith
fewer_left text line (Some after) shorter = omega (arith, shorter)
