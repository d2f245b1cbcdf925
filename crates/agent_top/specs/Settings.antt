-- The words of the command line, read as settings: `--name`, `--name=value` or `--name value`. That a word which begins with a
-- dash is a value only after `=` is this project's own.
use Rattle.std.specs.{Prelude.{◌≡◌, ℕ, ◌==◌, ◌&&◌, not, Bool, true, false, List, [], ◌∷◌, ◌++◌, Option, Some, None, is_some, slice_index, if◌then◌else◌}, List.{list_any, before_first, after_first}, Option.option_and_then}
use Rattle.assuan_text.specs.Rows.{found}

-- what a word names, and its value, if it has one
abbrev pub Setting : Type 0
Setting = List ℕ × Option (List ℕ)

abbrev pub is_equals : ℕ → Bool
is_equals byte = byte == 61

abbrev pub holds_equals : List ℕ → Bool
holds_equals word = list_any is_equals word

abbrev pub begins_with_dash : List ℕ → Bool
begins_with_dash word = slice_index word 0 == 45

-- a word by itself: the value comes after the first `=`
abbrev pub alone : List ℕ → Setting
alone word =
    if holds_equals word then (before_first is_equals word, Some (after_first is_equals word)) else (word, None)

-- the next word is the value of a word without `=`, unless it begins with a dash
abbrev pub is_value_of : List ℕ → List ℕ → Bool
is_value_of word next = not (holds_equals word) && not (begins_with_dash next)

-- Each word that is no value names something. One that is out of place so has a name that no option has.
abbrev pub settings : List (List ℕ) → List Setting
settings [] = []
settings (word ∷ []) = alone word ∷ []
settings (word ∷ next ∷ words) =
    if is_value_of word next then (word, Some next) ∷ settings words else alone word ∷ settings (next ∷ words)

-- the words that settings are spelled by, one after the other
pub data Spells : List Setting → List (List ℕ) → Type 0 where
  none : Spells [] []
  bare : {name : List ℕ} {given : List Setting} {words : List (List ℕ)} → holds_equals name ≡ false → Spells given words
      → Spells ((name, None) ∷ given) (name ∷ words)
  joined : {name value : List ℕ} {given : List Setting} {words : List (List ℕ)} → holds_equals name ≡ false → Spells given words
      → Spells ((name, Some value) ∷ given) ((name ++ 61 ∷ value) ∷ words)
  apart : {name value : List ℕ} {given : List Setting} {words : List (List ℕ)} → holds_equals name ≡ false
      → begins_with_dash value ≡ false → Spells given words → Spells ((name, Some value) ∷ given) (name ∷ value ∷ words)

abbrev pub is_set : List ℕ → List Setting → Bool
is_set name given = is_some (found name given)

-- the value that a name is given
abbrev pub value_given : List ℕ → List Setting → Option (List ℕ)
value_given name given = option_and_then (λ value. value) (found name given)

-- no name is given twice
abbrev pub are_distinct : List Setting → Bool
are_distinct [] = true
are_distinct (setting ∷ others) = not (is_set setting.0 others) && are_distinct others
