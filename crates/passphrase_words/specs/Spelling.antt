-- How words spell options and operands (POSIX Utility Syntax Guidelines 9 and 10; GNU Coding Standards, long options): options come first,
-- each as `--name`, `--name=VALUE` or `--name VALUE`, and `--` ends them.
use Rattle.std.specs.{Prelude.{◌≡◌, ℕ, ◌==◌, Bool, true, false, List, [], ◌∷◌, ◌++◌, codes, Option, Some, None, slice_index, if◌then◌else◌}, Option.{option_map, option_and_then}, Str.bytes_eq}
use Rattle.assuan_text.specs.Rows.{found}
use Rattle.passphrase_words.specs.Options.{form_of, takes_value}

-- what a word names, and its value, if it takes one
abbrev pub Setting : Type 0
Setting = List ℕ × Option (List ℕ)

-- whether the option of this name takes a value, where there is one
abbrev pub takes : List ℕ → Option Bool
takes name = option_map takes_value (form_of name)

-- the words are spelled by these settings, and then go on with the rest
pub data Spells : List Setting → List (List ℕ) → List (List ℕ) → Type 0 where
  none : {rest : List (List ℕ)} → Spells [] rest rest
  flag : {name : List ℕ} {given : List Setting} {rest words : List (List ℕ)} → takes name ≡ Some false → Spells given rest words
      → Spells ((name, None) ∷ given) rest (name ∷ words)
  joined : {name value : List ℕ} {given : List Setting} {rest words : List (List ℕ)} → takes name ≡ Some true → Spells given rest words
      → Spells ((name, Some value) ∷ given) rest ((name ++ 61 ∷ value) ∷ words)
  apart : {name value : List ℕ} {given : List Setting} {rest words : List (List ℕ)} → takes name ≡ Some true → Spells given rest words
      → Spells ((name, Some value) ∷ given) rest (name ∷ value ∷ words)

abbrev pub begins_with_dash : List ℕ → Bool
begins_with_dash word = slice_index word 0 == 45

-- the operands behind the options: all words behind `--`, or else those from a word that doesn't begin with a dash
abbrev pub operands_of : List (List ℕ) → Option (List (List ℕ))
operands_of [] = Some []
operands_of (word ∷ words) =
    if bytes_eq word (codes "--") then Some words else if begins_with_dash word then None else Some (word ∷ words)

-- the option is given
abbrev pub is_set : List ℕ → List Setting → Bool
is_set name [] = false
is_set name (setting ∷ others) = if bytes_eq setting.0 name then true else is_set name others

-- the value that an option is given
abbrev pub value_given : List ℕ → List Setting → Option (List ℕ)
value_given name given = option_and_then (λ value. value) (found name given)
