-- The words of the command line as settings: `--name`, `--name=value`, or `--name value` for an option that takes a value (GnuPG manual, "Invoking
-- GPG-AGENT"). That a word is the value of the one before it whatever it begins with is so with GnuPG too.
use Rattle.std.specs.{Prelude.{ℕ, ◌+◌, ◌==◌, ◌&&◌, not, Bool, false, List, [], ◌∷◌, if◌then◌else◌}, List.{list_any, before_first, after_first}, Option.{option_and_then, option_map_or}}
use Rattle.agent_conf.specs.{Settled.after_dashes, Table.{row_of, takes_value}, Written.Written, declared.setting.Place.TheVariants.Words}

abbrev pub is_equals : ℕ → Bool
is_equals byte = byte == 61

abbrev pub word_setting : ℕ → List ℕ → List ℕ → List ℕ → Written
word_setting number word name value = record {
  place = Words;
  number = number;
  text = word;
  name = name;
  value = value;
}

-- a word by itself: the value comes after the first `=`
abbrev pub alone : ℕ → List ℕ → Written
alone number word = word_setting number word (before_first is_equals word) (after_first is_equals word)

-- a word whose value is the next one
abbrev pub apart : ℕ → List ℕ → List ℕ → Written
apart number word next = word_setting number word word next

-- the next word is the value of this one
abbrev pub wants_value : List ℕ → List ℕ → Bool
wants_value word next =
    not (list_any is_equals word) && option_map_or (λ row. takes_value row next) (option_and_then row_of (after_dashes word)) false

-- the first of these words is the value of the one in front of them
abbrev pub wants_first : List ℕ → List (List ℕ) → Bool
wants_first word [] = false
wants_first word (next ∷ words) = wants_value word next

-- what words set, the first of which has this number
abbrev pub settings_of : ℕ → List (List ℕ) → List Written
settings_of number [] = []
settings_of number (word ∷ []) = alone number word ∷ []
settings_of number (word ∷ next ∷ words) =
    if wants_value word next
    then apart number word next ∷ settings_of (number + 2) words
    else alone number word ∷ settings_of (number + 1) (next ∷ words)
