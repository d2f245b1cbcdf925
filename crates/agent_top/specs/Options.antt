-- Private: the options as a command of clap, and the settings that its matches hold.
use Rattle.std.specs.{Prelude.{◌≡◌, ℕ, ◌&&◌, ◌||◌, not, Bool, true, false, List, [], ◌∷◌, codes, fold, map, slice_get, is_some, unwrap_or, Option, Some, None, if◌then◌else◌}, List.{list_all, list_any}}
use Rattle.std.specs.{Option.{option_and_then, option_map_or}, Str.bytes_eq}
use Rattle.clap.specs.{Lexer.{long_of, strip_byte}, Facts.explicit_source, Simple.{App, filled, new_rule, new_shape}, Walk.{Row, Rule, first_of, with_default}, declared.builder.action.ArgAction.{ArgAction, TheVariants.{Set, SetTrue}}}
use Rattle.clap.specs.declared.{builder.value_parser.Reading.TheVariants.AsWritten, parser.matches.ValueSource.TheVariants.CommandLine}
use Rattle.agent_top.specs.{Settings.{Setting, begins_with_dash, are_distinct}, Forms.{forms, form_of, is_of_form}, declared.words.forms.Form.{Form, TheVariants.{Flag, Path, Number}}}

-- a flag is set, and any other option is given its value
abbrev pub action_for : Form → ArgAction
action_for Flag = SetTrue
action_for Path = Set
action_for (Number least greatest) = Set

-- the word without two dashes at its front
abbrev pub after_dashes : List ℕ → Option (List ℕ)
after_dashes word = option_and_then (strip_byte 45) (strip_byte 45 word)

-- an option of clap, whose id is its name with the dashes
abbrev pub rule_for : List ℕ × Form → Rule
rule_for row = record (new_rule row.0) { long = Some (unwrap_or (after_dashes row.0) row.0); action = Some (action_for row.1) }

-- a command with these options, and no help
abbrev pub command_of : List (List ℕ × Form) → App
command_of rows = record {
  top = record (new_shape (codes "agent")) {
    rules = map rule_for rows;
    no_binary_name = true;
    disable_help_flag = true;
    disable_version_flag = true;
  };
  subs = [];
}

-- the word begins with no dash, or is a long name with what follows it
abbrev pub is_plain : List ℕ → Bool
is_plain word = not (begins_with_dash word) || is_some (long_of word)

-- a value stands where the option takes one
abbrev pub has_its_value : Form → Option (List ℕ) → Bool
has_its_value Flag None = true
has_its_value Path (Some value) = true
has_its_value (Number least greatest) (Some value) = true
has_its_value _ _ = false

-- the name is known, and a value stands where its option takes one
abbrev pub is_readable : Setting → Bool
is_readable setting = option_map_or (λ form. has_its_value form setting.1) (form_of setting.0) false

abbrev pub are_readable : List Setting → Bool
are_readable given = list_all is_readable given && are_distinct given

abbrev pub text_of : Option (List ℕ) → List ℕ
text_of None = codes "true"
text_of (Some value) = value

-- what clap keeps of a setting
abbrev pub row_for : Setting → Row
row_for setting = record {
  id = setting.0;
  values = text_of setting.1 ∷ [];
  count = None;
  source = Some CommandLine;
  reading = AsWritten;
}

-- a row as a setting
abbrev pub value_in : Option Form → List (List ℕ) → Option (List ℕ)
value_in (Some Flag) values = None
value_in _ values = slice_get values 0

-- the settings of the rows that the words gave, in order
unfoldable pub given_in : List Row → List Setting
given_in [] = []
given_in (row ∷ rows) =
    if explicit_source row.source then (row.id, value_in (form_of row.id) row.values) ∷ given_in rows else given_in rows

-- what clap keeps of these settings, with a row for each flag that isn't set
abbrev pub rows_for : List Setting → List Row
rows_for given = fold with_default (map row_for given) (map (λ row. filled (rule_for row)) forms)

-- the rows are those of readable settings
pub record IsRead (rows : List Row) : Type 0 where
  pub readable : are_readable (given_in rows) ≡ true
  pub rows_are : rows ≡ rows_for (given_in rows)

abbrev pub is_flag : Form → Bool
is_flag Flag = true
is_flag Path = false
is_flag (Number least greatest) = false

-- the name is that of a flag
abbrev pub flag_in : List ℕ → List (List ℕ × Form) → Bool
flag_in name rows = list_any (λ row. bytes_eq row.0 name && is_flag row.1) rows

-- a value that is given has the form of its option, where that is no flag
abbrev pub takes : Form → Option (List ℕ) → Bool
takes Flag value = true
takes form None = true
takes form (Some value) = is_of_form form (Some value)

abbrev pub takes_row : List Row → List ℕ × Form → Bool
takes_row rows row = takes row.1 (first_of row.0 rows)
