-- A file of options as lines, and what a line sets (GnuPG manual, "Agent Configuration", and "Option Index" for names without dashes). That a name
-- may be followed by `=`, that a value may stand in double quotes, and the byte order mark in front are this project's own.
use Rattle.std.specs.{Prelude.{ℕ, ◌+◌, ◌-◌, ◌==◌, ◌||◌, ◌&&◌, nat_le, Bool, List, [], ◌∷◌, ◌++◌, take, drop, length, slice_index, Option, Some, None, if◌then◌else◌}, List.{prefix_len, suffix_len, slice_split}, Option.option_to_list}
use Rattle.std.specs.Str.{bytes_eq}
use Rattle.{assuan_text.specs.{LineEnds.is_lf, Forms.is_ignored}, session_options.specs.Text.{name_of, option_value}}
use Rattle.agent_conf.specs.{Written.Written, declared.setting.Place.Place}

-- white space (ISO C, `isspace`)
abbrev pub is_white : ℕ → Bool
is_white byte = byte == 32 || (nat_le 9 byte && nat_le byte 13)

abbrev pub after_white : List ℕ → List ℕ
after_white bytes = drop (prefix_len is_white bytes) bytes

abbrev pub before_white : List ℕ → List ℕ
before_white bytes = take (length bytes - suffix_len is_white bytes) bytes

-- without the white space in front and behind, a carriage return at the end among it
abbrev pub trimmed : List ℕ → List ℕ
trimmed line = before_white (after_white line)

-- the byte order mark of UTF-8
abbrev pub order_mark : List ℕ
order_mark = 239 ∷ 187 ∷ 191 ∷ []

abbrev pub without_order_mark : List ℕ → List ℕ
without_order_mark text = if bytes_eq (take 3 text) order_mark then drop 3 text else text

-- a value in double quotes is what stands between them
abbrev pub is_quoted : List ℕ → Bool
is_quoted value = nat_le 2 (length value) && (slice_index value 0 == 34 && slice_index value (length value - 1) == 34)

abbrev pub unquoted : List ℕ → List ℕ
unquoted value = if is_quoted value then take (length value - 2) (drop 1 value) else value

-- what a line sets that isn't empty, and no comment
abbrev pub setting_in : Place → ℕ → List ℕ → Written
setting_in place number text = record {
  place = place;
  number = number;
  text = text;
  name = name_of text;
  value = unquoted (option_value text);
}

abbrev pub setting_of : Place → ℕ → List ℕ → Option Written
setting_of place number line =
    if is_ignored (trimmed line) then None else Some (setting_in place number (trimmed line))

-- what lines set, the first of which has this number
unfoldable pub settings_from : Place → ℕ → List (List ℕ) → List Written
settings_from place number [] = []
settings_from place number (line ∷ lines) =
    option_to_list (setting_of place number line) ++ settings_from place (number + 1) lines

-- what a file sets, in its order: a line stands between two line feeds
abbrev pub settings_in : Place → List ℕ → List Written
settings_in place text = settings_from place 1 (slice_split is_lf (without_order_mark text))
