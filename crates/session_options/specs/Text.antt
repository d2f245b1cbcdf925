-- The text of an option, as the client of an Assuan server writes it: a name, which two dashes may precede, then blanks,
-- at most one `=`, blanks, and the value to the end of the line.
use Rattle.std.specs.{Prelude.{ℕ, ◌==◌, ◌||◌, ◌&&◌, nat_le, not, Bool, List, length, take, drop, codes, if◌then◌else◌}, List.{position_or_len, before_first, list_any}, Str.bytes_eq}
use Rattle.assuan_text.specs.Blanks.{is_blank, without_blanks}
use Rattle.session_options.specs.declared.TheConstants.{MAX_VALUE_LEN}

-- a name goes up to the first blank, tab or `=`
abbrev pub ends_name : ℕ → Bool
ends_name byte = is_blank byte || byte == 61

-- the bytes after a mark, where they begin with it
abbrev pub without : List ℕ → List ℕ → List ℕ
without mark bytes =
    if bytes_eq (take (length mark) bytes) mark then drop (length mark) bytes else bytes

abbrev pub name_of : List ℕ → List ℕ
name_of text = before_first ends_name (without (codes "--") text)

-- what comes after the name
abbrev pub after_name : List ℕ → List ℕ
after_name text =
    drop (position_or_len ends_name (without (codes "--") text)) (without (codes "--") text)

abbrev pub option_value : List ℕ → List ℕ
option_value text = without_blanks (without (codes "=") (without_blanks (after_name text)))

-- a carriage return, or a line feed
abbrev pub ends_line : ℕ → Bool
ends_line byte = byte == 13 || byte == 10

abbrev pub has_line_end : List ℕ → Bool
has_line_end bytes = list_any ends_line bytes

-- a value can be kept: not too long, and no end of a line among them, since it is written as a line to the pinentry. This
-- is this project's own
abbrev pub can_be_kept : List ℕ → Bool
can_be_kept value = nat_le (length value) MAX_VALUE_LEN && not (has_line_end value)
