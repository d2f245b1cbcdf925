-- What a line of a key file is (GnuPG's notes on the format of private keys, agent/keyformat.txt, "Names", "Values" and "Comments").
-- How long a name may be, and that a comment ends its item, is this project's own rule.
use Rattle.std.specs.{Prelude.{ℕ, ◌==◌, ◌||◌, ◌&&◌, nat_le, Bool, true, false, List, length, map, codes, slice_index, if◌then◌else◌}, Char.{is_ascii_alphabetic, is_ascii_alphanumeric}, List.{list_any, list_all, before_first, after_first}}
use Rattle.std.specs.Str.{str_eq_ignore_ascii_case}
use Rattle.assuan_text.specs.{Blanks.is_blank, Forms.is_idle}
use Rattle.key_lines.specs.{Lines.{lines_of, line_text}, declared.forms.LineForm.{LineForm, TheVariants.{Comment, GoesOn, Item, Key, NoForm}}}

abbrev pub is_colon : ℕ → Bool
is_colon byte = byte == 58

-- a letter, a digit or `-`
abbrev pub is_name_byte : ℕ → Bool
is_name_byte byte = is_ascii_alphanumeric byte || byte == 45

-- 1 to 60 letters, digits and `-`, with a letter first
abbrev pub is_name : List ℕ → Bool
is_name name = nat_le (length name) 60 && is_ascii_alphabetic (slice_index name 0) && list_all is_name_byte name

-- the name that a text begins with, and the value behind the colon
abbrev pub name_in : List ℕ → List ℕ
name_in text = before_first is_colon text

abbrev pub value_in : List ℕ → List ℕ
value_in text = after_first is_colon text

-- the text begins an item: a name and a colon
abbrev pub begins_item : List ℕ → Bool
begins_item text = list_any is_colon text && is_name (name_in text)

-- the item's name is `Key`, whatever the case of its letters
abbrev pub names_key : List ℕ → Bool
names_key text = str_eq_ignore_ascii_case (name_in text) (codes "Key")

-- A comment is a blank line, or one that begins with `#`. A line that begins with a blank or a tab goes on with an item, and any
-- other begins one.
abbrev pub form_of_text : List ℕ → LineForm
form_of_text text =
    if is_idle text then Comment
    else (if is_blank (slice_index text 0) then GoesOn
    else (if begins_item text then (if names_key text then Key else Item)
    else NoForm))

abbrev pub line_form : List ℕ → LineForm
line_form line = form_of_text (line_text line)

-- what each line of a file is
abbrev pub forms_of : List ℕ → List LineForm
forms_of file = map line_form (lines_of file)

abbrev pub is_comment : LineForm → Bool
is_comment Comment = true
is_comment GoesOn = false
is_comment Item = false
is_comment Key = false
is_comment NoForm = false

abbrev pub goes_on : LineForm → Bool
goes_on Comment = false
goes_on GoesOn = true
goes_on Item = false
goes_on Key = false
goes_on NoForm = false

abbrev pub is_key : LineForm → Bool
is_key Comment = false
is_key GoesOn = false
is_key Item = false
is_key Key = true
is_key NoForm = false
