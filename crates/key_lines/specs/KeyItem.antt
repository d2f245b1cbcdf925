-- The item of a key file that has the key: its first line, and the lines that go on with it. How its value is folded over these
-- lines is GnuPG's (common/name-value.c). That blank, space and tab alone are meant there is this project's own rule.
use Rattle.std.specs.{Prelude.{ℕ, ◌-◌, Bool, List, [], ◌∷◌, length, map, take, drop, slice_index, if◌then◌else◌}, List.{list_any, before_first, position_or_len, prefix_len, suffix_len, take_while, concat}}
use Rattle.{assuan_text.specs.Blanks.is_blank, key_lines.specs.{Lines.{lines_of, line_text}, Items.{line_form, is_key, goes_on, value_in}}}

abbrev pub is_key_line : List ℕ → Bool
is_key_line line = is_key (line_form line)

abbrev pub is_more : List ℕ → Bool
is_more line = goes_on (line_form line)

-- a file has a Key item
abbrev pub has_key : List ℕ → Bool
has_key file = list_any is_key_line (lines_of file)

-- the lines from the first of the Key item on
abbrev pub from_key : List ℕ → List (List ℕ)
from_key file = drop (position_or_len is_key_line (lines_of file)) (lines_of file)

-- without the blank at the front, where there is one, and no other
abbrev pub without_first_blank : List ℕ → List ℕ
without_first_blank text = if is_blank (slice_index text 0) then drop 1 text else text

-- without the blanks at the end
abbrev pub without_last_blanks : List ℕ → List ℕ
without_last_blanks text = take (length text - suffix_len is_blank text) text

-- what a text has of a value: all but its first blank and those at its end. So where a value is folded before a blank, the next
-- line begins with two.
abbrev pub piece_of : List ℕ → List ℕ
piece_of text = without_last_blanks (without_first_blank text)

-- the value of an item: the pieces behind the colon and on the lines that go on with it, with nothing between
abbrev pub value_of : List (List ℕ) → List ℕ
value_of [] = []
value_of (line ∷ more) = concat (map piece_of (value_in (line_text line) ∷ map line_text (take_while is_more more)))

-- what comes after an item
abbrev pub after_item : List (List ℕ) → List (List ℕ)
after_item [] = []
after_item (line ∷ more) = drop (prefix_len is_more more) more

-- the value of a file's Key
abbrev pub key_value : List ℕ → List ℕ
key_value file = value_of (from_key file)

-- the bytes before the lines of the Key item, and those after them
abbrev pub before_key : List ℕ → List ℕ
before_key file = concat (before_first is_key_line (lines_of file))

abbrev pub after_key : List ℕ → List ℕ
after_key file = concat (after_item (from_key file))
