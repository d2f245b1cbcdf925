-- The words of a line: what stands between its blanks (Assuan manual, "client requests").
use Rattle.std.specs.{Prelude.{ℕ, nat_le, List, length, drop}, List.{position_or_len, before_first, slice_split, filter}}
use Rattle.assuan_text.specs.Blanks.{is_blank, without_blanks}

-- the word that the line begins with
abbrev pub command_of : List ℕ → List ℕ
command_of line = before_first is_blank (without_blanks line)

-- what comes after the line's first word, and the blanks behind it
abbrev pub rest_of : List ℕ → List ℕ
rest_of line = without_blanks (drop (position_or_len is_blank (without_blanks line)) (without_blanks line))

-- the words of a text: what stands between its blanks
abbrev pub words : List ℕ → List (List ℕ)
words text = filter (λ word. nat_le 1 (length word)) (slice_split is_blank text)
