-- The lines of a key file in GnuPG's extended format (GnuPG's notes on the format of private keys, agent/keyformat.txt, "Extended
-- Private Key Format"). That a line may end in CR LF, and the last one in nothing, is this project's own rule.
use Rattle.std.specs.{Prelude.{ℕ, ◌-◌, List, [], ◌∷◌, length, take, slice_index, if◌then◌else◌}, List.onto_first}
use Rattle.assuan_text.specs.LineEnds.{is_lf, without_cr}

-- the lines, each with the LF that ends it; the end of the file ends the last one
abbrev pub lines_of : List ℕ → List (List ℕ)
lines_of [] = []
lines_of (byte ∷ bytes) = if is_lf byte then (byte ∷ []) ∷ lines_of bytes else onto_first byte (lines_of bytes)

-- without the byte at the end
abbrev pub without_last : List ℕ → List ℕ
without_last bytes = take (length bytes - 1) bytes

abbrev pub last_byte : List ℕ → ℕ
last_byte bytes = slice_index bytes (length bytes - 1)

-- the text of a line: all but the LF that ends it, and one CR before that
abbrev pub line_text : List ℕ → List ℕ
line_text line = if is_lf (last_byte line) then without_cr (without_last line) else line
