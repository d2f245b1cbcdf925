-- Lines of bytes, as the Assuan manual has them ("client requests"): each is at most 1,000 bytes and ends with a line
-- feed (LF, 10), which a carriage return (CR, 13) may precede. Neither counts as the line's.
use Rattle.std.specs.{Prelude.{◌≡◌, ◌-◌, ◌≤◌, ℕ, false, List, [], length, map, take, get_or}, List.{before_first, after_first, slice_split}}
use Rattle.assuan_text.specs.{LineEnds.{is_lf, has_lf, without_cr}, declared.TheConstants.MAX_LINE_LEN}

-- what can be a line: at most 1,000 bytes, none of them a line feed
pub record IsLine (bytes : List ℕ) : Type 0 where
  pub short : length bytes ≤ MAX_LINE_LEN
  pub whole : has_lf bytes ≡ false

-- the line that the first line feed ends
abbrev pub first_line : List ℕ → List ℕ
first_line bytes = without_cr (before_first is_lf bytes)

-- what comes after the first line feed
abbrev pub after_line : List ℕ → List ℕ
after_line bytes = after_first is_lf bytes

-- the pieces of the bytes that end before a line feed, in order, as they stand
abbrev pub pieces_of : List ℕ → List (List ℕ)
pieces_of bytes = take (length (slice_split is_lf bytes) - 1) (slice_split is_lf bytes)

-- all lines of the bytes, in order
abbrev pub lines_of : List ℕ → List (List ℕ)
lines_of bytes = map without_cr (pieces_of bytes)

-- the bytes after the last line feed, which are no line
abbrev pub rest_of : List ℕ → List ℕ
rest_of bytes = get_or (slice_split is_lf bytes) (length (slice_split is_lf bytes) - 1) []
