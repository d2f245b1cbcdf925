-- The forms of lines that are no commands (Assuan manual, "server responses" and "client requests"). That blanks and tabs are
-- passed over is this project's own rule.
use Rattle.std.specs.{Prelude.{ℕ, ◌==◌, ◌||◌, ◌&&◌, Bool, List, length, slice_index}, List.list_all}
use Rattle.assuan_text.specs.Blanks.{is_blank, without_blanks}

-- no request: behind its blanks the line is empty, or a comment
abbrev pub is_ignored : List ℕ → Bool
is_ignored line = length (without_blanks line) == 0 || slice_index (without_blanks line) 0 == 35

-- a comment, or nothing but blanks and tabs
abbrev pub is_idle : List ℕ → Bool
is_idle line = slice_index line 0 == 35 || list_all is_blank line

-- a data line: `D` or `d` alone, or followed by one blank and escaped bytes
abbrev pub is_data : List ℕ → Bool
is_data line =
    (slice_index line 0 == 68 || slice_index line 0 == 100) && (length line == 1 || slice_index line 1 == 32)
