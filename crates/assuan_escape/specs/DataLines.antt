-- Data lines, as the Assuan manual has them ("server responses" and "client requests"): `D`, a blank and escaped bytes. That each
-- line is as full as no cut escape allows is this project's own rule.
use Rattle.std.specs.{Prelude.{◌≡◌, ◌+◌, ◌<◌, ◌≤◌, ℕ, false, List, [], ◌∷◌, ◌++◌, length, drop, codes, slice_index, All, if◌then◌else◌}, List.flat_map}
use Rattle.assuan_text.specs.{declared.TheConstants.MAX_LINE_LEN, Forms.is_data, LineEnds.line_of}
use Rattle.assuan_escape.specs.Escapes.{escape_of, escapes, unescaped}

-- the line of a piece of the bytes
abbrev pub data_line : List ℕ → List ℕ
data_line piece = codes "D " ++ escapes piece

-- the line of a piece couldn't hold the next escape as well
abbrev pub IsFullBefore : List ℕ → List (List ℕ) → Type 0
IsFullBefore piece [] = Unit {0}
IsFullBefore piece (next ∷ more) = MAX_LINE_LEN < length (data_line piece) + length (escape_of (slice_index next 0))

-- no line but the last could hold the next escape as well
abbrev pub AreFull : List (List ℕ) → Type 0
AreFull [] = Unit {0}
AreFull (piece ∷ more) = IsFullBefore piece more × AreFull more

-- a piece of a data line: it isn't empty, and its line isn't too long
abbrev pub IsPiece : List ℕ → Type 0
IsPiece piece = (0 < length piece) × (length (data_line piece) ≤ MAX_LINE_LEN)

-- the pieces that the bytes are sent in
pub record AreData (bytes : List ℕ) (pieces : List (List ℕ)) : Type 0 where
  pub joined : flat_map (λ piece. piece) pieces ≡ bytes
  pub each : All IsPiece pieces
  pub full : AreFull pieces

-- the lines of these pieces
abbrev pub data_text : List (List ℕ) → List ℕ
data_text pieces = flat_map (λ piece. line_of (data_line piece)) pieces

-- the bytes that a line carries
abbrev pub carried : List ℕ → List ℕ
carried line = if is_data line then unescaped false (drop 2 line) else []
