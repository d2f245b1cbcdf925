-- The lines of a command that are skipped before its end: data, comments and status lines. How many there may be is this
-- project's own rule.
use Rattle.std.specs.{Prelude.{◌≡◌, ℕ, ◌+◌, Bool, true, false, List, [], ◌∷◌, ◌++◌, length, nat_le}, List.{flat_map, count_by}}
use Rattle.{cache_policy.specs.declared.secret.TheConstants.MAX_SECRET_LEN, assuan_escape.specs.DataLines.carried}
use Rattle.assuan_client.specs.{declared.tally.TheConstants.MAX_NOTES, Forms.{Form, Data, Note, answer_form}}

-- what came in a command so far
pub record Tally : Type 0 where
  -- how many comments, status lines and inquiries
  pub notes : ℕ
  -- the bytes of its data lines
  pub bytes : List ℕ

abbrev pub is_note : Form → Bool
is_note Note = true
is_note _ = false

-- nothing, as a command begins
abbrev pub nothing : Tally
nothing = record { notes = 0; bytes = [] }

-- what came, with these lines after it
abbrev pub with_lines : Tally → List (List ℕ) → Tally
with_lines tally lines = record {
  notes = tally.notes + count_by (λ line. is_note (answer_form line)) lines;
  bytes = tally.bytes ++ flat_map carried lines;
}

-- what came, with one inquiry after it
abbrev pub with_inquiry : Tally → Tally
with_inquiry tally = record { notes = tally.notes + 1; bytes = tally.bytes }

-- A line of this form, that carries so many bytes, is skipped: up to 10,000 comments, status lines and inquiries, and 255 bytes.
abbrev pub skips : Tally → Form → ℕ → Bool
skips tally Note count = nat_le (tally.notes + 1) MAX_NOTES
skips tally Data count = nat_le (length tally.bytes + count) MAX_SECRET_LEN
skips tally _ count = false

-- a line is skipped, where this came before the lines before it
abbrev pub skips_after : Tally → List (List ℕ) → List ℕ → Bool
skips_after tally before line = skips (with_lines tally before) (answer_form line) (length (carried line))

-- The same, where the first of the lines before stands for what came before them: its count, and then its bytes.
abbrev pub coded : Tally → List ℕ
coded tally = tally.notes ∷ tally.bytes

abbrev pub decoded : List ℕ → Tally
decoded [] = nothing
decoded (notes ∷ bytes) = record { notes = notes; bytes = bytes }

abbrev pub skips_behind : List (List ℕ) → List ℕ → Bool
skips_behind [] line = false
skips_behind (start ∷ lines) line = skips_after (decoded start) lines line

abbrev pub IsBehind : Tally → List (List ℕ) → Type 0
IsBehind tally [] = ⊥
IsBehind tally (start ∷ lines) = tally ≡ with_lines (decoded start) lines
