-- The bytes that a reader holds ahead, in either way of holding them.
use Rattle.std.specs.Prelude.{◌≡◌, ℕ, ◌-◌, ◌≤◌, List, length}
use Rattle.assuan_line.specs.declared.buffer.{Ahead.{Ahead, TheVariants.{Ring, Piece}}, TheConstants.{MAX_AHEAD, MAX_UNDECIDED}}

abbrev pub bytes_ahead : Ahead → List ℕ
bytes_ahead (Ring ring) = ring.items
bytes_ahead (Piece piece) = piece

-- how many bytes more may be appended
abbrev pub room_ahead : Ahead → ℕ
room_ahead (Ring ring) = ring.capacity - length ring.items
room_ahead (Piece piece) = MAX_UNDECIDED - length piece

-- it holds no more than it has room for
abbrev pub IsWithin : Ahead → Type 0
IsWithin (Ring ring) = (ring.capacity ≡ MAX_AHEAD) × (length ring.items ≤ MAX_AHEAD)
IsWithin (Piece piece) = length piece ≤ MAX_UNDECIDED
