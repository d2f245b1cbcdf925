-- Slots: the entries of a history that can still be given, each with its last use and the modes that it still serves. This is the
-- project's own.
use Rattle.std.specs.{Prelude.{ℕ, ◌==◌, List, [], ◌∷◌, Bool, false, Option, Some, None, if◌then◌else◌}, List.flat_map}
use Rattle.cache_policy.specs.{declared.{mode.Mode.Mode, life.Limits.Limits, entry.Entry.Entry}, Histories.History, Entries.entries, Live.{last_use, live}}
use Rattle.cache_book.specs.{declared.{modes.Modes.Modes, slot.Slot.Slot}, Modes.{modes_where, has_some}}

-- the entry with this number. No two entries of a history have one number
abbrev pub has_number : ℕ → Option Entry → Bool
has_number number (Some entry) = entry.number == number
has_number number None = false

-- the entry is the live one of its id for a request in this mode
abbrev pub still_serves : Limits → History → ℕ → Entry → Mode → Bool
still_serves limits history moment entry mode = has_number entry.number (live limits history entry.id mode moment)

-- a slot, where there is a mode that it serves
abbrev pub slot_with : Entry → ℕ → Modes → List Slot
slot_with entry last modes = if has_some modes then record { entry = entry; last = last; modes = modes } ∷ [] else []

-- the slot of an entry, where some mode has it as its live one
abbrev pub slot_of : Limits → History → ℕ → Entry → List Slot
slot_of limits history moment entry = slot_with entry (last_use history entry) (modes_where (still_serves limits history moment entry))

-- the slots of a history at a moment, by the numbers of their entries
abbrev pub slots : Limits → History → ℕ → List Slot
slots limits history moment = flat_map (slot_of limits history moment) (entries limits history)
