-- Private: where slots stand in the order of their last moments. This is the project's own.
use Rattle.std.specs.{Prelude.{◌≡◌, ℕ, ◌+◌, ◌-◌, ◌^◌, ◌<◌, ◌==◌, ◌&&◌, List, Bool, true, Option, Some, None, min, slice_index_or}, declared.cmp.{Reverse.Reverse, Ordering.Ordering}, Ordering.{nat_cmp, ordering_then}}
use Rattle.std.specs.List.{AllByRecursion, list_any}
use Rattle.cache_book.specs.{declared.{slot.Slot.Slot, deadlines.Place.Place}, Hashes.id_hash}

-- the end of a ttl that is counted from the last use, or of the maximum age, whichever comes first
abbrev pub lesser_end : Option ℕ → ℕ → ℕ → ℕ
lesser_end None last oldest = oldest
lesser_end (Some ttl) last oldest = min (last + ttl) oldest

-- the last moment at which a slot can be given. No moment is above the last u64
abbrev pub deadline : Slot → ℕ
deadline slot = min (lesser_end slot.entry.ttl slot.last (slot.entry.entered + slot.entry.max)) (2 ^ 64 - 1)

-- the place of a slot, which is found by the hash of its id
abbrev pub place_of : Slot → Place
place_of slot = record { moment = deadline slot; hash = id_hash slot.entry.id }

-- places that are kept with the soonest in front, how many they are, and how many there is room for
pub record AtDeadlines : Type 0 where
  pub places : List (Reverse Place)
  pub len : ℕ
  pub capacity : ℕ

-- the later of two places is the lesser in their order
abbrev pub soonest_is_greatest : Reverse Place → Reverse Place → Ordering
soonest_is_greatest a b = ordering_then (nat_cmp b.0.moment a.0.moment) (nat_cmp b.0.hash a.0.hash)

abbrev pub is_place : Place → Place → Bool
is_place a b = (a.moment == b.moment) && (a.hash == b.hash)

-- the place is one of these
abbrev pub is_among : Place → List (Reverse Place) → Bool
is_among place list = list_any (λ other. is_place other.0 place) list

-- there are places, and the one in front is before now
abbrev pub FrontIsPast : ℕ → List (Reverse Place) → ℕ → Type 0
FrontIsPast now list len = (0 < len) × ((default : Reverse Place) → (slice_index_or list 0 default).0.moment < now)

-- the place of each slot is one of these
abbrev pub HavePlaces : List (Reverse Place) → List Slot → Type 0
HavePlaces places list = AllByRecursion (λ slot. is_among (place_of slot) places ≡ true) list
