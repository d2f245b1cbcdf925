-- The orders in which slots are kept. This is the project's own.
use Rattle.std.specs.{Prelude.{◌≡◌, ℕ, List, [], Bool, true, false, ◌==◌, nat_lt, nat_le, not, ◌&&◌, filter, if◌then◌else◌}, Cmp.Lexicographic.slice_cmp, declared.cmp.Ordering.Ordering}
use Rattle.std.specs.{Ordering.{nat_cmp, ordering_then, then_cmp, on, is_lt, is_le}, List.AllByRecursion}
use Rattle.cache_policy.specs.Entry.{within}
use Rattle.cache_book.specs.{declared.slot.Slot.Slot, Hashes.id_hash, Modes.has_some, Shelves.AreWithinMode, Arranged.{arranged, EachPair}}

-- ids by their hashes, and those that have one hash by their bytes, the first that differs
abbrev pub id_cmp : List ℕ → List ℕ → Ordering
id_cmp = then_cmp (on id_hash nat_cmp) (slice_cmp nat_cmp)

-- the slot's id is no higher than this one
abbrev pub is_upto : List ℕ → Slot → Bool
is_upto id slot = is_le (id_cmp slot.entry.id id)

-- the hash of the slot's id is below this one, or no higher
abbrev pub has_lower_hash : ℕ → Slot → Bool
has_lower_hash hash slot = nat_lt (id_hash slot.entry.id) hash

abbrev pub has_hash_upto : ℕ → Slot → Bool
has_hash_upto hash slot = nat_le (id_hash slot.entry.id) hash

-- slots by their ids, and then by their numbers
abbrev pub comes_before : Slot → Slot → Bool
comes_before a b = is_lt (ordering_then (id_cmp a.entry.id b.entry.id) (nat_cmp a.entry.number b.entry.number))

-- slots by their numbers
abbrev pub is_older : Slot → Slot → Bool
is_older a b = nat_lt a.entry.number b.entry.number

abbrev pub by_number : List Slot → List Slot
by_number list = arranged is_older list

abbrev pub AreById : List Slot → Type 0
AreById list = EachPair (λ a b. comes_before a b ≡ true) list

-- no two slots have one number
abbrev pub HaveOwnNumbers : List Slot → Type 0
HaveOwnNumbers list = EachPair (λ a b. (a.entry.number == b.entry.number) ≡ false) list

-- each slot serves some mode
abbrev pub AreServing : List Slot → Type 0
AreServing list = AllByRecursion (λ slot. has_some slot.modes ≡ true) list

-- what holds of slots that are kept by their ids
pub record AreKept (list : List Slot) : Type 0 where
  pub by_id : AreById list
  pub own_numbers : HaveOwnNumbers list
  pub serving : AreServing list
  pub within_mode : AreWithinMode list

-- the slot has this hash and is past a lifetime
abbrev pub has_hash_past : ℕ → ℕ → Slot → Bool
has_hash_past hash now slot = (hash == id_hash slot.entry.id) && not (within slot.entry slot.last now)

-- the slots without those
abbrev pub swept_hash : ℕ → ℕ → List Slot → List Slot
swept_hash hash now list = filter (λ slot. not (has_hash_past hash now slot)) list

-- a slot without its passphrase
abbrev pub wiped : Slot → Slot
wiped slot = record slot { entry = record slot.entry { secret = [] } }

-- the same where it is past a lifetime
abbrev pub wipe_past : ℕ → Slot → Slot
wipe_past now slot = if within slot.entry slot.last now then slot else wiped slot

-- no slot has a passphrase, or none that is past a lifetime
abbrev pub AreWiped : List Slot → Type 0
AreWiped list = AllByRecursion (λ slot. slot.entry.secret ≡ []) list

abbrev pub AreWipedPast : ℕ → List Slot → Type 0
AreWipedPast now list = AllByRecursion (λ slot. within slot.entry slot.last now ≡ false → slot.entry.secret ≡ []) list
