-- What each call does to the slots on a shelf. This is the project's own.
use Rattle.std.specs.{Prelude.{◌≡◌, ℕ, ◌<◌, ◌==◌, List, [], ◌∷◌, ◌++◌, Bool, true, false, ◌&&◌, not, max, map, filter, if◌then◌else◌}, List.AllByRecursion}
use Rattle.cache_policy.specs.{declared.{mode.Mode.Mode, entry.Entry.Entry, grant.Grant.Grant}, Mode.covers, Entry.{same_id, within}}
use Rattle.cache_book.specs.{declared.slot.Slot.Slot, Modes.{modes_where, holds, has_some, not_covered}}

-- a shelf is seen as its slots, by the numbers of their entries, and how many entries it has room for without taking memory
pub record AtShelf : Type 0 where
  pub slots : List Slot
  pub spare : ℕ

-- the slot serves a request: it has the id, one of its modes is the asked one, and the moment is within both lifetimes
abbrev pub serves_at : List ℕ → Mode → ℕ → Slot → Bool
serves_at id mode moment slot = same_id slot.entry.id id && holds slot.modes mode && within slot.entry slot.last moment

-- the slot is one of the list
pub data IsOneOf (slot : Slot) : List Slot → Type 0 where
  here : {later : List Slot} → IsOneOf slot (slot ∷ later)
  further : {other : Slot} {later : List Slot} → IsOneOf slot later → IsOneOf slot (other ∷ later)

-- the grant is made of a slot that serves the request
pub record IsGrantFrom (list : List Slot) (id : List ℕ) (mode : Mode) (moment : ℕ) (grant : Grant) : Type 0 where
  pub slot : Slot
  pub on : IsOneOf slot list
  pub serves : serves_at id mode moment slot ≡ true
  pub id_is : grant.id ≡ id
  pub mode_is : grant.mode ≡ mode
  pub entry : grant.entry ≡ slot.entry
  pub last : grant.last ≡ slot.last
  pub moment_is : grant.moment ≡ moment

-- no slot serves the request
abbrev pub ServesNone : List Slot → List ℕ → Mode → ℕ → Type 0
ServesNone list id mode moment = AllByRecursion (λ slot. serves_at id mode moment slot ≡ false) list

-- the entry with this number was used now
abbrev pub touch_slot : ℕ → ℕ → Slot → Slot
touch_slot number now slot = if number == slot.entry.number then record slot { last = max slot.last now } else slot

abbrev pub touched : ℕ → ℕ → List Slot → List Slot
touched number now list = map (touch_slot number now) list

-- a later entry of the same id takes the modes that it covers
abbrev pub hide : Entry → Slot → Slot
hide entry slot = if same_id entry.id slot.entry.id then record slot { modes = not_covered entry.mode slot.modes } else slot

-- what is left of the slots beside a later entry: a slot without a mode is dropped
abbrev pub hidden : Entry → List Slot → List Slot
hidden entry list = filter (λ slot. has_some slot.modes) (map (hide entry) list)

-- a new entry serves all that its mode covers
abbrev pub new_slot : Entry → Slot
new_slot entry = record { entry = entry; last = entry.entered; modes = modes_where (covers entry.mode) }

-- the slots with a new entry, which is the last one
abbrev pub with_entry : Entry → List Slot → List Slot
with_entry entry list = hidden entry list ++ new_slot entry ∷ []

-- the slots without those of an id whose entry's mode covers the named one
abbrev pub cleared : List ℕ → Mode → List Slot → List Slot
cleared id mode list = filter (λ slot. not (same_id slot.entry.id id && covers slot.entry.mode mode)) list

-- the slots within both lifetimes
abbrev pub swept : ℕ → List Slot → List Slot
swept now list = filter (λ slot. within slot.entry slot.last now) list

-- the slot serves no mode that its entry's mode doesn't cover
abbrev pub IsWithinMode : Slot → Type 0
IsWithinMode slot = (mode : Mode) → holds slot.modes mode ≡ true → covers slot.entry.mode mode ≡ true

abbrev pub AreWithinMode : List Slot → Type 0
AreWithinMode list = AllByRecursion IsWithinMode list

-- each number on the shelf is below this one
abbrev pub AreBelow : ℕ → List Slot → Type 0
AreBelow number list = AllByRecursion (λ slot. slot.entry.number < number) list
