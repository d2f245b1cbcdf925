-- Which slot of a history serves a request: that of the live entry, and none where no entry is live.
use Rattle.std.specs.{Prelude.{◌≡◌, ℕ, ◌==◌, List, [], ◌∷◌, ◌++◌, Bool, true, false, not, ◌&&◌, ◌||◌, nat_eq, Option, Some, None, IfSome, reverse, filter, refl, cond, if◌then◌else◌}, Cmp.Lexicographic.bytes_decides}
use Rattle.std.{specs.{List.{AllByRecursion, flat_map}, Option.option_and_then}, proofs.{Common.{ap, sym, ◌∙◌, subst, arith}, lemmas.Bool.Decides.nat_tests, Math.Bool.or-true}}
use Rattle.cache_policy.specs.{declared.{mode.Mode.{Mode, TheVariants.{Normal, User, Ssh, Nonce, Any}}, life.Limits.Limits, entry.Entry.Entry, grant.Grant.Grant}, Histories.History, Mode.covers, Entry.{same_id, serves, within}}
use Rattle.cache_policy.{specs.{Entries.entries, Live.{newest, gone, last_use, is_live, live}}, proofs.Lists.{all_append, find_passes}}
use Rattle.cache_book.specs.{declared.{modes.Modes.Modes, slot.Slot.Slot}, Modes.{modes_where, holds, has_some}, Slots.{has_number, still_serves, slot_of, slots}, Shelves.{serves_at, IsOneOf, here, further, IsGrantFrom, ServesNone, swept}}
use Rattle.cache_book.proofs.{Kept.{all_filter, holds_where}, Known.{IsSameAs, IsKnown, all_known, all_newest}, Finding.all_at, Marking.both_true}

-- the slot is that of an entry of the history
pub record IsSlotOf (limits : Limits) (history : History) (moment : ℕ) (slot : Slot) : Type 0 where
  pub known : IsKnown limits history slot.entry
  pub last : slot.last ≡ last_use history slot.entry
  pub modes : slot.modes ≡ modes_where (still_serves limits history moment slot.entry)

slots_of : (limits : Limits) (history : History) (moment : ℕ) (list : List Entry) → AllByRecursion (IsKnown limits history) list
    → AllByRecursion (IsSlotOf limits history moment) (flat_map (slot_of limits history moment) list)
slots_of limits history moment [] known = tt
slots_of limits history moment (entry ∷ later) known =
    all_append (IsSlotOf limits history moment) (slot_of limits history moment entry) (flat_map (slot_of limits history moment) later)
    (elim (has_some modes) as (λ b. AllByRecursion (IsSlotOf limits history moment) (cond b (record { entry = entry; last = last_use history entry; modes = modes } ∷ []) [])) [
      | true ↦ (record { known = known.0; last = refl; modes = refl }, tt)
      | false ↦ tt
    ]) (slots_of limits history moment later known.1)
  where
    modes : Modes
    modes = modes_where (still_serves limits history moment entry)

pub all_slots_of : (limits : Limits) (history : History) (moment : ℕ) → AllByRecursion (IsSlotOf limits history moment) (slots limits history moment)
all_slots_of limits history moment = slots_of limits history moment (entries limits history) (all_known limits history)

pub same_ids : (id other : List ℕ) → same_id id other ≡ true → id ≡ other
same_ids id other h = (bytes_decides id other).0 h

-- what is live is one of the entries
live_is_same : (limits : Limits) (history : History) (moment : ℕ) (entry : Entry) (mode : Mode) → IsKnown limits history entry
    → IfSome (live limits history entry.id mode moment) (IsSameAs entry)
live_is_same limits history moment entry mode known = at (newest limits history entry.id mode) (all_newest (IsSameAs entry) limits history entry.id mode known.only)
  where
    at : (o : Option Entry) → IfSome o (IsSameAs entry) → IfSome (option_and_then (λ x. if is_live history moment x then Some x else None) o) (IsSameAs entry)
    at None h = tt
    at (Some x) h = elim (is_live history moment x) as (λ b. IfSome (cond b (Some x) None) (IsSameAs entry)) [ true ↦ h | false ↦ tt ]

-- a slot that serves a request is that of the live entry
pub live_served : (limits : Limits) (history : History) (moment : ℕ) (id : List ℕ) (mode : Mode) (slot : Slot) → IsSlotOf limits history moment slot
    → serves_at id mode moment slot ≡ true → live limits history id mode moment ≡ Some slot.entry
live_served limits history moment id mode slot is passes =
    let parts = both_true (same_id slot.entry.id id) (holds slot.modes mode)
    (both_true (same_id slot.entry.id id && holds slot.modes mode) (within slot.entry slot.last moment) passes).0 in
    subst (λ (i : List ℕ). live limits history i mode moment ≡ Some slot.entry) (same_ids slot.entry.id id parts.0)
    (named (live limits history slot.entry.id mode moment) (live_is_same limits history moment slot.entry mode is.known)
    (sym (holds_where (still_serves limits history moment slot.entry) mode) ∙ (ap (λ (m : Modes). holds m mode) (sym is.modes) ∙ parts.1)))
  where
    named : (o : Option Entry) → IfSome o (IsSameAs slot.entry) → has_number slot.entry.number o ≡ true → o ≡ Some slot.entry
    named None h e = cc
    named (Some x) h e = ap Some (h e)

-- what a grant from the slots of a history is
pub record IsLiveGrant (limits : Limits) (history : History) (id : List ℕ) (mode : Mode) (moment : ℕ) (grant : Grant) : Type 0 where
  pub live_is : live limits history id mode moment ≡ Some grant.entry
  pub id_is : grant.id ≡ id
  pub mode_is : grant.mode ≡ mode
  pub last : grant.last ≡ last_use history grant.entry
  pub moment_is : grant.moment ≡ moment

pub grant_is_live : (limits : Limits) (history : History) (id : List ℕ) (mode : Mode) (moment : ℕ) (grant : Grant)
    → IsGrantFrom (slots limits history moment) id mode moment grant → IsLiveGrant limits history id mode moment grant
grant_is_live limits history id mode moment grant from =
    let is = all_at (IsSlotOf limits history moment) (slots limits history moment) from.slot (all_slots_of limits history moment) from.on in
    record {
      live_is = live_served limits history moment id mode from.slot is from.serves ∙ ap Some (sym from.entry);
      id_is = from.id_is;
      mode_is = from.mode_is;
      last = from.last ∙ (is.last ∙ ap (last_use history) (sym from.entry));
      moment_is = from.moment_is;
    }

-- what holds of all slots holds of those of each entry
each_slot_of : (P : Slot → Type 0) (f : Entry → List Slot) (list : List Entry) → AllByRecursion P (flat_map f list)
    → AllByRecursion (λ entry. AllByRecursion P (f entry)) list
each_slot_of P f [] all = tt
each_slot_of P f (entry ∷ later) all = (front (f entry) all, each_slot_of P f later (back (f entry) all))
  where
    front : (xs : List Slot) → AllByRecursion P (xs ++ flat_map f later) → AllByRecursion P xs
    front [] h = tt
    front (x ∷ xs) h = (h.0, front xs h.1)

    back : (xs : List Slot) → AllByRecursion P (xs ++ flat_map f later) → AllByRecursion P (flat_map f later)
    back [] h = h
    back (x ∷ xs) h = back xs h.1

has_some_where : (test : Mode → Bool) (mode : Mode) → test mode ≡ true → has_some (modes_where test) ≡ true
has_some_where test Normal h = ap (λ b. b || (test User || (test Ssh || (test Nonce || test Any)))) h
has_some_where test User h = ap (λ b. test Normal || (b || (test Ssh || (test Nonce || test Any)))) h ∙ or-true (test Normal)
has_some_where test Ssh h = ap (λ b. test Normal || (test User || (b || (test Nonce || test Any)))) h ∙ (ap (λ b. test Normal || b) (or-true (test User)) ∙ or-true (test Normal))
has_some_where test Nonce h =
    ap (λ b. test Normal || (test User || (test Ssh || (b || test Any)))) h
    ∙ (ap (λ b. test Normal || (test User || b)) (or-true (test Ssh)) ∙ (ap (λ b. test Normal || b) (or-true (test User)) ∙ or-true (test Normal)))
has_some_where test Any h =
    ap (λ b. test Normal || (test User || (test Ssh || (test Nonce || b)))) h
    ∙ (ap (λ b. test Normal || (test User || (test Ssh || b))) (or-true (test Nonce))
    ∙ (ap (λ b. test Normal || (test User || b)) (or-true (test Ssh)) ∙ (ap (λ b. test Normal || b) (or-true (test User)) ∙ or-true (test Normal))))

same_number : (n : ℕ) → nat_eq n n ≡ true
same_number n = grind (arith, nat_tests)

-- where no slot serves a request no entry is live for it
pub none_live : (limits : Limits) (history : History) (id : List ℕ) (mode : Mode) (moment : ℕ)
    → ServesNone (slots limits history moment) id mode moment → live limits history id mode moment ≡ None
none_live limits history id mode moment none =
    at (newest limits history id mode) refl (all_newest (λ (entry : Entry). AllByRecursion (λ slot. serves_at id mode moment slot ≡ false) (slot_of limits history moment entry)) limits history id mode
    (each_slot_of (λ (slot : Slot). serves_at id mode moment slot ≡ false) (slot_of limits history moment) (entries limits history) none))
    (find_passes (serves id mode) (reverse (entries limits history)))
  where
    at : (o : Option Entry) → newest limits history id mode ≡ o
        → IfSome o (λ entry. AllByRecursion (λ slot. serves_at id mode moment slot ≡ false) (slot_of limits history moment entry))
        → IfSome o (λ entry. serves id mode entry ≡ true)
        → option_and_then (λ x. if is_live history moment x then Some x else None) o ≡ None
    at None e none passes = refl
    at (Some entry) e none passes =
        elim (is_live history moment entry) as (λ b. is_live history moment entry ≡ b → (if b then Some entry else None) ≡ None) [
          | true ↦ λ lives. absurd (refused lives)
          | false ↦ λ lives. refl
        ] refl
      where
        ids : (same_id entry.id id ≡ true) × (covers entry.mode mode ≡ true)
        ids = both_true (same_id entry.id id) (covers entry.mode mode) passes

        modes : Modes
        modes = modes_where (still_serves limits history moment entry)

        serves_still : is_live history moment entry ≡ true → still_serves limits history moment entry mode ≡ true
        serves_still lives =
            ap (λ (i : List ℕ). has_number entry.number (live limits history i mode moment)) (same_ids entry.id id ids.0)
            ∙ (ap (λ (o : Option Entry). has_number entry.number (option_and_then (λ x. if is_live history moment x then Some x else None) o)) e
            ∙ (ap (λ (b : Bool). has_number entry.number (if b then Some entry else None)) lives ∙ same_number entry.number))

        refused : is_live history moment entry ≡ true → ⊥
        refused lives =
            let on : slot_of limits history moment entry ≡ record { entry = entry; last = last_use history entry; modes = modes } ∷ [] =
            ap (λ (b : Bool). cond b (record { entry = entry; last = last_use history entry; modes = modes } ∷ []) []) (has_some_where (still_serves limits history moment entry) mode (serves_still lives)) in
            let no = subst (AllByRecursion (λ slot. serves_at id mode moment slot ≡ false)) on none in
            let yes : serves_at id mode moment (record { entry = entry; last = last_use history entry; modes = modes }) ≡ true =
            ap (λ b. (b && holds modes mode) && within entry (last_use history entry) moment) ids.0
            ∙ (ap (λ b. b && within entry (last_use history entry) moment) (holds_where (still_serves limits history moment entry) mode ∙ serves_still lives)
            ∙ (both_true (not (gone history entry)) (within entry (last_use history entry) moment) lives).1) in
            let wrong : true ≡ false = sym yes ∙ no.0 in cc

-- what has the number of the live entry is live
pub live_is_live : (limits : Limits) (history : History) (id : List ℕ) (mode : Mode) (moment : ℕ) (given entry : Entry)
    → live limits history id mode moment ≡ Some given → IsKnown limits history entry → (given.number == entry.number) ≡ true → is_live history moment entry ≡ true
live_is_live limits history id mode moment given entry is known same =
    at (newest limits history id mode) (all_newest (IsSameAs entry) limits history id mode known.only) is
  where
    at : (o : Option Entry) → IfSome o (IsSameAs entry) → option_and_then (λ x. if is_live history moment x then Some x else None) o ≡ Some given
        → is_live history moment entry ≡ true
    at None h is = cc
    at (Some x) h is =
        elim (is_live history moment x) as (λ b. is_live history moment x ≡ b → (if b then Some x else None) ≡ Some given → is_live history moment entry ≡ true) [
          | true ↦ λ lives e. let this : x ≡ given = cc in
              subst (λ (y : Entry). is_live history moment y ≡ true) (h (subst (λ (y : Entry). (y.number == entry.number) ≡ true) (sym this) same)) lives
          | false ↦ λ lives e. cc
        ] refl is

-- what is found at a moment is among what is left then
on_filter : (test : Slot → Bool) (slot : Slot) (list : List Slot) → IsOneOf slot list → test slot ≡ true → IsOneOf slot (filter test list)
on_filter test slot [] on passes = elim on [ ]
on_filter test slot (first ∷ later) here passes = subst (λ (b : Bool). IsOneOf slot (cond b (slot ∷ filter test later) (filter test later))) (sym passes) here
on_filter test slot (first ∷ later) (further on) passes =
    elim (test first) as (λ b. IsOneOf slot (cond b (first ∷ filter test later) (filter test later))) [
      | true ↦ further (on_filter test slot later on passes)
      | false ↦ on_filter test slot later on passes
    ]

pub grant_swept : (list : List Slot) (id : List ℕ) (mode : Mode) (moment : ℕ) (grant : Grant) → IsGrantFrom list id mode moment grant
    → IsGrantFrom (swept moment list) id mode moment grant
grant_swept list id mode moment grant from = record {
  slot = from.slot;
  on = on_filter (λ (slot : Slot). within slot.entry slot.last moment) from.slot list from.on
      (both_true (same_id from.slot.entry.id id && holds from.slot.modes mode) (within from.slot.entry from.slot.last moment) from.serves).1;
  serves = from.serves;
  id_is = from.id_is;
  mode_is = from.mode_is;
  entry = from.entry;
  last = from.last;
  moment_is = from.moment_is;
}

pub none_swept : (list : List Slot) (id : List ℕ) (mode : Mode) (moment : ℕ) → ServesNone list id mode moment → ServesNone (swept moment list) id mode moment
none_swept list id mode moment none = all_filter (λ (slot : Slot). serves_at id mode moment slot ≡ false) (λ slot. within slot.entry slot.last moment) list none
