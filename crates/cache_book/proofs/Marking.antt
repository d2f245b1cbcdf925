-- The slots of a history with one mark more, by the kind of its step: what a call of a shelf makes of the slots before.
use Rattle.std.specs.{Prelude.{◌≡◌, ℕ, ◌+◌, ◌≤◌, List, [], ◌++◌, Bool, true, false, not, ◌&&◌, ◌||◌, max, nat_le, Option, Some, None, refl, if◌then◌else◌}, List.{AllByRecursion, flat_map}, Option.option_or}
use Rattle.std.proofs.{Common.{ap, sym, ◌∙◌, subst, arith}, lemmas.{Bool.Decides.nat_tests, List.append-nil}}
use Rattle.cache_policy.specs.{declared.{mode.Mode.Mode, life.Limits.Limits, mark.Mark.Mark, entry.Entry.Entry}, Mode.covers, Entry.{same_id, within_ttl, within}, Histories.{History, with_mark}, Entries.{stored, entries}}
use Rattle.cache_policy.{specs.Live.{newest_of, newest, takes_away, gone, gives, last_use, is_live}, proofs.{Lists.all_weaker, EntriesLemmas.entries_with_mark, OneMore.{last_use_with_mark, newest_with_mark, is_live_with_mark}}}
use Rattle.cache_book.specs.{declared.{modes.Modes.Modes, slot.Slot.Slot}, Modes.modes_where, Slots.{has_number, slot_of, slots}, Shelves.{cleared, swept}}
use Rattle.cache_book.proofs.{Known.{IsKnown, all_both, all_known, is_newest, modes_where_same, slot_where, slot_of_known}, Slotwise.{IsSlotwise, flat_map_slotwise, same_slotwise, none_slotwise, filter_slotwise, filter_slot_where}}

-- a moment that is within the lifetimes, and an earlier one
within_ttl_earlier : (ttl : Option ℕ) (last now later : ℕ) → now ≤ later → within_ttl ttl last later ≡ true → within_ttl ttl last now ≡ true
within_ttl_earlier None last now later h is = refl
within_ttl_earlier (Some ttl) last now later h is = grind (arith, nat_tests)

age_earlier : (end now later : ℕ) → now ≤ later → nat_le later end ≡ true → nat_le now end ≡ true
age_earlier end now later h is = grind (arith, nat_tests)

pub both_true : (a b : Bool) → (a && b) ≡ true → (a ≡ true) × (b ≡ true)
both_true true b h = (refl, h)
both_true false b h = cc

pub within_earlier : (entry : Entry) (last now later : ℕ) → now ≤ later → within entry last later ≡ true → within entry last now ≡ true
within_earlier entry last now later h is =
    let parts = both_true (within_ttl entry.ttl last later) (nat_le later (entry.entered + entry.max)) is in
    let ttl : within_ttl entry.ttl last now ≡ true = within_ttl_earlier entry.ttl last now later h parts.0 in
    let age : nat_le now (entry.entered + entry.max) ≡ true = age_earlier (entry.entered + entry.max) now later h parts.1 in
    ap (λ b. b && nat_le now (entry.entered + entry.max)) ttl ∙ age

later_too : (gone now later : Bool) → (later ≡ true → now ≡ true) → (not gone && later) ≡ ((not gone && now) && later)
later_too true now later h = refl
later_too false true later h = refl
later_too false false true h = let e : false ≡ true = h refl in cc
later_too false false false h = refl

-- the slots at a later moment are those that are within their lifetimes then
pub slots_later : (limits : Limits) (history : History) (now later : ℕ) → now ≤ later → slots limits history later ≡ swept later (slots limits history now)
slots_later limits history now later h =
    flat_map_slotwise (swept later) (filter_slotwise (λ (slot : Slot). within slot.entry slot.last later)) (slot_of limits history now) (slot_of limits history later)
    (entries limits history) (all_weaker (IsKnown limits history) (λ (entry : Entry). slot_of limits history later entry ≡ swept later (slot_of limits history now entry))
    each (entries limits history) (all_known limits history))
  where
    each : (entry : Entry) → IsKnown limits history entry → slot_of limits history later entry ≡ swept later (slot_of limits history now entry)
    each entry known =
        let last : ℕ = last_use history entry in
        slot_of_known limits history later entry known
        ∙ (ap (λ (b : Bool). slot_where b entry last (modes_where (is_newest limits history entry)))
        (later_too (gone history entry) (within entry last now) (within entry last later) (within_earlier entry last now later h))
        ∙ (sym (filter_slot_where (λ (slot : Slot). within slot.entry slot.last later) (is_live history now entry) entry last (modes_where (is_newest limits history entry)))
        ∙ ap (swept later) (sym (slot_of_known limits history now entry known))))

-- an entry of before is known after a mark that stores nothing
known_with_mark : (limits : Limits) (history : History) (mark : Mark) → stored limits history mark.step mark.moment ≡ []
    → AllByRecursion (IsKnown limits (with_mark history mark)) (entries limits history)
known_with_mark limits history mark none =
    subst (AllByRecursion (IsKnown limits (with_mark history mark)))
    (entries_with_mark limits history mark ∙ (ap (λ (list : List Entry). entries limits history ++ list) none ∙ append-nil (entries limits history)))
    (all_known limits (with_mark history mark))

-- what a mark that stores nothing makes of the slot of an entry
pub record IsPlain (limits : Limits) (history : History) (mark : Mark) (entry : Entry) : Type 0 where
  pub before : IsKnown limits history entry
  pub after : IsKnown limits (with_mark history mark) entry

pub slot_with_mark : (limits : Limits) (history : History) (mark : Mark) (moment : ℕ) (entry : Entry)
    → stored limits history mark.step mark.moment ≡ [] → IsPlain limits history mark entry
    → slot_of limits (with_mark history mark) moment entry
    ≡ slot_where (not (gone history entry || takes_away entry mark.step)
    && within entry (if gives entry.number mark.reply then max (last_use history entry) mark.moment else last_use history entry) moment)
    entry (if gives entry.number mark.reply then max (last_use history entry) mark.moment else last_use history entry) (modes_where (is_newest limits history entry))
slot_with_mark limits history mark moment entry none is =
    slot_of_known limits (with_mark history mark) moment entry is.after
    ∙ (ap (λ (b : Bool). slot_where b entry (last_use (with_mark history mark) entry) (modes_where (is_newest limits (with_mark history mark) entry)))
    (is_live_with_mark history mark entry moment is.before.older)
    ∙ (ap (λ (last : ℕ). slot_where live entry last (modes_where (is_newest limits (with_mark history mark) entry))) (last_use_with_mark history mark entry)
    ∙ ap (λ (modes : Modes). slot_where live entry (if gives entry.number mark.reply then max (last_use history entry) mark.moment else last_use history entry) modes)
    (modes_where_same (is_newest limits (with_mark history mark) entry) (is_newest limits history entry) same)))
  where
    live : Bool
    live = not (gone history entry || takes_away entry mark.step)
        && within entry (if gives entry.number mark.reply then max (last_use history entry) mark.moment else last_use history entry) moment

    same : (mode : Mode) → is_newest limits (with_mark history mark) entry mode ≡ is_newest limits history entry mode
    same mode =
        ap (has_number entry.number) (newest_with_mark limits history mark entry.id mode
        ∙ ap (λ (list : List Entry). option_or (newest_of entry.id mode list) (newest limits history entry.id mode)) none)

-- the slots after such a mark, where each slot comes out as by a call
pub slots_plain : (limits : Limits) (history : History) (mark : Mark) (moment : ℕ) (op : List Slot → List Slot) → IsSlotwise op
    → stored limits history mark.step mark.moment ≡ []
    → ((entry : Entry) → IsPlain limits history mark entry → slot_of limits (with_mark history mark) moment entry ≡ op (slot_of limits history moment entry))
    → slots limits (with_mark history mark) moment ≡ op (slots limits history moment)
slots_plain limits history mark moment op slotwise none each =
    ap (flat_map (slot_of limits (with_mark history mark) moment))
    (entries_with_mark limits history mark ∙ (ap (λ (list : List Entry). entries limits history ++ list) none ∙ append-nil (entries limits history)))
    ∙ flat_map_slotwise op slotwise (slot_of limits history moment) (slot_of limits (with_mark history mark) moment) (entries limits history)
    (all_weaker (λ (entry : Entry). IsKnown limits history entry × IsKnown limits (with_mark history mark) entry)
    (λ (entry : Entry). slot_of limits (with_mark history mark) moment entry ≡ op (slot_of limits history moment entry))
    (λ entry known. each entry (record { before = known.0; after = known.1 })) (entries limits history)
    (all_both (IsKnown limits history) (IsKnown limits (with_mark history mark)) (entries limits history) (all_known limits history) (known_with_mark limits history mark none)))

pub or_false : (a b : Bool) → b ≡ false → (a || b) ≡ a
or_false true b h = refl
or_false false b h = h

-- a mark that neither stores, nor takes away, nor gives leaves all slots
pub slots_same : (limits : Limits) (history : History) (mark : Mark) (moment : ℕ) → stored limits history mark.step mark.moment ≡ []
    → ((entry : Entry) → takes_away entry mark.step ≡ false) → ((number : ℕ) → gives number mark.reply ≡ false)
    → slots limits (with_mark history mark) moment ≡ slots limits history moment
slots_same limits history mark moment none keeps unused =
    slots_plain limits history mark moment (λ list. list) same_slotwise none each
  where
    each : (entry : Entry) → IsPlain limits history mark entry → slot_of limits (with_mark history mark) moment entry ≡ slot_of limits history moment entry
    each entry is =
        slot_with_mark limits history mark moment entry none is
        ∙ (ap (λ (b : Bool). slot_where (not (gone history entry || takes_away entry mark.step)
        && within entry (if b then max (last_use history entry) mark.moment else last_use history entry) moment)
        entry (if b then max (last_use history entry) mark.moment else last_use history entry) (modes_where (is_newest limits history entry))) (unused entry.number)
        ∙ (ap (λ (b : Bool). slot_where (not b && within entry (last_use history entry) moment) entry (last_use history entry) (modes_where (is_newest limits history entry)))
        (or_false (gone history entry) (takes_away entry mark.step) (keeps entry))
        ∙ sym (slot_of_known limits history moment entry is.before)))

-- a Flush leaves none
pub slots_flushed : (limits : Limits) (history : History) (mark : Mark) (moment : ℕ) → stored limits history mark.step mark.moment ≡ []
    → ((entry : Entry) → takes_away entry mark.step ≡ true) → slots limits (with_mark history mark) moment ≡ []
slots_flushed limits history mark moment none takes = slots_plain limits history mark moment (λ list. []) none_slotwise none each
  where
    each : (entry : Entry) → IsPlain limits history mark entry → slot_of limits (with_mark history mark) moment entry ≡ []
    each entry is =
        let last : ℕ = if gives entry.number mark.reply then max (last_use history entry) mark.moment else last_use history entry in
        slot_with_mark limits history mark moment entry none is
        ∙ (ap (λ (b : Bool). slot_where (not (gone history entry || b) && within entry last moment) entry last (modes_where (is_newest limits history entry))) (takes entry)
        ∙ elim (gone history entry) as (λ b. slot_where (not (b || true) && within entry last moment) entry last (modes_where (is_newest limits history entry)) ≡ []) [ true ↦ refl | false ↦ refl ])

taken_off : (gone takes within : Bool) → (not (gone || takes) && within) ≡ ((not gone && within) && not takes)
taken_off true takes within = refl
taken_off false true true = refl
taken_off false true false = refl
taken_off false false true = refl
taken_off false false false = refl

-- a Clear takes those of its id whose mode covers the named one
pub slots_cleared : (limits : Limits) (history : History) (mark : Mark) (moment : ℕ) (id : List ℕ) (mode : Mode)
    → stored limits history mark.step mark.moment ≡ []
    → ((entry : Entry) → takes_away entry mark.step ≡ (same_id entry.id id && covers entry.mode mode)) → ((number : ℕ) → gives number mark.reply ≡ false)
    → slots limits (with_mark history mark) moment ≡ cleared id mode (slots limits history moment)
slots_cleared limits history mark moment id mode none takes unused =
    slots_plain limits history mark moment (cleared id mode) (filter_slotwise test) none each
  where
    test : Slot → Bool
    test slot = not (same_id slot.entry.id id && covers slot.entry.mode mode)

    each : (entry : Entry) → IsPlain limits history mark entry → slot_of limits (with_mark history mark) moment entry ≡ cleared id mode (slot_of limits history moment entry)
    each entry is =
        let modes : Modes = modes_where (is_newest limits history entry) in
        slot_with_mark limits history mark moment entry none is
        ∙ (ap (λ (b : Bool). slot_where (not (gone history entry || takes_away entry mark.step)
        && within entry (if b then max (last_use history entry) mark.moment else last_use history entry) moment)
        entry (if b then max (last_use history entry) mark.moment else last_use history entry) modes) (unused entry.number)
        ∙ (ap (λ (b : Bool). slot_where (not (gone history entry || b) && within entry (last_use history entry) moment) entry (last_use history entry) modes) (takes entry)
        ∙ (ap (λ (b : Bool). slot_where b entry (last_use history entry) modes)
        (taken_off (gone history entry) (same_id entry.id id && covers entry.mode mode) (within entry (last_use history entry) moment))
        ∙ (sym (filter_slot_where test (is_live history moment entry) entry (last_use history entry) modes)
        ∙ ap (cleared id mode) (sym (slot_of_known limits history moment entry is.before))))))
