-- The slots of a history with one mark more, where that gives an entry or stores one.
use Rattle.std.specs.{Prelude.{◌≡◌, ℕ, ◌+◌, ◌<◌, ◌≤◌, ◌==◌, List, [], ◌∷◌, ◌++◌, Bool, true, false, not, ◌&&◌, max, nat_le, nat_eq, Option, Some, None, IfSome, fold, refl, cond, if◌then◌else◌}, List.{AllByRecursion, flat_map}}
use Rattle.std.{specs.Option.option_or, proofs.{Common.{ap, sym, ◌∙◌, subst, arith}, lemmas.{Bool.Decides.nat_tests, Grind.flat_map-append}}}
use Rattle.cache_policy.specs.{declared.{mode.Mode.{Mode, TheVariants.{Normal, User, Ssh, Nonce, Any}}, life.Limits.Limits, mark.Mark.Mark, entry.Entry.Entry}, Mode.covers, Entry.{same_id, within_ttl, within}}
use Rattle.cache_policy.{specs.{Histories.{History, next_number, with_mark, moments}, Entries.{stored, entries}, Live.{newest_of, newest, takes_away, gone, gives, last_use, is_live}, Legal.IsLegal}, proofs.Lists.{all_weaker, filter_none}}
use Rattle.cache_policy.proofs.{EntriesLemmas.entries_with_mark, OneMore.{last_use_with_mark, newest_with_mark, is_live_with_mark}, Growing.{newest_below, unused_yet, is_live_stored}}
use Rattle.cache_book.specs.{declared.{modes.Modes.Modes, slot.Slot.Slot}, Modes.{modes_where, has_some, not_covered}, Slots.{has_number, slot_with, slot_of, slots}, Shelves.{touched, touch_slot, hidden, new_slot, with_entry}}
use Rattle.cache_book.proofs.Known.{IsKnown, all_both, all_known, differ, differ_too, is_newest, modes_where_same, slot_where, slot_of_known}
use Rattle.cache_book.proofs.{Slotwise.{flat_map_slotwise, map_slotwise, hidden_slotwise, touched_other, touched_this, hidden_slot_with}, Marking.{both_true, IsPlain, slot_with_mark, slots_plain, or_false}}

within_ttl_used : (ttl : Option ℕ) (last later moment : ℕ) → last ≤ later → within_ttl ttl last moment ≡ true → within_ttl ttl later moment ≡ true
within_ttl_used None last later moment h is = refl
within_ttl_used (Some ttl) last later moment h is = grind (arith, nat_tests)

-- what is within the lifetimes still is after a use
within_used : (entry : Entry) (last now moment : ℕ) → within entry last moment ≡ true → within entry (max last now) moment ≡ true
within_used entry last now moment is =
    let parts = both_true (within_ttl entry.ttl last moment) (nat_le moment (entry.entered + entry.max)) is in
    let ttl : within_ttl entry.ttl (max last now) moment ≡ true = within_ttl_used entry.ttl last (max last now) moment (omega arith) parts.0 in
    ap (λ b. b && nat_le moment (entry.entered + entry.max)) ttl ∙ parts.1

-- a mark that gives a live entry counts as a use of it
pub slots_given : (limits : Limits) (history : History) (mark : Mark) (number : ℕ) → stored limits history mark.step mark.moment ≡ []
    → ((entry : Entry) → takes_away entry mark.step ≡ false) → ((other : ℕ) → gives other mark.reply ≡ (number == other))
    → ((entry : Entry) → IsKnown limits history entry → (number == entry.number) ≡ true → is_live history mark.moment entry ≡ true)
    → slots limits (with_mark history mark) mark.moment ≡ touched number mark.moment (slots limits history mark.moment)
slots_given limits history mark number none keeps gives_is live =
    slots_plain limits history mark mark.moment (touched number mark.moment) (map_slotwise (touch_slot number mark.moment)) none each
  where
    each : (entry : Entry) → IsPlain limits history mark entry
        → slot_of limits (with_mark history mark) mark.moment entry ≡ touched number mark.moment (slot_of limits history mark.moment entry)
    each entry is =
        slot_with_mark limits history mark mark.moment entry none is
        ∙ (ap (λ (b : Bool). slot_where (not b && within entry (if gives entry.number mark.reply then max last mark.moment else last) mark.moment)
        entry (if gives entry.number mark.reply then max last mark.moment else last) modes)
        (or_false (gone history entry) (takes_away entry mark.step) (keeps entry))
        ∙ (ap (λ (b : Bool). slot_where (not (gone history entry) && within entry (if b then max last mark.moment else last) mark.moment)
        entry (if b then max last mark.moment else last) modes) (gives_is entry.number)
        ∙ (elim (number == entry.number) as (λ b. (number == entry.number) ≡ b
        → slot_where (not (gone history entry) && within entry (if b then max last mark.moment else last) mark.moment) entry (if b then max last mark.moment else last) modes
        ≡ touched number mark.moment (slot_where (is_live history mark.moment entry) entry last modes)) [
          | true ↦ λ e. used (live entry is.before e) e
          | false ↦ λ e. sym (touched_other number mark.moment (is_live history mark.moment entry) entry last modes e)
        ] refl
        ∙ ap (touched number mark.moment) (sym (slot_of_known limits history mark.moment entry is.before)))))
      where
        last : ℕ
        last = last_use history entry

        modes : Modes
        modes = modes_where (is_newest limits history entry)

        used : is_live history mark.moment entry ≡ true → (number == entry.number) ≡ true
            → slot_where (not (gone history entry) && within entry (max last mark.moment) mark.moment) entry (max last mark.moment) modes
            ≡ touched number mark.moment (slot_where (is_live history mark.moment entry) entry last modes)
        used live e =
            let parts = both_true (not (gone history entry)) (within entry last mark.moment) live in
            ap (λ (b : Bool). slot_where (b && within entry (max last mark.moment) mark.moment) entry (max last mark.moment) modes) parts.0
            ∙ (ap (λ (b : Bool). slot_where b entry (max last mark.moment) modes) (within_used entry last mark.moment mark.moment parts.1)
            ∙ (sym (touched_this number mark.moment entry last modes e)
            ∙ ap (λ (b : Bool). touched number mark.moment (slot_where b entry last modes)) (sym live)))

all_front : (P : Entry → Type 0) (xs ys : List Entry) → AllByRecursion P (xs ++ ys) → AllByRecursion P xs
all_front P [] ys h = tt
all_front P (x ∷ xs) ys h = (h.0, all_front P xs ys h.1)

all_back : (P : Entry → Type 0) (xs ys : List Entry) → AllByRecursion P (xs ++ ys) → AllByRecursion P ys
all_back P [] ys h = h
all_back P (x ∷ xs) ys h = all_back P xs ys h.1

-- what a mark stores, as the only entry of it
pub record Stores (limits : Limits) (history : History) (mark : Mark) (new : Entry) : Type 0 where
  pub legal : IsLegal limits history
  pub stored_is : stored limits history mark.step mark.moment ≡ new ∷ []
  pub number : new.number ≡ next_number history
  pub entered : new.entered ≡ mark.moment
  pub keeps : (entry : Entry) → takes_away entry mark.step ≡ false
  pub unused : (number : ℕ) → gives number mark.reply ≡ false

all_known_then : (limits : Limits) (history : History) (mark : Mark) (new : Entry) → Stores limits history mark new
    → AllByRecursion (IsKnown limits (with_mark history mark)) (entries limits history ++ new ∷ [])
all_known_then limits history mark new stores =
    subst (AllByRecursion (IsKnown limits (with_mark history mark)))
    (entries_with_mark limits history mark ∙ ap (λ (list : List Entry). entries limits history ++ list) stores.stored_is)
    (all_known limits (with_mark history mark))

-- the newest for a request is the new entry where that serves it
newest_then : (limits : Limits) (history : History) (mark : Mark) (new : Entry) (id : List ℕ) (mode : Mode) → Stores limits history mark new
    → newest limits (with_mark history mark) id mode ≡ option_or (if same_id new.id id && covers new.mode mode then Some new else None) (newest limits history id mode)
newest_then limits history mark new id mode stores =
    newest_with_mark limits history mark id mode ∙ ap (λ (list : List Entry). option_or (newest_of id mode list) (newest limits history id mode)) stores.stored_is

shadowed : (new : Entry) (number : ℕ) (same covered : Bool) (o : Option Entry) → (new.number == number) ≡ false
    → has_number number (option_or (if same && covered then Some new else None) o) ≡ cond same (not covered && has_number number o) (has_number number o)
shadowed new number true true o h = h
shadowed new number true false o h = refl
shadowed new number false covered o h = refl

-- the slot of an entry beside the new one
slot_beside : (limits : Limits) (history : History) (mark : Mark) (new entry : Entry) → Stores limits history mark new → IsPlain limits history mark entry
    → slot_of limits (with_mark history mark) mark.moment entry ≡ hidden new (slot_of limits history mark.moment entry)
slot_beside limits history mark new entry stores is =
    slot_of_known limits (with_mark history mark) mark.moment entry is.after
    ∙ (ap (λ (b : Bool). slot_where b entry (last_use (with_mark history mark) entry) newer) lives
    ∙ (ap (λ (last : ℕ). slot_where (is_live history mark.moment entry) entry last newer) lasts
    ∙ (ap (λ (modes : Modes). slot_where (is_live history mark.moment entry) entry (last_use history entry) modes) modes
    ∙ (elim (is_live history mark.moment entry) as (λ b. slot_where b entry (last_use history entry) (cond (same_id new.id entry.id) (not_covered new.mode before) before)
    ≡ hidden new (slot_where b entry (last_use history entry) before)) [
      | true ↦ sym (hidden_slot_with new entry (last_use history entry) before)
      | false ↦ refl
    ]
    ∙ ap (hidden new) (sym (slot_of_known limits history mark.moment entry is.before))))))
  where
    before : Modes
    before = modes_where (is_newest limits history entry)

    newer : Modes
    newer = modes_where (is_newest limits (with_mark history mark) entry)

    lasts : last_use (with_mark history mark) entry ≡ last_use history entry
    lasts = last_use_with_mark history mark entry ∙ ap (λ (b : Bool). if b then max (last_use history entry) mark.moment else last_use history entry) (stores.unused entry.number)

    lives : is_live (with_mark history mark) mark.moment entry ≡ is_live history mark.moment entry
    lives =
        is_live_with_mark history mark entry mark.moment is.before.older
        ∙ (ap (λ (b : Bool). not b && within entry (if gives entry.number mark.reply then max (last_use history entry) mark.moment else last_use history entry) mark.moment)
        (or_false (gone history entry) (takes_away entry mark.step) (stores.keeps entry))
        ∙ ap (λ (b : Bool). not (gone history entry) && within entry (if b then max (last_use history entry) mark.moment else last_use history entry) mark.moment) (stores.unused entry.number))

    other : (new.number == entry.number) ≡ false
    other = differ entry.number new.number (omega (arith, stores.number, is.before.older))

    shadow : Bool → Mode → Bool
    shadow b mode = cond b (not (covers new.mode mode) && is_newest limits history entry mode) (is_newest limits history entry mode)

    modes : newer ≡ cond (same_id new.id entry.id) (not_covered new.mode before) before
    modes =
        modes_where_same (is_newest limits (with_mark history mark) entry) (shadow (same_id new.id entry.id))
        (λ mode. ap (has_number entry.number) (newest_then limits history mark new entry.id mode stores)
        ∙ shadowed new entry.number (same_id new.id entry.id) (covers new.mode mode) (newest limits history entry.id mode) other)
        ∙ elim (same_id new.id entry.id) as (λ b. modes_where (shadow b) ≡ cond b (not_covered new.mode before) before) [ true ↦ refl | false ↦ refl ]

same_number : (n : ℕ) → nat_eq n n ≡ true
same_number n = grind (arith, nat_tests)

pub same_id_self : (id : List ℕ) → same_id id id ≡ true
same_id_self [] = refl
same_id_self (byte ∷ later) = ap (λ b. b && same_id later later) (same_number byte) ∙ same_id_self later

within_ttl_now : (ttl : Option ℕ) (moment : ℕ) → within_ttl ttl moment moment ≡ true
within_ttl_now None moment = refl
within_ttl_now (Some ttl) moment = grind (arith, nat_tests)

age_now : (moment max : ℕ) → nat_le moment (moment + max) ≡ true
age_now moment max = grind (arith, nat_tests)

within_now : (entry : Entry) → within entry entry.entered entry.entered ≡ true
within_now entry =
    ap (λ b. b && nat_le entry.entered (entry.entered + entry.max)) (within_ttl_now entry.ttl entry.entered) ∙ age_now entry.entered entry.max

serves_itself : (mode : Mode) → has_some (modes_where (covers mode)) ≡ true
serves_itself Normal = refl
serves_itself User = refl
serves_itself Ssh = refl
serves_itself Nonce = refl
serves_itself Any = refl

-- the slot of the new one
slot_new : (limits : Limits) (history : History) (mark : Mark) (new : Entry) → Stores limits history mark new → IsKnown limits (with_mark history mark) new
    → slot_of limits (with_mark history mark) mark.moment new ≡ new_slot new ∷ []
slot_new limits history mark new stores known =
    slot_of_known limits (with_mark history mark) mark.moment new known
    ∙ (ap (λ (b : Bool). slot_where b new (last_use (with_mark history mark) new) (modes_where (is_newest limits (with_mark history mark) new))) lives
    ∙ (ap (λ (last : ℕ). slot_with new last (modes_where (is_newest limits (with_mark history mark) new))) lasts
    ∙ (ap (slot_with new new.entered) (modes_where_same (is_newest limits (with_mark history mark) new) (covers new.mode) modes)
    ∙ ap (λ (b : Bool). cond b (new_slot new ∷ []) []) (serves_itself new.mode))))
  where
    lives : is_live (with_mark history mark) mark.moment new ≡ true
    lives = is_live_stored limits history mark new mark.moment stores.legal stores.number (stores.unused new.number)
        ∙ (ap (within new new.entered) (sym stores.entered) ∙ within_now new)

    lasts : last_use (with_mark history mark) new ≡ new.entered
    lasts = last_use_with_mark history mark new
        ∙ (ap (λ (b : Bool). if b then max (last_use history new) mark.moment else last_use history new) (stores.unused new.number)
        ∙ ap (λ (marks : List Mark). fold max new.entered (moments marks))
        (filter_none (λ (m : Mark). gives new.number m.reply) history.marks (unused_yet limits history new.number stores.legal (omega (arith, stores.number)))))

    not_older : (mode : Mode) → has_number new.number (newest limits history new.id mode) ≡ false
    not_older mode = at (newest limits history new.id mode) (newest_below limits history new.id mode)
      where
        at : (o : Option Entry) → IfSome o (λ entry. entry.number < next_number history) → has_number new.number o ≡ false
        at None h = refl
        at (Some entry) h = differ_too entry.number new.number (omega (arith, stores.number, h))

    covered : (b : Bool) (o : Option Entry) → has_number new.number o ≡ false → has_number new.number (option_or (if b then Some new else None) o) ≡ b
    covered true o h = same_number new.number
    covered false o h = h

    modes : (mode : Mode) → is_newest limits (with_mark history mark) new mode ≡ covers new.mode mode
    modes mode =
        ap (has_number new.number) (newest_then limits history mark new new.id mode stores)
        ∙ (ap (λ (b : Bool). has_number new.number (option_or (if b && covers new.mode mode then Some new else None) (newest limits history new.id mode))) (same_id_self new.id)
        ∙ covered (covers new.mode mode) (newest limits history new.id mode) (not_older mode))

-- a mark that stores an entry does what the shelf's store does
pub slots_stored : (limits : Limits) (history : History) (mark : Mark) (new : Entry) → Stores limits history mark new
    → slots limits (with_mark history mark) mark.moment ≡ with_entry new (slots limits history mark.moment)
slots_stored limits history mark new stores =
    ap (flat_map after) (entries_with_mark limits history mark ∙ ap (λ (list : List Entry). entries limits history ++ list) stores.stored_is)
    ∙ (flat_map-append after (entries limits history) (new ∷ [])
    ∙ (ap (λ (list : List Slot). list ++ (after new ++ [])) (flat_map_slotwise (hidden new) (hidden_slotwise new) (slot_of limits history mark.moment) after (entries limits history) each)
    ∙ ap (λ (list : List Slot). hidden new (slots limits history mark.moment) ++ (list ++ []))
    (slot_new limits history mark new stores (all_back (IsKnown limits (with_mark history mark)) (entries limits history) (new ∷ []) (all_known_then limits history mark new stores)).0)))
  where
    after : Entry → List Slot
    after = slot_of limits (with_mark history mark) mark.moment

    each : AllByRecursion (λ (entry : Entry). after entry ≡ hidden new (slot_of limits history mark.moment entry)) (entries limits history)
    each =
        all_weaker (λ (entry : Entry). IsKnown limits history entry × IsKnown limits (with_mark history mark) entry)
        (λ (entry : Entry). after entry ≡ hidden new (slot_of limits history mark.moment entry))
        (λ entry known. slot_beside limits history mark new entry stores (record { before = known.0; after = known.1 })) (entries limits history)
        (all_both (IsKnown limits history) (IsKnown limits (with_mark history mark)) (entries limits history) (all_known limits history)
        (all_front (IsKnown limits (with_mark history mark)) (entries limits history) (new ∷ []) (all_known_then limits history mark new stores)))
