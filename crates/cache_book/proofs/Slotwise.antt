-- Calls of a shelf that do their work slot by slot.
use Rattle.std.{specs.{Prelude.{◌≡◌, ℕ, List, [], ◌∷◌, ◌++◌, Bool, true, false, ◌&&◌, ◌||◌, ◌==◌, not, max, map, filter, refl, cond}, List.{AllByRecursion, flat_map}}, proofs.{Common.{ap, sym, ◌∙◌}, lemmas.List.map-append}}
use Rattle.std.proofs.{lemmas.List.Elements.filter-append, Math.Bool.and-false}
use Rattle.cache_policy.specs.{declared.{mode.Mode.TheVariants.{Normal, User, Ssh, Nonce, Any}, entry.Entry.Entry}, Mode.covers, Entry.same_id}
use Rattle.cache_book.{specs.{declared.{modes.Modes.Modes, slot.Slot.Slot}, Modes.{has_some, not_covered}, Slots.slot_with, Shelves.{touch_slot, touched, hide, hidden}}, proofs.Known.slot_where}

pub record IsSlotwise (op : List Slot → List Slot) : Type 0 where
  pub none : op [] ≡ []
  pub append : (xs ys : List Slot) → op (xs ++ ys) ≡ op xs ++ op ys

-- such a call does to all slots what it does to those of each entry
pub flat_map_slotwise : (op : List Slot → List Slot) → IsSlotwise op → (before after : Entry → List Slot) (list : List Entry)
    → AllByRecursion (λ entry. after entry ≡ op (before entry)) list → flat_map after list ≡ op (flat_map before list)
flat_map_slotwise op is before after [] h = sym is.none
flat_map_slotwise op is before after (entry ∷ later) h =
    ap (λ (xs : List Slot). xs ++ flat_map after later) h.0
    ∙ (ap (λ (xs : List Slot). op (before entry) ++ xs) (flat_map_slotwise op is before after later h.1)
    ∙ sym (is.append (before entry) (flat_map before later)))

pub same_slotwise : IsSlotwise (λ list. list)
same_slotwise = record { none = refl; append = λ xs ys. refl }

pub none_slotwise : IsSlotwise (λ list. [])
none_slotwise = record { none = refl; append = λ xs ys. refl }

pub filter_slotwise : (test : Slot → Bool) → IsSlotwise (filter test)
filter_slotwise test = record { none = refl; append = λ xs ys. filter-append test xs ys }

pub map_slotwise : (f : Slot → Slot) → IsSlotwise (map f)
map_slotwise f = record { none = refl; append = λ xs ys. map-append f xs ys }

pub hidden_slotwise : (entry : Entry) → IsSlotwise (hidden entry)
hidden_slotwise entry = record {
  none = refl;
  append = λ xs ys. ap (filter (λ (slot : Slot). has_some slot.modes)) (map-append (hide entry) xs ys)
      ∙ filter-append (λ (slot : Slot). has_some slot.modes) (map (hide entry) xs) (map (hide entry) ys);
}

-- what is kept of a slot
pub filter_slot_where : (test : Slot → Bool) (is : Bool) (entry : Entry) (last : ℕ) (modes : Modes)
    → filter test (slot_where is entry last modes) ≡ slot_where (is && test (record { entry = entry; last = last; modes = modes })) entry last modes
filter_slot_where test false entry last modes = refl
filter_slot_where test true entry last modes =
    elim (has_some modes) as (λ b. filter test (cond b (slot ∷ []) []) ≡ cond (test slot) (cond b (slot ∷ []) []) []) [
      | true ↦ refl
      | false ↦ elim (test slot) as (λ b. ◌≡◌ {A = List Slot} [] (cond b [] [])) [ true ↦ refl | false ↦ refl ]
    ]
  where
    slot : Slot
    slot = record { entry = entry; last = last; modes = modes }

-- a use of it, and one of another entry
pub touched_other : (number now : ℕ) (is : Bool) (entry : Entry) (last : ℕ) (modes : Modes) → (number == entry.number) ≡ false
    → touched number now (slot_where is entry last modes) ≡ slot_where is entry last modes
touched_other number now false entry last modes other = refl
touched_other number now true entry last modes other =
    elim (has_some modes) as (λ b. map (touch_slot number now) (cond b (slot ∷ []) []) ≡ cond b (slot ∷ []) []) [
      | true ↦ ap (λ (b : Bool). cond b (record slot { last = max slot.last now }) slot ∷ []) other
      | false ↦ refl
    ]
  where
    slot : Slot
    slot = record { entry = entry; last = last; modes = modes }

pub touched_this : (number now : ℕ) (entry : Entry) (last : ℕ) (modes : Modes) → (number == entry.number) ≡ true
    → touched number now (slot_with entry last modes) ≡ slot_with entry (max last now) modes
touched_this number now entry last modes this =
    elim (has_some modes) as (λ b. map (touch_slot number now) (cond b (slot ∷ []) []) ≡ cond b (record slot { last = max last now } ∷ []) []) [
      | true ↦ ap (λ (b : Bool). cond b (record slot { last = max slot.last now }) slot ∷ []) this
      | false ↦ refl
    ]
  where
    slot : Slot
    slot = record { entry = entry; last = last; modes = modes }

none_left : (p q r s t : Bool) (a b c d e : Bool) → (a || (b || (c || (d || e)))) ≡ false
    → ((p && a) || ((q && b) || ((r && c) || ((s && d) || (t && e))))) ≡ false
none_left p q r s t true b c d e h = cc
none_left p q r s t false true c d e h = cc
none_left p q r s t false false true d e h = cc
none_left p q r s t false false false true e h = cc
none_left p q r s t false false false false true h = cc
none_left p q r s t false false false false false h = simp and-false

-- a slot of the same id without the modes that the later entry covers, and one of another id as it was
pub hidden_slot_with : (later entry : Entry) (last : ℕ) (modes : Modes)
    → hidden later (slot_with entry last modes) ≡ slot_with entry last (cond (same_id later.id entry.id) (not_covered later.mode modes) modes)
hidden_slot_with later entry last modes =
    elim (has_some modes) as (λ b. has_some modes ≡ b → hidden later (cond b (slot ∷ []) [])
    ≡ slot_with entry last (cond (same_id later.id entry.id) (not_covered later.mode modes) modes)) [
      | true ↦ λ e. elim (same_id later.id entry.id) as (λ b. filter (λ (s : Slot). has_some s.modes) (cond b (record slot { modes = not_covered later.mode modes }) slot ∷ [])
          ≡ slot_with entry last (cond b (not_covered later.mode modes) modes)) [ true ↦ refl | false ↦ refl ]
      | false ↦ λ e. elim (same_id later.id entry.id) as (λ b. [] ≡ slot_with entry last (cond b (not_covered later.mode modes) modes)) [
        | true ↦ ap (λ (b : Bool). cond b (record slot { modes = not_covered later.mode modes } ∷ []) []) (sym (nothing e))
        | false ↦ ap (λ (b : Bool). cond b (slot ∷ []) []) (sym e)
      ]
    ] refl
  where
    slot : Slot
    slot = record { entry = entry; last = last; modes = modes }

    nothing : has_some modes ≡ false → has_some (not_covered later.mode modes) ≡ false
    nothing e = none_left (not (covers later.mode Normal)) (not (covers later.mode User)) (not (covers later.mode Ssh)) (not (covers later.mode Nonce)) (not (covers later.mode Any))
        modes.normal modes.user modes.ssh modes.nonce modes.any e
