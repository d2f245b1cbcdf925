-- Slots whose passphrases are overwritten before they go.
use Rattle.std.{specs.Prelude.{◌≡◌, ℕ, List, [], ◌∷◌, Bool, true, false, map, cond, refl}, proofs.Common.{ap, ◌∙◌}}
use Rattle.cache_policy.specs.Entry.{within}
use Rattle.cache_book.specs.{declared.slot.Slot.Slot, Shelves.swept, SlotOrders.{wiped, wipe_past, AreWiped, AreWipedPast}}

pub all_wiped : (list : List Slot) → AreWiped (map wiped list)
all_wiped [] = tt
all_wiped (slot ∷ later) = (refl, all_wiped later)

pub wiped_past : (now : ℕ) (list : List Slot) → AreWipedPast now (map (wipe_past now) list)
wiped_past now [] = tt
wiped_past now (slot ∷ later) = (one (within slot.entry slot.last now) refl, wiped_past now later)
  where
    one : (b : Bool) → within slot.entry slot.last now ≡ b
        → within (cond b slot (wiped slot)).entry (cond b slot (wiped slot)).last now ≡ false → (cond b slot (wiped slot)).entry.secret ≡ []
    one true e past = cc
    one false e past = refl

-- what is wiped is dropped
pub swept_wiped : (now : ℕ) (list : List Slot) → swept now (map (wipe_past now) list) ≡ swept now list
swept_wiped now [] = refl
swept_wiped now (slot ∷ later) =
    elim (within slot.entry slot.last now) as (λ b. within slot.entry slot.last now ≡ b
    → swept now (cond b slot (wiped slot) ∷ map (wipe_past now) later) ≡ cond b (slot ∷ swept now later) (swept now later)) [
      | true ↦ λ e. ap (λ b. cond b (slot ∷ swept now (map (wipe_past now) later)) (swept now (map (wipe_past now) later))) e ∙ ap (λ (l : List Slot). slot ∷ l) (swept_wiped now later)
      | false ↦ λ e. ap (λ b. cond b (wiped slot ∷ swept now (map (wipe_past now) later)) (swept now (map (wipe_past now) later))) e ∙ swept_wiped now later
    ] refl
