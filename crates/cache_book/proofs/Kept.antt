-- Each slot stays within the modes that its entry covers, whatever a shelf does.
use Rattle.std.{specs.{Prelude.{◌≡◌, ℕ, ◌==◌, List, [], ◌∷◌, Bool, true, false, ◌&&◌, not, max, map, filter, cond, refl}, List.AllByRecursion}, proofs.Common.{sym, ◌∙◌}}
use Rattle.cache_policy.{specs.{declared.{mode.Mode.{Mode, TheVariants.{Normal, User, Ssh, Nonce, Any}}, entry.Entry.Entry}, Mode.covers, Entry.same_id}, proofs.Lists.all_append}
use Rattle.cache_book.specs.{declared.slot.Slot.Slot, Modes.{modes_where, holds, has_some, not_covered}, Shelves.{touch_slot, touched, hide, hidden, new_slot, with_entry, IsWithinMode, AreWithinMode}}

-- what is kept and what is changed
module _ {A : Type 0} (P : A → Type 0) where
  pub all_filter : (test : A → Bool) (xs : List A) → AllByRecursion P xs → AllByRecursion P (filter test xs)
  all_filter test [] h = tt
  all_filter test (x ∷ xs) h =
      elim (test x) as (λ b. AllByRecursion P (cond b (x ∷ filter test xs) (filter test xs))) [ true ↦ (h.0, all_filter test xs h.1) | false ↦ all_filter test xs h.1 ]

  pub all_map : (f : A → A) → ((x : A) → P x → P (f x)) → (xs : List A) → AllByRecursion P xs → AllByRecursion P (map f xs)
  all_map f keeps [] h = tt
  all_map f keeps (x ∷ xs) h = (keeps x h.0, all_map f keeps xs h.1)

-- a set holds the modes by whose test it is made
pub holds_where : (test : Mode → Bool) (mode : Mode) → holds (modes_where test) mode ≡ test mode
holds_where test Normal = refl
holds_where test User = refl
holds_where test Ssh = refl
holds_where test Nonce = refl
holds_where test Any = refl

second_of : (a b : Bool) → (a && b) ≡ true → b ≡ true
second_of true b h = h
second_of false b h = cc

within_touch : (number now : ℕ) (slot : Slot) → IsWithinMode slot → IsWithinMode (touch_slot number now slot)
within_touch number now slot h =
    elim (number == slot.entry.number) as (λ b. IsWithinMode (cond b (record slot { last = max slot.last now }) slot)) [ true ↦ h | false ↦ h ]

pub within_touched : (number now : ℕ) (list : List Slot) → AreWithinMode list → AreWithinMode (touched number now list)
within_touched number now list h = all_map IsWithinMode (touch_slot number now) (within_touch number now) list h

pub within_hide : (entry : Entry) (slot : Slot) → IsWithinMode slot → IsWithinMode (hide entry slot)
within_hide entry slot h =
    elim (same_id entry.id slot.entry.id) as (λ b. IsWithinMode (cond b (record slot { modes = not_covered entry.mode slot.modes }) slot)) [
      | true ↦ λ mode held. h mode (second_of (not (covers entry.mode mode)) (holds slot.modes mode)
          (sym (holds_where (λ other. not (covers entry.mode other) && holds slot.modes other) mode) ∙ held))
      | false ↦ h
    ]

pub within_new_slot : (entry : Entry) → IsWithinMode (new_slot entry)
within_new_slot entry mode held = sym (holds_where (covers entry.mode) mode) ∙ held

pub within_with_entry : (entry : Entry) (list : List Slot) → AreWithinMode list → AreWithinMode (with_entry entry list)
within_with_entry entry list h =
    all_append IsWithinMode (hidden entry list) (new_slot entry ∷ [])
    (all_filter IsWithinMode (λ slot. has_some slot.modes) (map (hide entry) list) (all_map IsWithinMode (hide entry) (within_hide entry) list h))
    (within_new_slot entry, tt)

pub within_filter : (test : Slot → Bool) (list : List Slot) → AreWithinMode list → AreWithinMode (filter test list)
within_filter test list h = all_filter IsWithinMode test list h
