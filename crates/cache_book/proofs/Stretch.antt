-- A change of the slots of one stretch of a list, from its end to its front, by a call that does its work slot by slot.
use Rattle.std.{specs.{Prelude.{◌≡◌, ℕ, ◌+◌, ◌-◌, ◌<◌, ◌≤◌, List, [], ◌∷◌, ◌++◌, Bool, true, false, not, ◌&&◌, cond, refl, length, take, drop, get_or, set}, List.remove}, proofs.Common.{ap, sym, ◌∙◌, subst, arith, zero, suc}}
use Rattle.std.proofs.lemmas.List.{append_assoc, take-append-drop, length-take-le, get_or-append_right, set-append_right, Edits.remove-append_right}
use Rattle.cache_policy.specs.{declared.{mode.Mode.Mode, entry.Entry.Entry}, Mode.covers, Entry.same_id}
use Rattle.cache_book.{specs.{declared.slot.Slot.Slot, Modes.has_some, Shelves.{hide, hidden, cleared}}, proofs.Slotwise.IsSlotwise}

no_further : (i : ℕ) → i - i ≡ 0
no_further i = omega arith

one_more : (i : ℕ) → suc i ≡ i + 1
one_more i = omega arith

-- a list with one of its elements apart
split_further : (i : ℕ) (list : List Slot) (d : Slot) → i < length list → drop i list ≡ get_or list i d ∷ drop (suc i) list
split_further zero [] d lt = absurd (omega arith)
split_further zero (x ∷ xs) d lt = refl
split_further (suc i) [] d lt = absurd (omega arith)
split_further (suc i) (x ∷ xs) d lt = split_further i xs d (omega arith)

take_further : (i : ℕ) (list : List Slot) (d : Slot) → i < length list → take (suc i) list ≡ take i list ++ get_or list i d ∷ []
take_further zero [] d lt = absurd (omega arith)
take_further zero (x ∷ xs) d lt = refl
take_further (suc i) [] d lt = absurd (omega arith)
take_further (suc i) (x ∷ xs) d lt = ap (λ (l : List Slot). x ∷ l) (take_further i xs d (omega arith))

split_at : (i : ℕ) (list : List Slot) (d : Slot) → i < length list → drop i list ≡ get_or list i d ∷ drop (i + 1) list
split_at i list d lt = split_further i list d lt ∙ ap (λ (k : ℕ). get_or list i d ∷ drop k list) (one_more i)

take_one_more : (i : ℕ) (list : List Slot) (d : Slot) → i < length list → take (i + 1) list ≡ take i list ++ get_or list i d ∷ []
take_one_more i list d lt = sym (ap (λ (k : ℕ). take k list) (one_more i)) ∙ take_further i list d lt

-- a slot that was changed before it goes
pub remove_set : (i : ℕ) (list : List Slot) (slot : Slot) → remove (set list i slot) i ≡ remove list i
remove_set zero [] slot = refl
remove_set zero (x ∷ xs) slot = refl
remove_set (suc i) [] slot = refl
remove_set (suc i) (x ∷ xs) slot = ap (λ (l : List Slot). x ∷ l) (remove_set i xs slot)

-- the list so far: the call's work is done from this place on
pub record IsDoneFrom (op : List Slot → List Slot) (i : ℕ) (list done : List Slot) : Type 0 where
  pub within : i ≤ length list
  pub is : done ≡ take i list ++ op (drop i list)

module _ (op : List Slot → List Slot) (slotwise : IsSlotwise op) (i : ℕ) (list done : List Slot) where
  -- the slot before, as it lies there
  module _ (h : IsDoneFrom op (i + 1) list done) (slot : Slot) (slot_is : slot ≡ get_or done i slot) where
    in_list : i < length list
    in_list = let within : i + 1 ≤ length list = h.within in omega arith

    front : length (take i list) ≡ i
    front = length-take-le i list (let lt : i < length list = in_list in omega arith)

    parts : done ≡ take i list ++ get_or list i slot ∷ op (drop (i + 1) list)
    parts = h.is ∙ (ap (λ (l : List Slot). l ++ op (drop (i + 1) list)) (take_one_more i list slot in_list)
        ∙ append_assoc (take i list) (get_or list i slot ∷ []) (op (drop (i + 1) list)))

    same : slot ≡ get_or list i slot
    same = slot_is ∙ (ap (λ (l : List Slot). get_or l i slot) parts
        ∙ (get_or-append_right (take i list) (get_or list i slot ∷ op (drop (i + 1) list)) i i slot front (omega arith)
        ∙ ap (λ (k : ℕ). get_or (get_or list i slot ∷ op (drop (i + 1) list)) k slot) (no_further i)))

    parted : done ≡ take i list ++ slot ∷ op (drop (i + 1) list)
    parted = parts ∙ ap (λ (s : Slot). take i list ++ s ∷ op (drop (i + 1) list)) (sym same)

    rest : op (drop i list) ≡ op (slot ∷ []) ++ op (drop (i + 1) list)
    rest = ap op (split_at i list slot in_list ∙ ap (λ (s : Slot). s ∷ drop (i + 1) list) (sym same)) ∙ slotwise.append (slot ∷ []) (drop (i + 1) list)

    before : i ≤ length list
    before = let lt : i < length list = in_list in omega arith

    -- it goes
    pub done_removed : op (slot ∷ []) ≡ [] → IsDoneFrom op i list (remove done i)
    done_removed none = record {
      within = before;
      is = ap (λ (l : List Slot). remove l i) parted
          ∙ (remove-append_right (take i list) (slot ∷ op (drop (i + 1) list)) i i front (omega arith)
          ∙ (ap (λ (k : ℕ). take i list ++ remove (slot ∷ op (drop (i + 1) list)) k) (no_further i)
          ∙ ap (λ (l : List Slot). take i list ++ l) (ap (λ (l : List Slot). l ++ op (drop (i + 1) list)) (sym none) ∙ sym rest)));
    }

    -- it changes
    pub done_set : (new : Slot) → op (slot ∷ []) ≡ new ∷ [] → IsDoneFrom op i list (set done i new)
    done_set new changes = record {
      within = before;
      is = ap (λ (l : List Slot). set l i new) parted
          ∙ (set-append_right (take i list) (slot ∷ op (drop (i + 1) list)) i i new front (omega arith)
          ∙ (ap (λ (k : ℕ). take i list ++ set (slot ∷ op (drop (i + 1) list)) k new) (no_further i)
          ∙ ap (λ (l : List Slot). take i list ++ l) (ap (λ (l : List Slot). l ++ op (drop (i + 1) list)) (sym changes) ∙ sym rest)));
    }

  -- before the work, where it leaves what follows the stretch
  pub done_none : i ≤ length list → op (drop i list) ≡ drop i list → IsDoneFrom op i list list
  done_none le same = record {
    within = le;
    is = sym (ap (λ (l : List Slot). take i list ++ l) same ∙ take-append-drop i list);
  }

  -- and after it, where it leaves what is before the stretch
  pub done_all : IsDoneFrom op i list done → op (take i list) ≡ take i list → done ≡ op list
  done_all h same =
      h.is ∙ (ap (λ (l : List Slot). l ++ op (drop i list)) (sym same)
      ∙ (sym (slotwise.append (take i list) (drop i list)) ∙ ap op (take-append-drop i list)))

-- what each call does to one slot
pub cleared_one : (id : List ℕ) (mode : Mode) (slot : Slot) (goes : Bool) → (same_id slot.entry.id id && covers slot.entry.mode mode) ≡ goes
    → cleared id mode (slot ∷ []) ≡ cond goes [] (slot ∷ [])
cleared_one id mode slot true e = ap (λ b. cond (not b) (slot ∷ []) []) e
cleared_one id mode slot false e = ap (λ b. cond (not b) (slot ∷ []) []) e

pub hidden_one : (entry : Entry) (slot : Slot) (stays : Bool) → has_some (hide entry slot).modes ≡ stays
    → hidden entry (slot ∷ []) ≡ cond stays (hide entry slot ∷ []) []
hidden_one entry slot stays e = ap (λ b. cond b (hide entry slot ∷ []) []) e

-- what is done from a place on, seen from the place before it
pub from_before : (op : List Slot → List Slot) (i start : ℕ) (list done : List Slot) → start < i → IsDoneFrom op i list done → IsDoneFrom op (i - 1 + 1) list done
from_before op i start list done lt h = subst (λ (k : ℕ). IsDoneFrom op k list done) (place_before i start lt) h
  where
    place_before : (j first : ℕ) → first < j → j ≡ j - 1 + 1
    place_before j first lt = omega arith
