-- Searching slots that stand by their ids: what lies outside of the stretch of an id, and what a place says.
use Rattle.std.specs.{Prelude.{◌≡◌, ℕ, ◌<◌, ◌≤◌, ◌==◌, List, [], ◌∷◌, ◌⊎◌, Bool, true, false, ◌&&◌, not, max, take, drop, cond, nat_lt, nat_le, length, get_or, set, refl}, List.{AllByRecursion, AllWithin, HoldsAt, Sorted.IsPartitionPoint}}
use Rattle.std.proofs.{Common.{ap, sym, ◌∙◌, subst, arith, zero, suc, inl, inr}, lemmas.{Bool.Decides.nat_tests, List.{get_or_default, Elements.{All-from_recursion, recursion_from_All, AllWithin-upto}}, Cmp.nat_list_eq_equiv}}
use Rattle.cache_policy.{specs.{declared.{mode.Mode.Mode, entry.Entry.Entry}, Mode.covers, Entry.{same_id, within}}, proofs.Lists.{all_weaker, all_drop}}
use Rattle.cache_book.specs.{declared.slot.Slot.Slot, Modes.{holds, has_some, not_covered}, Shelves.{serves_at, ServesNone, IsOneOf, here, further, touch_slot, touched, hidden, cleared}, Hashes.id_hash}
use Rattle.cache_book.{specs.SlotOrders.{has_lower_hash, has_hash_upto, swept_hash, AreById, HaveOwnNumbers, AreServing}, proofs.{Ordered.{lower_back, hash_upto_back, hash_apart}, Arranging.{all_take_within, all_drop_within, pairs_parted}}}

-- the slot at a place is one of the list
pub one_at : (i : ℕ) (list : List Slot) (d : Slot) → i < length list → IsOneOf (get_or list i d) list
one_at zero [] d lt = absurd (omega arith)
one_at zero (x ∷ xs) d lt = here
one_at (suc i) [] d lt = absurd (omega arith)
one_at (suc i) (x ∷ xs) d lt = further (one_at i xs d (omega arith))

-- a slot of another id serves no request for this one
pub apart_serves : (id : List ℕ) (mode : Mode) (now : ℕ) (slot : Slot) → same_id slot.entry.id id ≡ false → serves_at id mode now slot ≡ false
apart_serves id mode now slot apart = ap (λ b. (b && holds slot.modes mode) && within slot.entry slot.last now) apart

-- a lower hash, or a higher one, is another
lower_apart : (hash n : ℕ) → nat_lt n hash ≡ true → (hash == n) ≡ false
lower_apart hash n h = grind (arith, nat_tests)

higher_apart : (hash n : ℕ) → nat_le n hash ≡ false → (hash == n) ≡ false
higher_apart hash n h = grind (arith, nat_tests)

-- where a slot has a lower hash, those before it have, and where it hasn't, none behind it has
module _ (hash : ℕ) (list : List Slot) (by_id : AreById list) (i : ℕ) (slot : Slot) (within : i < length list) (is : slot ≡ get_or list i slot) where
  there : (b : Bool) → has_lower_hash hash slot ≡ b → (d : Slot) → has_lower_hash hash (get_or list i d) ≡ b
  there b h d = subst (λ (s : Slot). has_lower_hash hash s ≡ b) (is ∙ get_or_default list i slot d within) h

  pub lower_before : has_lower_hash hash slot ≡ true → (k : ℕ) (d : Slot) → k ≤ i → has_lower_hash hash (get_or list k d) ≡ true
  lower_before lower k d le = pairs_parted _ (has_lower_hash hash) (lower_back hash) list by_id k i d le within (there true lower d)

  pub none_behind : has_lower_hash hash slot ≡ false → (k : ℕ) (d : Slot) → i ≤ k → k < length list → has_lower_hash hash (get_or list k d) ≡ false
  none_behind above k d le lt = elim (has_lower_hash hash (get_or list k d)) as (λ b. has_lower_hash hash (get_or list k d) ≡ b → b ≡ false) [
    | true ↦ λ e. let first : has_lower_hash hash (get_or list i d) ≡ true = pairs_parted _ (has_lower_hash hash) (lower_back hash) list by_id i k d le lt e in
        let not : has_lower_hash hash (get_or list i d) ≡ false = there false above d in cc
    | false ↦ λ e. refl
  ] refl

-- where no slot of the stretch of the id's hash serves a request, none does
module _ (id : List ℕ) (mode : Mode) (now : ℕ) (list : List Slot) (hash : ℕ) (hash_is : hash ≡ id_hash id) (start i : ℕ)
    (starts : IsPartitionPoint (λ slot. has_lower_hash hash slot ≡ true) (λ slot. has_lower_hash hash slot ≡ false) list start)
    (none : AllWithin (λ slot. serves_at id mode now slot ≡ false) list start i) where
  split : (k n : ℕ) → (k < n) ⊎ (n ≤ k)
  split k n = search arith

  other_hash : (slot : Slot) → (hash == id_hash slot.entry.id) ≡ false → serves_at id mode now slot ≡ false
  other_hash slot apart = apart_serves id mode now slot (hash_apart id hash slot hash_is apart)

  none_if : ((k : ℕ) (d : Slot) → i ≤ k → k < length list → serves_at id mode now (get_or list k d) ≡ false) → ServesNone list id mode now
  none_if after = recursion_from_All (λ slot. serves_at id mode now slot ≡ false) list (λ k d lt. at k d lt (split k start) (split k i))
    where
      at : (k : ℕ) (d : Slot) → k < length list → (k < start) ⊎ (start ≤ k) → (k < i) ⊎ (i ≤ k) → serves_at id mode now (get_or list k d) ≡ false
      at k d lt (inl before) e = other_hash (get_or list k d) (lower_apart hash (id_hash (get_or list k d).entry.id) (starts.0 k d (omega arith) before))
      at k d lt (inr from) (inl before) = none k d from before
      at k d lt (inr from) (inr past) = after k d past lt

  -- up to the end of the list
  pub none_serving : length list ≤ i → ServesNone list id mode now
  none_serving end = none_if (λ k d past lt. absurd (omega arith))

  -- up to a slot with a higher hash
  pub none_past : AreById list → (slot : Slot) → i < length list → slot ≡ get_or list i slot → has_hash_upto hash slot ≡ false → ServesNone list id mode now
  none_past by_id slot within is higher = none_if (λ k d past lt. other_hash (get_or list k d) (higher_apart hash (id_hash (get_or list k d).entry.id) (higher_too k d past lt)))
    where
      at_i : (d : Slot) → has_hash_upto hash (get_or list i d) ≡ false
      at_i d = subst (λ (s : Slot). has_hash_upto hash s ≡ false) (is ∙ get_or_default list i slot d within) higher

      higher_too : (k : ℕ) (d : Slot) → i ≤ k → k < length list → has_hash_upto hash (get_or list k d) ≡ false
      higher_too k d past lt = elim (has_hash_upto hash (get_or list k d)) as (λ b. has_hash_upto hash (get_or list k d) ≡ b → b ≡ false) [
        | true ↦ λ e. let first : has_hash_upto hash (get_or list i d) ≡ true = pairs_parted _ (has_hash_upto hash) (hash_upto_back hash) list by_id i k d past lt e in
            let not : has_hash_upto hash (get_or list i d) ≡ false = at_i d in cc
        | false ↦ λ e. refl
      ] refl

-- a use of the slot with a number is that of the one slot
pub touched_none : (number now : ℕ) (list : List Slot) → AllByRecursion (λ slot. (number == slot.entry.number) ≡ false) list → touched number now list ≡ list
touched_none number now [] h = refl
touched_none number now (slot ∷ later) h =
    ap (λ b. cond b (record slot { last = max slot.last now }) slot ∷ touched number now later) h.0
    ∙ ap (λ (l : List Slot). slot ∷ l) (touched_none number now later h.1)

module _ (number now : ℕ) where
  others : (m : ℕ) (list : List Slot) → (number == m) ≡ true → AllByRecursion (λ slot. (m == slot.entry.number) ≡ false) list
      → AllByRecursion (λ slot. (number == slot.entry.number) ≡ false) list
  others m [] e h = tt
  others m (slot ∷ later) e h = (grind (arith, e, h.0), others m later e h.1)

  other : (m n : ℕ) → (m == n) ≡ false → (number == n) ≡ true → (number == m) ≡ false
  other m n apart is = grind (arith, apart, is)

  pub touched_one : (i : ℕ) (list : List Slot) (d : Slot) → HaveOwnNumbers list → i < length list → (number == (get_or list i d).entry.number) ≡ true
      → touched number now list ≡ set list i (touch_slot number now (get_or list i d))
  touched_one zero [] d own lt is = absurd (omega arith)
  touched_one zero (x ∷ xs) d own lt is =
      ap (λ (l : List Slot). touch_slot number now x ∷ l) (touched_none number now xs (others x.entry.number xs is own.0))
  touched_one (suc i) [] d own lt is = absurd (omega arith)
  touched_one (suc i) (x ∷ xs) d own lt is =
      ap (λ b. cond b (record x { last = max x.last now }) x ∷ touched number now xs)
      (other x.entry.number (get_or xs i d).entry.number
      (All-from_recursion (λ y. (x.entry.number == y.entry.number) ≡ false) xs own.0 i d (omega arith)) is)
      ∙ ap (λ (l : List Slot). x ∷ l) (touched_one i xs d own.1 (omega arith) is)

  -- the slot that was found in a slice of the list
  pub touched_at : (i : ℕ) (list slice : List Slot) (old new : Slot) → HaveOwnNumbers list → slice ≡ list → i < length slice
      → HoldsAt (λ slot. (number == slot.entry.number) ≡ true) slice i → old ≡ get_or list i old → new ≡ touch_slot number now old → set list i new ≡ touched number now list
  touched_at i list slice old new own same lt is found touches =
      ap (set list i) (touches ∙ ap (touch_slot number now) found)
      ∙ sym (touched_one i list old own (subst (λ (l : List Slot). i < length l) same lt)
      (subst (λ (l : List Slot). (number == (get_or l i old).entry.number) ≡ true) same (is old)))

-- slots outside of the stretch of an id are left as they are
pub cleared_apart : (id : List ℕ) (mode : Mode) (list : List Slot) → AllByRecursion (λ slot. same_id slot.entry.id id ≡ false) list → cleared id mode list ≡ list
cleared_apart id mode [] h = refl
cleared_apart id mode (slot ∷ later) h =
    ap (λ b. cond (not (b && covers slot.entry.mode mode)) (slot ∷ cleared id mode later) (cleared id mode later)) h.0
    ∙ ap (λ (l : List Slot). slot ∷ l) (cleared_apart id mode later h.1)

pub hidden_apart : (entry : Entry) (list : List Slot) → AreServing list → AllByRecursion (λ slot. same_id entry.id slot.entry.id ≡ false) list → hidden entry list ≡ list
hidden_apart entry [] serving h = refl
hidden_apart entry (slot ∷ later) serving h =
    ap (λ b. cond (has_some (hidden_by b).modes) (hidden_by b ∷ hidden entry later) (hidden entry later)) h.0
    ∙ (ap (λ b. cond b (slot ∷ hidden entry later) (hidden entry later)) serving.0
    ∙ ap (λ (l : List Slot). slot ∷ l) (hidden_apart entry later serving.1 h.1))
  where
    hidden_by : Bool → Slot
    hidden_by b = cond b (record slot { modes = not_covered entry.mode slot.modes }) slot

pub swept_hash_apart : (hash now : ℕ) (list : List Slot) → AllByRecursion (λ slot. (hash == id_hash slot.entry.id) ≡ false) list → swept_hash hash now list ≡ list
swept_hash_apart hash now [] h = refl
swept_hash_apart hash now (slot ∷ later) h =
    ap (λ b. cond (not (b && not (within slot.entry slot.last now))) (slot ∷ swept_hash hash now later) (swept_hash hash now later)) h.0
    ∙ ap (λ (l : List Slot). slot ∷ l) (swept_hash_apart hash now later h.1)

-- the ends of a stretch
all_taken : {A : Type 0} (P : A → Type 0) (i : ℕ) (xs : List A) → AllByRecursion P xs → AllByRecursion P (take i xs)
all_taken P zero xs h = tt
all_taken P (suc i) [] h = tt
all_taken P (suc i) (x ∷ xs) h = (h.0, all_taken P i xs h.1)

pub behind_hash : (hash : ℕ) (xs list : List Slot) (end : ℕ) → xs ≡ list
    → IsPartitionPoint (λ slot. has_hash_upto hash slot ≡ true) (λ slot. has_hash_upto hash slot ≡ false) xs end
    → AllByRecursion (λ slot. (hash == id_hash slot.entry.id) ≡ false) (drop end list)
behind_hash hash xs list end same parts =
    subst (λ (l : List Slot). AllByRecursion (λ slot. (hash == id_hash slot.entry.id) ≡ false) (drop end l)) same
    (all_weaker (λ slot. has_hash_upto hash slot ≡ false) (λ slot. (hash == id_hash slot.entry.id) ≡ false) (λ slot h. higher_apart hash (id_hash slot.entry.id) h) (drop end xs)
    (all_drop_within (λ slot. has_hash_upto hash slot ≡ false) end xs parts.1))

pub before_hash : (hash : ℕ) (xs list : List Slot) (start i : ℕ) → xs ≡ list → start ≤ length xs → i ≤ start
    → IsPartitionPoint (λ slot. has_lower_hash hash slot ≡ true) (λ slot. has_lower_hash hash slot ≡ false) xs start
    → AllByRecursion (λ slot. (hash == id_hash slot.entry.id) ≡ false) (take i list)
before_hash hash xs list start i same le upto parts =
    subst (λ (l : List Slot). AllByRecursion (λ slot. (hash == id_hash slot.entry.id) ≡ false) (take i l)) same
    (all_weaker (λ slot. has_lower_hash hash slot ≡ true) (λ slot. (hash == id_hash slot.entry.id) ≡ false) (λ slot h. lower_apart hash (id_hash slot.entry.id) h) (take i xs)
    (all_take_within (λ slot. has_lower_hash hash slot ≡ true) i xs (omega arith) (AllWithin-upto (λ slot. has_lower_hash hash slot ≡ true) xs 0 start i upto parts.0)))

-- and of the hash of an id
pub other_ids : (id : List ℕ) (hash : ℕ) (list : List Slot) → hash ≡ id_hash id → AllByRecursion (λ slot. (hash == id_hash slot.entry.id) ≡ false) list
    → AllByRecursion (λ slot. same_id slot.entry.id id ≡ false) list
other_ids id hash list is h = all_weaker (λ slot. (hash == id_hash slot.entry.id) ≡ false) (λ slot. same_id slot.entry.id id ≡ false) (λ slot apart. hash_apart id hash slot is apart) list h

other_way : (id : List ℕ) (list : List Slot) → AllByRecursion (λ slot. same_id slot.entry.id id ≡ false) list → AllByRecursion (λ slot. same_id id slot.entry.id ≡ false) list
other_way id list h =
    all_weaker (λ slot. same_id slot.entry.id id ≡ false) (λ slot. same_id id slot.entry.id ≡ false) (λ slot k. nat_list_eq_equiv.symm id slot.entry.id ∙ k) list h

pub hidden_after : (entry : Entry) (list : List Slot) (end : ℕ) → AreServing list → AllByRecursion (λ slot. same_id slot.entry.id entry.id ≡ false) (drop end list)
    → hidden entry (drop end list) ≡ drop end list
hidden_after entry list end serving h =
    hidden_apart entry (drop end list) (all_drop (λ slot. has_some slot.modes ≡ true) end list serving) (other_way entry.id (drop end list) h)

pub hidden_before : (entry : Entry) (list : List Slot) (i : ℕ) → AreServing list → AllByRecursion (λ slot. same_id slot.entry.id entry.id ≡ false) (take i list)
    → hidden entry (take i list) ≡ take i list
hidden_before entry list i serving h =
    hidden_apart entry (take i list) (all_taken (λ slot. has_some slot.modes ≡ true) i list serving) (other_way entry.id (take i list) h)
