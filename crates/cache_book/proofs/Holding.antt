-- Places as they are added and taken, and those of slots as a slot is used, stored or dropped.
use Rattle.std.specs.{Prelude.{◌≡◌, ℕ, ◌+◌, ◌-◌, ◌^◌, ◌<◌, ◌≤◌, ◌==◌, List, [], ◌∷◌, Bool, true, false, ◌&&◌, ◌||◌, not, min, map, cond, nat_le, Option, Some, None, take, length, get_or, set, refl}, declared.cmp.Reverse.Reverse}
use Rattle.std.{specs.{declared.cmp.Ordering.Ordering, BinaryHeap.IsUpperBound, Ordering.{nat_cmp, ordering_then, is_lt}, List.{AllByRecursion, Sorted.IsPermutation}}, proofs.Common.{ap, sym, ◌∙◌, subst, arith, zero, suc}}
use Rattle.std.proofs.lemmas.{Bool.Decides.nat_tests, List.Sorted.list_any-IsPermutation, Cmp.{ranked, by_ranked}}
use Rattle.cache_policy.{specs.{declared.entry.Entry.Entry, Entry.{same_id, within_ttl, within}}, proofs.Lists.all_weaker}
use Rattle.cache_book.specs.{declared.{slot.Slot.Slot, deadlines.Place.Place}, Hashes.id_hash, Modes.{not_covered, has_some}, Shelves.{hide, hidden, swept}, SlotOrders.{has_hash_past, swept_hash}}
use Rattle.cache_book.{specs.Deadlines.{lesser_end, deadline, place_of, soonest_is_greatest, is_place, is_among, HavePlaces}, proofs.Kept.{all_filter, all_map}}

-- a place is added or taken
pub among_more : (places more : List (Reverse Place)) (place : Place) → IsPermutation (record { 0 = place } ∷ places) more
    → (other : Place) → is_among other more ≡ (is_place place other || is_among other places)
among_more places more place order other = sym (list_any-IsPermutation (λ one. is_place one.0 other) (record { 0 = place } ∷ places) more order)

module _ (places fewer : List (Reverse Place)) (front : Reverse Place) (order : IsPermutation places (front ∷ fewer)) where
  among_fewer : (other : Place) → is_place front.0 other ≡ false → is_among other fewer ≡ is_among other places
  among_fewer other apart =
      sym (list_any-IsPermutation (λ one. is_place one.0 other) places (front ∷ fewer) order ∙ ap (λ b. b || is_among other fewer) apart)

  -- one with another moment, or with another hash, stays
  pub among_later : (now : ℕ) → front.0.moment < now → (other : Place) → now ≤ other.moment → is_among other fewer ≡ is_among other places
  among_later now past other later = among_fewer other (ap (λ b. b && (front.0.hash == other.hash)) (apart front.0.moment other.moment past later))
    where
      apart : (m n : ℕ) → m < now → now ≤ n → (m == n) ≡ false
      apart m n h k = grind (arith, nat_tests)

  pub among_others : (other : Place) → (front.0.hash == other.hash) ≡ false → is_among other fewer ≡ is_among other places
  among_others other apart = among_fewer other (ap (λ b. (front.0.moment == other.moment) && b) apart ∙ none (front.0.moment == other.moment))
    where
      none : (b : Bool) → (b && false) ≡ false
      none true = refl
      none false = refl

-- where the one in front isn't past, none is
pub all_later : (now : ℕ) (front : Reverse Place) (places : List (Reverse Place)) → IsUpperBound soonest_is_greatest front places → now ≤ front.0.moment
    → AllByRecursion (λ one. now ≤ one.0.moment) places
all_later now front [] bound le = tt
all_later now front (one ∷ later) bound le = (behind one.0.moment front.0.moment (nat_cmp one.0.hash front.0.hash) bound.0 le, all_later now front later bound.1 le)
  where
    behind : (m n : ℕ) (o : Ordering) → is_lt (ordering_then (nat_cmp m n) o) ≡ false → now ≤ n → now ≤ m
    behind m n o h k = by_ranked (m < n) (m ≡ n) (n < m) (nat_cmp m n) (ranked m n (nat_cmp m n) refl)
        (λ e lt. let less : is_lt (ordering_then (nat_cmp m n) o) ≡ true = ap (λ (p : Ordering). is_lt (ordering_then p o)) e in cc)
        (λ e same. omega arith) (λ e gt. omega arith)

-- one of places that are all later is later
later_among_later : (now : ℕ) (place : Place) (places : List (Reverse Place)) → AllByRecursion (λ one. now ≤ one.0.moment) places → is_among place places ≡ true → now ≤ place.moment
later_among_later now place [] all h = cc
later_among_later now place (one ∷ later) all h =
    elim (one.0.moment == place.moment) as (λ b. (one.0.moment == place.moment) ≡ b → now ≤ place.moment) [
      | true ↦ λ e. same one.0.moment place.moment e all.0
      | false ↦ λ e. later_among_later now place later all.1 (sym (ap (λ b. (b && (one.0.hash == place.hash)) || is_among place later) e) ∙ h)
    ] refl
  where
    same : (m n : ℕ) → (m == n) ≡ true → now ≤ m → now ≤ n
    same m n e le = grind (arith, nat_tests)

-- a slot is within its lifetimes up to its deadline
in_time : (ttl : Option ℕ) (last oldest now : ℕ) → now < 2 ^ 64 → nat_le now (min (lesser_end ttl last oldest) (2 ^ 64 - 1)) ≡ (within_ttl ttl last now && nat_le now oldest)
in_time None last oldest now u64 = grind (arith, nat_tests)
in_time (Some ttl) last oldest now u64 = grind (arith, nat_tests)

within_deadline : (now : ℕ) → now < 2 ^ 64 → (slot : Slot) → nat_le now (deadline slot) ≡ within slot.entry slot.last now
within_deadline now u64 slot = in_time slot.entry.ttl slot.last (slot.entry.entered + slot.entry.max) now u64

in_future : (now : ℕ) → now < 2 ^ 64 → (slot : Slot) → within slot.entry slot.last now ≡ true → now ≤ deadline slot
in_future now u64 slot there = upto (deadline slot) (within_deadline now u64 slot ∙ there)
  where
    upto : (d : ℕ) → nat_le now d ≡ true → now ≤ d
    upto d e = grind (arith, nat_tests)

-- where the place of each slot is one of these
module _ (places : List (Reverse Place)) where
  -- it is one of these and one more
  pub held_or : (place : Place) (list : List Slot) → HavePlaces places list → AllByRecursion (λ slot. (is_place place (place_of slot) || is_among (place_of slot) places) ≡ true) list
  held_or place list held =
      all_weaker (λ slot. is_among (place_of slot) places ≡ true) (λ slot. (is_place place (place_of slot) || is_among (place_of slot) places) ≡ true)
      (λ slot h. either (is_place place (place_of slot)) (is_among (place_of slot) places) h) list held
    where
      either : (a b : Bool) → b ≡ true → (a || b) ≡ true
      either true b h = refl
      either false b h = h

  -- a slot that has the one more
  pub held_new : (place : Place) (slot : Slot) → place ≡ place_of slot → (is_place place (place_of slot) || is_among (place_of slot) places) ≡ true
  held_new place slot is =
      ap (λ b. b || is_among (place_of slot) places)
      (ap (λ (one : Place). is_place one (place_of slot)) is ∙ (ap (λ b. b && (id_hash slot.entry.id == id_hash slot.entry.id)) (same (deadline slot)) ∙ same (id_hash slot.entry.id)))
    where
      same : (n : ℕ) → (n == n) ≡ true
      same n = grind (arith, nat_tests)

  -- a later entry takes modes
  pub held_hidden : (later : Entry) (list : List Slot) → HavePlaces places list → HavePlaces places (hidden later list)
  held_hidden later list held =
      all_filter (λ slot. is_among (place_of slot) places ≡ true) (λ slot. has_some slot.modes) (map (hide later) list)
      (all_map (λ slot. is_among (place_of slot) places ≡ true) (hide later) (λ slot h. subst (λ (p : Place). is_among p places ≡ true) (sym (hide_place slot)) h) list held)
    where
      hide_place : (slot : Slot) → place_of (hide later slot) ≡ place_of slot
      hide_place slot =
          elim (same_id later.id slot.entry.id) as (λ b. place_of (cond b (record slot { modes = not_covered later.mode slot.modes }) slot) ≡ place_of slot) [ true ↦ refl | false ↦ refl ]

  -- no place is before now, so that each slot is within its lifetimes
  pub swept_none : (now : ℕ) → now < 2 ^ 64 → AllByRecursion (λ place. now ≤ place.0.moment) places → (list : List Slot) → HavePlaces places list → swept now list ≡ list
  swept_none now u64 all [] held = refl
  swept_none now u64 all (slot ∷ later) held =
      ap (λ b. cond b (slot ∷ swept now later) (swept now later)) (sym (within_deadline now u64 slot) ∙ upto (deadline slot) (later_among_later now (place_of slot) places all held.0))
      ∙ ap (λ (l : List Slot). slot ∷ l) (swept_none now u64 all later held.1)
    where
      upto : (d : ℕ) → now ≤ d → nat_le now d ≡ true
      upto d le = grind (arith, nat_tests)

  -- a slot changes, and has the one more
  pub held_set : (place : Place) (i : ℕ) (list : List Slot) (new : Slot) → place ≡ place_of new → HavePlaces places list
      → AllByRecursion (λ slot. (is_place place (place_of slot) || is_among (place_of slot) places) ≡ true) (set list i new)
  held_set place zero [] new is held = tt
  held_set place zero (x ∷ xs) new is held = (held_new place new is, held_or place xs held.1)
  held_set place (suc i) [] new is held = tt
  held_set place (suc i) (x ∷ xs) new is held = ((held_or place (x ∷ []) (held.0, tt)).0, held_set place i xs new is held.1)

-- the place of one slot more is added
module _ (places more : List (Reverse Place)) (place : Place) (added : (other : Place) → is_among other more ≡ (is_place place other || is_among other places)) where
  held_with_more : (list : List Slot) → HavePlaces places list → HavePlaces more list
  held_with_more [] held = tt
  held_with_more (slot ∷ later) held = (added (place_of slot) ∙ (held_or places place (slot ∷ []) (held.0, tt)).0, held_with_more later held.1)

  held_further : (i : ℕ) (list : List Slot) (d : Slot) → i < length list → place ≡ place_of (get_or list i d) → HavePlaces places (take i list) → HavePlaces more (take (suc i) list)
  held_further zero [] d lt is held = absurd (omega arith)
  held_further zero (x ∷ xs) d lt is held = (added (place_of x) ∙ held_new places place x is, tt)
  held_further (suc i) [] d lt is held = absurd (omega arith)
  held_further (suc i) (x ∷ xs) d lt is held = ((held_with_more (x ∷ []) (held.0, tt)).0, held_further i xs d (omega arith) is held.1)

  pub held_taken : (i : ℕ) (list : List Slot) (slot : Slot) → i < length list → slot ≡ get_or list i slot → place ≡ place_of slot → HavePlaces places (take i list) → HavePlaces more (take (i + 1) list)
  held_taken i list slot lt there is held =
      subst (λ (k : ℕ). HavePlaces more (take k list)) (one_more i) (held_further i list slot lt (is ∙ ap place_of there) held)
    where
      one_more : (k : ℕ) → suc k ≡ k + 1
      one_more k = omega arith

-- what is swept leaves slots whose places stay
module _ (places fewer : List (Reverse Place)) (now : ℕ) (u64 : now < 2 ^ 64) (kept : (place : Place) → now ≤ place.moment → is_among place fewer ≡ is_among place places) where
  pub held_swept : (list : List Slot) → HavePlaces places list → HavePlaces fewer (swept now list)
  held_swept [] held = tt
  held_swept (slot ∷ later) held =
      elim (within slot.entry slot.last now) as (λ b. within slot.entry slot.last now ≡ b → HavePlaces fewer (cond b (slot ∷ swept now later) (swept now later))) [
        | true ↦ λ e. (kept (place_of slot) (in_future now u64 slot e) ∙ held.0, held_swept later held.1)
        | false ↦ λ e. held_swept later held.1
      ] refl

  -- also where only those with one hash are
  module _ (hash : ℕ) (others : (place : Place) → (hash == place.hash) ≡ false → is_among place fewer ≡ is_among place places) where
    stays : (slot : Slot) → not (has_hash_past hash now slot) ≡ true → is_among (place_of slot) places ≡ true → is_among (place_of slot) fewer ≡ true
    stays slot not_past held = either (hash == id_hash slot.entry.id) (within slot.entry slot.last now) refl refl
      where
        either : (same there : Bool) → (hash == id_hash slot.entry.id) ≡ same → within slot.entry slot.last now ≡ there → is_among (place_of slot) fewer ≡ true
        either false there e k = others (place_of slot) e ∙ held
        either true true e k = kept (place_of slot) (in_future now u64 slot k) ∙ held
        either true false e k =
            let past : not (has_hash_past hash now slot) ≡ false = ap (λ b. not (b && not (within slot.entry slot.last now))) e ∙ ap (λ b. not (not b)) k in cc

    pub held_swept_hash : (list : List Slot) → HavePlaces places list → HavePlaces fewer (swept_hash hash now list)
    held_swept_hash [] held = tt
    held_swept_hash (slot ∷ later) held =
        elim (not (has_hash_past hash now slot)) as (λ b. not (has_hash_past hash now slot) ≡ b → HavePlaces fewer (cond b (slot ∷ swept_hash hash now later) (swept_hash hash now later))) [
          | true ↦ λ e. (stays slot e held.0, held_swept_hash later held.1)
          | false ↦ λ e. held_swept_hash later held.1
        ] refl

-- those with one hash are swept with all
module _ (hash now : ℕ) (slot : Slot) (rest later : List Slot) (same_rest : swept now rest ≡ swept now later) where
  by_hash : (same : Bool) → (hash == id_hash slot.entry.id) ≡ same
      → swept now (cond (not (has_hash_past hash now slot)) (slot ∷ rest) rest) ≡ swept now (cond (not (same && not (within slot.entry slot.last now))) (slot ∷ rest) rest)
  by_hash same e = ap (λ b. swept now (cond (not (b && not (within slot.entry slot.last now))) (slot ∷ rest) rest)) e

  by_life : (there : Bool) → within slot.entry slot.last now ≡ there
      → swept now (cond (not (not (within slot.entry slot.last now))) (slot ∷ rest) rest) ≡ swept now (cond (not (not there)) (slot ∷ rest) rest)
  by_life there k = ap (λ b. swept now (cond (not (not b)) (slot ∷ rest) rest)) k

  stays_in : swept now (slot ∷ rest) ≡ swept now (slot ∷ later)
  stays_in = ap (λ (l : List Slot). cond (within slot.entry slot.last now) (slot ∷ l) l) same_rest

  one_swept : (same there : Bool) → (hash == id_hash slot.entry.id) ≡ same → within slot.entry slot.last now ≡ there
      → swept now (cond (not (has_hash_past hash now slot)) (slot ∷ rest) rest) ≡ swept now (slot ∷ later)
  one_swept false there e k = by_hash false e ∙ stays_in
  one_swept true true e k = by_hash true e ∙ (by_life true k ∙ stays_in)
  one_swept true false e k = by_hash true e ∙ (by_life false k ∙ (same_rest ∙ sym (ap (λ b. cond b (slot ∷ swept now later) (swept now later)) k)))

pub swept_of_hash : (hash now : ℕ) (list : List Slot) → swept now (swept_hash hash now list) ≡ swept now list
swept_of_hash hash now [] = refl
swept_of_hash hash now (slot ∷ later) =
    one_swept hash now slot (swept_hash hash now later) later (swept_of_hash hash now later) (hash == id_hash slot.entry.id) (within slot.entry slot.last now) refl refl
