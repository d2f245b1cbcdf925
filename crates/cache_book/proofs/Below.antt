-- The numbers of the slots on a shelf stay below the next one.
use Rattle.std.{specs.Prelude.{ℕ, ◌+◌, ◌<◌, ◌≤◌, List, [], ◌∷◌, Bool, filter}, proofs.Common.{sym, subst, arith}}
use Rattle.cache_policy.{specs.declared.entry.Entry.Entry, proofs.Lists.{all_weaker, all_append}}
use Rattle.cache_book.{specs.{declared.slot.Slot.Slot, Shelves.{touch_slot, touched, hidden, new_slot, with_entry, AreBelow}}, proofs.{Kept.{all_filter, all_map}, Ordered.{touch_entry, below_hidden}}}

pub below_more : (number next : ℕ) (list : List Slot) → number ≤ next → AreBelow number list → AreBelow next list
below_more number next list more h =
    all_weaker (λ slot. slot.entry.number < number) (λ slot. slot.entry.number < next) (λ slot k. omega (arith, k, more)) list h

pub below_touched : (number used now : ℕ) (list : List Slot) → AreBelow number list → AreBelow number (touched used now list)
below_touched number used now list h =
    all_map (λ slot. slot.entry.number < number) (touch_slot used now) (λ slot k. subst (λ (e : Entry). e.number < number) (sym (touch_entry used now slot)) k) list h

pub below_filter : (number : ℕ) (test : Slot → Bool) (list : List Slot) → AreBelow number list → AreBelow number (filter test list)
below_filter number test list h = all_filter (λ slot. slot.entry.number < number) test list h

pub below_stored : (entry : Entry) (list : List Slot) → AreBelow entry.number list → AreBelow (entry.number + 1) (with_entry entry list)
below_stored entry list h =
    all_append (λ slot. slot.entry.number < entry.number + 1) (hidden entry list) (new_slot entry ∷ [])
    (below_more entry.number (entry.number + 1) (hidden entry list) (omega arith) (below_hidden entry entry.number list h)) (next entry.number, tt)
  where
    next : (n : ℕ) → n < n + 1
    next n = omega arith
