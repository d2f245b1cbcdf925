use Rattle.std.specs.Prelude.{◌≡◌, ◌≤◌, ◌-◌, vec_len, vec_capacity}
use Rattle.cache_book.{specs.SlotOrders.swept_hash, proofs.Stretch.IsDoneFrom}
use Rattle.cache_book.proofs.slot_shelf.sweep_hash.Given as goal

abbrev pub invariant-loop-i : goal.invariant-loop-i
invariant-loop-i l = record {
  done : IsDoneFrom (swept_hash l.hash l.now) l.i l.fn.slots.items l.slots.items;
  len : vec_len l.slots ≤ vec_len l.fn.slots;
  capacity : vec_capacity l.slots ≡ vec_capacity l.fn.slots;
}

abbrev pub decreases-loop-i : goal.decreases-loop-i
decreases-loop-i l = l.i - l.start
