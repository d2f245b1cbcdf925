use Rattle.std.specs.Prelude.{◌≡◌, ◌≤◌, ◌-◌, vec_len, vec_capacity}
use Rattle.cache_book.{specs.Shelves.hidden, proofs.Stretch.IsDoneFrom}
use Rattle.cache_book.proofs.slot_shelf.hide_in.Given as goal

abbrev pub invariant-loop-i : goal.invariant-loop-i
invariant-loop-i l = record {
  done : IsDoneFrom (hidden l.later) l.i l.fn.slots.items l.slots.items;
  len : vec_len l.slots ≤ vec_len l.fn.slots;
  capacity : vec_capacity l.slots ≡ vec_capacity l.fn.slots;
}

abbrev pub decreases-loop-i : goal.decreases-loop-i
decreases-loop-i l = l.i - l.start
