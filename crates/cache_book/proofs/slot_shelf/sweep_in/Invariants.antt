use Rattle.std.specs.Prelude.{◌≡◌, ◌≤◌, vec_len, vec_capacity}
use Rattle.cache_book.specs.{Shelves.swept, SlotOrders.AreKept, Deadlines.HavePlaces}
use Rattle.cache_book.proofs.slot_shelf.sweep_in.Given as goal

abbrev pub invariant-loop : goal.invariant-loop
invariant-loop l = record {
  kept : AreKept l.slots.items;
  held : HavePlaces l.deadlines.places l.slots.items;
  swept_is : swept l.now l.slots.items ≡ swept l.now l.fn.slots.items;
  len : vec_len l.slots ≤ vec_len l.fn.slots;
  capacity : vec_capacity l.slots ≡ vec_capacity l.fn.slots;
  room : l.deadlines.capacity ≡ l.fn.deadlines.capacity;
}
