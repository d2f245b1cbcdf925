use Rattle.std.specs.Prelude.{◌≡◌, ◌≤◌, take}
use Rattle.cache_book.specs.Deadlines.{HavePlaces}
use Rattle.cache_book.proofs.slot_shelf.collect_anew.Given as goal

abbrev pub invariant-loop-slot : goal.invariant-loop-slot
invariant-loop-slot l = record {
  held : HavePlaces l.deadlines.places (take l.slot-index l.slots);
  len : l.deadlines.len ≡ l.slot-index;
  capacity : l.fn.deadlines.capacity ≤ l.deadlines.capacity;
}
