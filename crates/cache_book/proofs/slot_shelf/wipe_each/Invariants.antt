use Rattle.std.specs.Prelude.{◌≡◌, ◌++◌, map, take, drop}
use Rattle.cache_book.specs.SlotOrders.{wiped}
use Rattle.cache_book.proofs.slot_shelf.wipe_each.Given as goal

abbrev pub invariant-loop-slot : goal.invariant-loop-slot
invariant-loop-slot l =
    l.slots ≡ map wiped (take l.slot-index l.fn.slots) ++ drop l.slot-index l.fn.slots
