use Rattle.std.specs.Prelude.{◌≡◌, ◌++◌, map, take, drop}
use Rattle.cache_book.specs.Shelves.{touch_slot}
use Rattle.cache_book.proofs.list_shelf.touch_each.Given as goal

abbrev pub invariant-loop-slot : goal.invariant-loop-slot
invariant-loop-slot l =
    l.slots ≡ map (touch_slot l.number l.now) (take l.slot-index l.fn.slots) ++ drop l.slot-index l.fn.slots
