use Rattle.std.specs.Prelude.{◌≡◌, ◌++◌, map, take, drop}
use Rattle.cache_book.specs.Shelves.{hide}
use Rattle.cache_book.proofs.list_shelf.hide_each.Given as goal

abbrev pub invariant-loop-slot : goal.invariant-loop-slot
invariant-loop-slot l =
    l.slots ≡ map (hide l.later) (take l.slot-index l.fn.slots) ++ drop l.slot-index l.fn.slots
