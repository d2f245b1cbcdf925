use Rattle.std.specs.{Prelude.{◌≡◌, ◌==◌, false}, List.AllWithin}
use Rattle.cache_book.proofs.search.number_within.Given as goal

abbrev pub invariant-loop-i : goal.invariant-loop-i
invariant-loop-i l = AllWithin (λ slot. (l.number == slot.entry.number) ≡ false) l.slots l.start l.i
