use Rattle.std.specs.{Prelude.{◌≡◌, false}, List.AllWithin}
use Rattle.cache_book.specs.Shelves.{serves_at}
use Rattle.cache_book.proofs.search.serving.Given as goal

abbrev pub invariant-loop-i : goal.invariant-loop-i
invariant-loop-i l = AllWithin (λ slot. serves_at l.id l.mode l.now slot ≡ false) l.slots l.start l.i
