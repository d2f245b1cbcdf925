use Rattle.std.{specs.Prelude.◌+◌, proofs.Common.{sym, subst}}
use Rattle.cache_book.{specs.Shelves.AreBelow, proofs.Below.below_stored}
use Rattle.cache_tests.proofs.shelves.stored.Goals as goal

pub returns : goal.returns
returns g c = subst (AreBelow (c.args.number + 1)) (sym c.store.ensures.slots) (below_stored _ (g.S.Shelf.at c.args.shelf.now).slots c.requires)
