use Rattle.std.proofs.Common.{sym, subst}
use Rattle.cache_book.{specs.Shelves.AreBelow, proofs.Below.below_filter}
use Rattle.cache_tests.proofs.shelves.sweep_if.Goals as goal

pub returns-then-sweeps : goal.returns-then-sweeps
returns-then-sweeps g c = λ number h. subst (AreBelow number) (sym c.sweep.ensures.slots) (below_filter number _ (g.S.Shelf.at c.args.shelf.now).slots h)
