use Rattle.std.proofs.Common.{sym, subst}
use Rattle.cache_book.{specs.Shelves.AreBelow, proofs.Below.below_filter}
use Rattle.cache_tests.proofs.shelves.changed.Goals as goal

pub returns-in-Clear : goal.returns-in-Clear
returns-in-Clear g c = λ number h.
    subst (AreBelow number) (sym c.clear.ensures.slots)
    (below_filter number _ (g.S.Shelf.at c.sweep_if-in-Clear.new.shelf).slots (c.sweep_if-in-Clear.ensures number h))
