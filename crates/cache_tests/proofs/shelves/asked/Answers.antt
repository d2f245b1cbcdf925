use Rattle.std.proofs.Common.{sym, subst}
use Rattle.cache_book.{specs.Shelves.AreBelow, proofs.Below.below_touched}
use Rattle.cache_tests.proofs.shelves.asked.Goals as goal

pub returns-in-Ok-Some : goal.returns-in-Ok-Some
returns-in-Ok-Some g c = λ number h.
    subst (AreBelow number) (sym c.touch.ensures.slots)
    (below_touched number c.in-Ok-Some.number c.args.now (g.S.Shelf.at c.sweep_if.new.shelf).slots (c.sweep_if.ensures number h))
