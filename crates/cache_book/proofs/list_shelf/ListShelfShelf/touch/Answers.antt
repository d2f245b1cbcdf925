use Rattle.std.proofs.Common.{sym, subst}
use Rattle.cache_book.{specs.Shelves.AreWithinMode, proofs.Kept.within_touched}
use Rattle.cache_book.proofs.list_shelf.ListShelfShelf.touch.Goals as goal

pub invariant_of-self : goal.invariant_of-self
invariant_of-self c =
    subst AreWithinMode (sym c.touch_all.ensures.items) (within_touched c.args.number c.args.now c.self.inside.slots.items c.self.invariant)
