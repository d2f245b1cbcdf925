use Rattle.std.proofs.Common.{sym, subst}
use Rattle.cache_book.{specs.SlotOrders.AreWiped, proofs.Wiping.all_wiped}
use Rattle.cache_book.proofs.slot_shelf.SlotShelfShelf.flush.Goals as goal

pub drop_all-requires : goal.drop_all-requires
drop_all-requires c = subst AreWiped (sym c.wipe_all.ensures.items) (all_wiped c.self.inside.slots.items)
