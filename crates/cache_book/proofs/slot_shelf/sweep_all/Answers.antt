use Rattle.std.proofs.Common.{ap, sym, ◌∙◌, subst}
use Rattle.cache_book.{specs.{Shelves.swept, SlotOrders.AreWipedPast}, proofs.Wiping.{wiped_past, swept_wiped}}
use Rattle.cache_book.proofs.slot_shelf.sweep_all.Goals as goal

pub drop_past-requires : goal.drop_past-requires
drop_past-requires c = subst (AreWipedPast c.args.now) (sym c.wipe_past_in.ensures.items) (wiped_past c.args.now c.args.slots.now.items)

pub returns-clause-items : goal.returns-clause-items
returns-clause-items c = c.drop_past.ensures.items ∙ (ap (swept c.args.now) c.wipe_past_in.ensures.items ∙ swept_wiped c.args.now c.args.slots.now.items)
