use Rattle.std.proofs.{Common.{sym, ap, ◌∙◌}, Math.ListN.set, lemmas.List.Edits.map_over_more}
use Rattle.cache_book.specs.{declared.slot.Slot.Slot, SlotOrders.wipe_past}
use Rattle.cache_book.proofs.slot_shelf.wipe_past_each.Goals as goal

pub loop-slot-preserved : goal.loop-slot-preserved
loop-slot-preserved c =
    ap (λ (slot : Slot). set c.loop-slot.slots c.loop-slot.slot-index slot) (c.wipe_past.ensures ∙ sym (ap (wipe_past c.args.now) c.slot-item.is))
    ∙ map_over_more (wipe_past c.args.now) c.args.slots.now c.loop-slot.slots c.loop-slot.slot-index c.slot-item.result c.loop-slot-test.true c.loop-slot.invariant c.slot-item.is
