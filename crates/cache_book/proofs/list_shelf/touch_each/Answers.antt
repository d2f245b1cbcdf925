use Rattle.std.proofs.{Common.{sym, ap, ◌∙◌}, Math.ListN.set, lemmas.List.Edits.map_over_more}
use Rattle.cache_book.specs.{declared.slot.Slot.Slot, Shelves.touch_slot}
use Rattle.cache_book.proofs.list_shelf.touch_each.Goals as goal

pub loop-slot-preserved : goal.loop-slot-preserved
loop-slot-preserved c =
    ap (λ (slot : Slot). set c.loop-slot.slots c.loop-slot.slot-index slot) (c.touch.ensures ∙ sym (ap (touch_slot c.args.number c.args.now) c.slot-item.is))
    ∙ map_over_more (touch_slot c.args.number c.args.now) c.args.slots.now c.loop-slot.slots c.loop-slot.slot-index c.slot-item.result c.loop-slot-test.true c.loop-slot.invariant c.slot-item.is
