use Rattle.std.proofs.{Common.{sym, ap, ◌∙◌}, Math.ListN.set, lemmas.List.Edits.map_over_more}
use Rattle.cache_book.specs.{declared.slot.Slot.Slot, Shelves.hide}
use Rattle.cache_book.proofs.list_shelf.hide_each.Goals as goal

pub loop-slot-preserved : goal.loop-slot-preserved
loop-slot-preserved c =
    ap (λ (slot : Slot). set c.loop-slot.slots c.loop-slot.slot-index slot) (c.hide.ensures ∙ sym (ap (hide c.args.later.now) c.slot-item.is))
    ∙ map_over_more (hide c.args.later.now) c.args.slots.now c.loop-slot.slots c.loop-slot.slot-index c.slot-item.result c.loop-slot-test.true c.loop-slot.invariant c.slot-item.is
