use Rattle.std.proofs.Common.{rules}
use Rattle.cache_book.proofs.Holding.{held_taken}
use Rattle.cache_book.proofs.slot_shelf.collect_anew.Goals as goal

pub loop-slot-preserved : goal.loop-slot-preserved
loop-slot-preserved c = record {
  held = held_taken c.loop-slot.deadlines.places c.add.new.self.places c.place.result c.add.ensures.places c.loop-slot.slot-index c.args.slots.now c.slot-item.result c.loop-slot-test.true
      c.slot-item.is c.place.ensures c.loop-slot.invariant.held;
  len = search rules;
  capacity = search rules;
}
