use Rattle.std.{specs.Prelude.refl, proofs.Common.rules}
use Rattle.cache_book.{specs.SlotOrders.swept_hash, proofs.{Slotwise.filter_slotwise, Stretch.{done_none, done_all}, Searching.{behind_hash, before_hash, swept_hash_apart}}}
use Rattle.cache_book.proofs.slot_shelf.sweep_hash.Goals as goal

pub loop-i-init : goal.loop-i-init
loop-i-init c = record {
  done = done_none (swept_hash c.args.hash c.args.now) (filter_slotwise _) c.before_higher_hashes-i.result c.args.slots.now.items c.args.slots.now.items (search rules)
      (swept_hash_apart c.args.hash c.args.now _
      (behind_hash c.args.hash c.as_slice-2.result.now c.args.slots.now.items c.before_higher_hashes-i.result c.as_slice-2.ensures.value c.before_higher_hashes-i.ensures.parts));
  len = search rules;
  capacity = refl;
}

pub returns-clause-items : goal.returns-clause-items
returns-clause-items c =
    done_all (swept_hash c.args.hash c.args.now) (filter_slotwise _) c.loop-i.i c.args.slots.now.items c.loop-i.slots.items c.loop-i.invariant.done
    (swept_hash_apart c.args.hash c.args.now _
    (before_hash c.args.hash c.as_slice.result.now c.args.slots.now.items c.behind_lower_hashes-start.result c.loop-i.i c.as_slice.ensures.value
    c.behind_lower_hashes-start.ensures.within c.loop-i-test.false c.behind_lower_hashes-start.ensures.parts))
