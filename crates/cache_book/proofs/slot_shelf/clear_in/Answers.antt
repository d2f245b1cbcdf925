use Rattle.std.{specs.Prelude.{◌≡◌, ◌-◌, true, refl}, proofs.Common.{sym, subst, rules}}
use Rattle.cache_policy.specs.Entry.{serves}
use Rattle.cache_book.{specs.Shelves.cleared, proofs.{Slotwise.filter_slotwise, Stretch.{IsDoneFrom, done_none, done_all, done_removed, from_before, cleared_one}, Searching.{behind_hash, before_hash, other_ids, cleared_apart}}}
use Rattle.cache_book.proofs.slot_shelf.clear_in.Goals as goal

pub loop-i-init : goal.loop-i-init
loop-i-init c = record {
  done = done_none (cleared c.args.id.now c.args.mode) (filter_slotwise _) c.before_higher_hashes-i.result c.args.slots.now.items c.args.slots.now.items (search rules)
      (cleared_apart c.args.id.now c.args.mode _ (other_ids c.args.id.now c.hash_of-hash.result _ c.hash_of-hash.ensures
      (behind_hash c.hash_of-hash.result c.as_slice-2.result.now c.args.slots.now.items c.before_higher_hashes-i.result c.as_slice-2.ensures.value c.before_higher_hashes-i.ensures.parts)));
  len = search rules;
  capacity = refl;
}

pub returns-clause-items : goal.returns-clause-items
returns-clause-items c =
    done_all (cleared c.args.id.now c.args.mode) (filter_slotwise _) c.loop-i.i c.args.slots.now.items c.loop-i.slots.items c.loop-i.invariant.done
    (cleared_apart c.args.id.now c.args.mode _
    (other_ids c.args.id.now c.hash_of-hash.result _ c.hash_of-hash.ensures
    (before_hash c.hash_of-hash.result c.as_slice.result.now c.args.slots.now.items c.behind_lower_hashes-start.result c.loop-i.i c.as_slice.ensures.value c.behind_lower_hashes-start.ensures.within
    c.loop-i-test.false c.behind_lower_hashes-start.ensures.parts)))

pub loop-i-preserved-then-is_cleared : goal.loop-i-preserved-then-is_cleared
loop-i-preserved-then-is_cleared c =
    let cleared_it : serves c.args.id.now c.args.mode c.index.result.now.entry ≡ true = search rules in
    record {
      done = subst (IsDoneFrom (cleared c.args.id.now c.args.mode) (c.loop-i.i - 1) c.args.slots.now.items) (sym c.drop_slot.ensures.items)
          (done_removed (cleared c.args.id.now c.args.mode) (filter_slotwise _) (c.loop-i.i - 1) c.args.slots.now.items c.loop-i.slots.items
          (from_before _ c.loop-i.i c.behind_lower_hashes-start.result _ _ c.loop-i-test.true c.loop-i.invariant.done) c.index.result.now c.index.ensures
          (cleared_one c.args.id.now c.args.mode c.index.result.now true cleared_it));
      len = search rules;
      capacity = search rules;
    }
