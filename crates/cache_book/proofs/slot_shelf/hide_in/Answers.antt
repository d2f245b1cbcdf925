use Rattle.std.{specs.Prelude.{◌-◌, [], ◌∷◌, false, true, refl}, proofs.Common.{ap, sym, ◌∙◌, subst, rules}}
use Rattle.cache_book.{specs.{declared.slot.Slot.Slot, Modes.has_some, Shelves.hidden}, proofs.{Slotwise.hidden_slotwise, Stretch.{IsDoneFrom, done_none, done_all, done_removed, done_set, hidden_one, remove_set, from_before}}}
use Rattle.cache_book.proofs.Searching.{behind_hash, before_hash, other_ids, hidden_after, hidden_before}
use Rattle.cache_book.proofs.slot_shelf.hide_in.Goals as goal

pub loop-i-init : goal.loop-i-init
loop-i-init c = record {
  done = done_none (hidden c.args.later.now) (hidden_slotwise c.args.later.now) c.before_higher_hashes-i.result c.args.slots.now.items c.args.slots.now.items (search rules)
      (hidden_after c.args.later.now c.args.slots.now.items c.before_higher_hashes-i.result c.requires.serving
      (other_ids c.args.later.now.id c.hash_of-hash.result _ c.hash_of-hash.ensures
      (behind_hash c.hash_of-hash.result c.as_slice-2.result.now c.args.slots.now.items c.before_higher_hashes-i.result c.as_slice-2.ensures.value c.before_higher_hashes-i.ensures.parts)));
  len = search rules;
  capacity = refl;
}

pub returns-clause-items : goal.returns-clause-items
returns-clause-items c =
    done_all (hidden c.args.later.now) (hidden_slotwise c.args.later.now) c.loop-i.i c.args.slots.now.items c.loop-i.slots.items c.loop-i.invariant.done
    (hidden_before c.args.later.now c.args.slots.now.items c.loop-i.i c.requires.serving
    (other_ids c.args.later.now.id c.hash_of-hash.result _ c.hash_of-hash.ensures
    (before_hash c.hash_of-hash.result c.as_slice.result.now c.args.slots.now.items c.behind_lower_hashes-start.result c.loop-i.i c.as_slice.ensures.value c.behind_lower_hashes-start.ensures.within
    c.loop-i-test.false c.behind_lower_hashes-start.ensures.parts)))

pub loop-i-preserved : goal.loop-i-preserved
loop-i-preserved c = record {
  done = done_set (hidden c.args.later.now) (hidden_slotwise c.args.later.now) (c.loop-i.i - 1) c.args.slots.now.items c.loop-i.slots.items
      (from_before _ c.loop-i.i c.behind_lower_hashes-start.result _ _ c.loop-i-test.true c.loop-i.invariant.done) c.index_mut.result.now c.index_mut.ensures.value c.hide.new.self
      (hidden_one c.args.later.now c.index_mut.result.now true (sym (ap (λ (slot : Slot). has_some slot.modes) c.hide.ensures.hidden) ∙ (sym c.hide.ensures.serves ∙ c.if-not-hide.false))
      ∙ ap (λ (slot : Slot). slot ∷ []) (sym c.hide.ensures.hidden));
  len = search rules;
  capacity = search rules;
}

pub loop-i-preserved-then-not-hide : goal.loop-i-preserved-then-not-hide
loop-i-preserved-then-not-hide c = record {
  done = subst (IsDoneFrom (hidden c.args.later.now) (c.loop-i.i - 1) c.args.slots.now.items)
      (sym (c.drop_slot.ensures.items ∙ remove_set (c.loop-i.i - 1) c.loop-i.slots.items c.hide.new.self))
      (done_removed (hidden c.args.later.now) (hidden_slotwise c.args.later.now) (c.loop-i.i - 1) c.args.slots.now.items c.loop-i.slots.items
      (from_before _ c.loop-i.i c.behind_lower_hashes-start.result _ _ c.loop-i-test.true c.loop-i.invariant.done) c.index_mut.result.now c.index_mut.ensures.value
      (hidden_one c.args.later.now c.index_mut.result.now false (sym (ap (λ (slot : Slot). has_some slot.modes) c.hide.ensures.hidden) ∙ (sym c.hide.ensures.serves ∙ c.if-not-hide.true))));
  len = search rules;
  capacity = search rules;
}
