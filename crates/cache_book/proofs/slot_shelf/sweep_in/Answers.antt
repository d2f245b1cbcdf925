use Rattle.std.{specs.{Prelude.{◌<◌, ◌^◌, List}, declared.cmp.Reverse.Reverse}, proofs.Common.{ap, sym, ◌∙◌, subst, rules}}
use Rattle.cache_book.{specs.{declared.deadlines.Place.Place, Shelves.swept, SlotOrders.AreKept, Deadlines.HavePlaces}, proofs.{Ordered.kept_filter, Holding.{swept_none, swept_of_hash, held_swept, held_swept_hash}}}
use Rattle.cache_book.proofs.slot_shelf.sweep_in.Goals as goal

pub returns-in_default-clause-items : goal.returns-in_default-clause-items
returns-in_default-clause-items c =
    let u64 : c.args.now < 2 ^ 64 = search rules in
    sym (swept_none c.loop.deadlines.places c.args.now u64 c.in_default.ensures.none c.loop.slots.items c.loop.invariant.held) ∙ c.loop.invariant.swept_is

pub loop-preserved : goal.loop-preserved
loop-preserved c =
    let u64 : c.args.now < 2 ^ 64 = search rules in
    record {
      kept = subst AreKept (sym c.sweep_hash.ensures.items) (kept_filter _ c.loop.slots.items c.loop.invariant.kept);
      held = subst (HavePlaces c.pop_past.new.self.places) (sym c.sweep_hash.ensures.items)
          (held_swept_hash c.loop.deadlines.places c.pop_past.new.self.places c.args.now u64 c.in-Some.ensures.later c.in-Some.hash c.in-Some.ensures.others c.loop.slots.items c.loop.invariant.held);
      swept_is = ap (swept c.args.now) c.sweep_hash.ensures.items ∙ (swept_of_hash c.in-Some.hash c.args.now c.loop.slots.items ∙ c.loop.invariant.swept_is);
      len = search rules;
      capacity = search rules;
      room = search rules;
    }

pub returns-then-drop_past-clause-held : goal.returns-then-drop_past-clause-held
returns-then-drop_past-clause-held c =
    let u64 : c.args.now < 2 ^ 64 = search rules in
    subst (HavePlaces c.drop_past.new.self.places) (sym c.sweep_all.ensures.items)
    (held_swept c.loop.deadlines.places c.drop_past.new.self.places c.args.now u64 c.drop_past.ensures.later c.loop.slots.items c.loop.invariant.held)

pub returns-else-drop_past-clause-items : goal.returns-else-drop_past-clause-items
returns-else-drop_past-clause-items c =
    let u64 : c.args.now < 2 ^ 64 = search rules in
    sym (swept_none c.drop_past.new.self.places c.args.now u64 c.drop_past.ensures.gone c.loop.slots.items
    (subst (λ (places : List (Reverse Place)). HavePlaces places c.loop.slots.items) (sym (c.drop_past.ensures.unchanged c.if-drop_past.false)) c.loop.invariant.held))
    ∙ c.loop.invariant.swept_is
