use Rattle.std.{specs.Prelude.◌+◌, proofs.Common.{sym, subst, arith}}
use Rattle.{cache_book.{specs.{declared.slot.Slot.Slot, Shelves.AreBelow}, proofs.Below.{below_filter, below_more}}, cache_policy.specs.Entry.within}
use Rattle.agent_core.{specs.Taking.held_at, proofs.Kept.room_more}
use Rattle.agent_core.proofs.state.State.begin.Goals as goal

below : (c : goal.After-self-2-1) → AreBelow (c.turn_over.new.self.base + c.turn_over.new.self.count) c.sweep.new.self.slots
below c =
    subst (AreBelow (c.turn_over.new.self.base + c.turn_over.new.self.count)) (sym c.sweep.ensures.slots)
    (below_filter _ (λ (slot : Slot). within slot.entry slot.last c.args.moment) c.turn_over.new.self.shelf.slots c.turn_over.ensures.state.numbers)

pub returns-clause-below : goal.returns-clause-below
returns-clause-below c = below c

pub returns-clause-state : goal.returns-clause-state
returns-clause-state c = record {
  base = c.turn_over.ensures.state.base;
  whole = c.turn_over.ensures.state.whole;
  few = omega (arith, c.turn_over.ensures.few);
  moment = c.requires.within;
  numbers = below_more _ _ c.sweep.new.self.slots (omega arith) (below c);
  room = room_more (held_at c.turn_over.new.self) c.turn_over.new.self.shelf.spare c.sweep.new.self.spare c.sweep.ensures.spare c.turn_over.ensures.state.room;
}
