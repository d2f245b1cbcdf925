use Rattle.std.{specs.Prelude.◌+◌, proofs.Common.{sym, subst}}
use Rattle.cache_book.{specs.Shelves.AreBelow, proofs.Below.below_filter}
use Rattle.agent_core.{specs.Taking.held_at, proofs.Kept.{room_more, state_with_shelf}}
use Rattle.agent_core.proofs.state.State.clear.Goals as goal

pub returns-clause-state : goal.returns-clause-state
returns-clause-state c =
    state_with_shelf c.begin.new.self c.clear.new.self c.begin.ensures.state
    (subst (AreBelow (c.begin.new.self.base + c.begin.new.self.count)) (sym c.clear.ensures.slots) (below_filter _ _ c.begin.new.self.shelf.slots c.begin.ensures.state.numbers))
    (room_more (held_at c.begin.new.self) c.begin.new.self.shelf.spare c.clear.new.self.spare c.clear.ensures.spare c.begin.ensures.state.room)
