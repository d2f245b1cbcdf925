use Rattle.std.{specs.Prelude.◌≤◌, proofs.Common.{arith, rules}}
use Rattle.agent_core.{specs.Taking.held_at, proofs.{Kept.{below_with_entry, entry_number, room_some, state_with_shelf}, state.State.put.Goals.{in-Some, in_default}}}
use Rattle.agent_core.proofs.state.State.put.Goals as goal

pub returns-clause-state : goal.returns-clause-state
returns-clause-state c =
    let room : 2 ≤ c.reserve.new.self.spare = search rules in
    elim c.match-of.branch [
      | in-Some w ↦ rw w.self-is (state_with_shelf c.begin-number.new.self w.store.new.self c.begin-number.ensures.state
          (below_with_entry c.begin-number.result _ w.in-Some.entry c.begin-number.new.self.shelf.slots _ c.begin-number.ensures.next
          (entry_number c.begin-number.new.self.limits c.begin-number.result c.args.moment c.args.id c.args.mode c.args.life c.args.secret w.in-Some.entry w.in-Some.ensures) c.begin-number.ensures.below w.store.ensures.slots)
          (room_some (held_at c.begin-number.new.self) w.store.new.self.spare (omega (arith, w.store.ensures.spare, c.begin-number.ensures.spare, room))))
      | in_default w ↦ rw w.self-is c.begin-number.ensures.state
    ]
