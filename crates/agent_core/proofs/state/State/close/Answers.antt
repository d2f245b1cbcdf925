use Rattle.std.{specs.Prelude.{◌≡◌, None}, proofs.Common.rules}
use Rattle.cache_policy.specs.declared.life.Life.TheVariants.{Default}
use Rattle.agent_core.proofs.Kept.{below_with_entry, entry_number, room_free}
use Rattle.agent_core.proofs.state.State.close.Goals as goal

pub returns-in-Some-clause-state : goal.returns-in-Some-clause-state
returns-in-Some-clause-state c =
    let free : c.give.new.self ≡ None = search rules in
    record {
      base = c.begin-number.ensures.state.base;
      whole = c.begin-number.ensures.state.whole;
      few = c.begin-number.ensures.state.few;
      moment = c.begin-number.ensures.state.moment;
      numbers = below_with_entry c.begin-number.result _ c.in-Some.entry c.begin-number.new.self.shelf.slots _ c.begin-number.ensures.next
          (entry_number c.begin-number.new.self.limits c.begin-number.result c.args.moment
          c.in-Some-Some.field-0-0.id c.in-Some-Some.field-0-0.mode Default c.in-Some-Some.secret c.in-Some.entry c.in-Some.ensures) c.begin-number.ensures.below c.store.ensures.slots;
      room = room_free c.give.new.self c.take-under.new.self c.store.new.self.spare free;
    }
