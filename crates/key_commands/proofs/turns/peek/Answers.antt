use Rattle.std.proofs.Common.{refl}
use Rattle.{cache_policy.specs.{declared.{mark.MarkStep.TheVariants.Peek, mode.Mode.TheVariants.Normal}, Turns.{Held, Stopping, Refused}}, agent_ask.specs.{Session.TurnActions.{peeked, interrupted}, Interrupts.{stopping, refused}}}
use Rattle.key_commands.specs.Lines.{grip_text}
use Rattle.key_commands.proofs.turns.peek.Goals as goal

pub returns-in-Ok-Held-clause-turn : goal.returns-in-Ok-Held-clause-turn
returns-in-Ok-Held-clause-turn g c = record {
  step = Peek (grip_text c.args.grip.now) Normal;
  turn = Held c.in-Ok-Held.cached;
  turned_so = rw (c.in-Ok-Held.field-0-is, c.key_id.ensures) at c.in-Ok-Held.ensures.turned;
  does = peeked;
  on = refl;
}

pub returns-in-Ok-Stopping-clause-turn : goal.returns-in-Ok-Stopping-clause-turn
returns-in-Ok-Stopping-clause-turn g c = record {
  step = Peek (grip_text c.args.grip.now) Normal;
  turn = Stopping;
  turned_so = rw (c.in-Ok-Stopping.field-0-is, c.key_id.ensures) at c.in-Ok-Stopping.ensures.turned;
  does = interrupted tt stopping;
  on = refl;
}

pub returns-in-Err-clause-turn : goal.returns-in-Err-clause-turn
returns-in-Err-clause-turn g c =
    rw c.without_memory.ensures (record {
      step = Peek (grip_text c.args.grip.now) Normal;
      turn = Refused;
      turned_so = rw c.key_id.ensures at c.in-Err.ensures.turned;
      does = interrupted tt refused;
      on = refl;
    })
