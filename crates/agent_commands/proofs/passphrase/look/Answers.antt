use Rattle.std.proofs.Common.{refl}
use Rattle.{agent_ask.specs.{Interrupts.{stopping, refused}, Session.{Actions.returns, ActionStates.{still, one}, TurnActions.{given, empty, interrupted}}}, cache_policy.specs.Turns.{Given, Empty, Stopping, Refused}}
use Rattle.agent_commands.specs.Passphrases.{ask}
use Rattle.agent_commands.proofs.passphrase.look.Goals as goal

pub returns-in_default-clause-turn : goal.returns-in_default-clause-turn
returns-in_default-clause-turn g c = rw c.in_default.is (still returns refl)

pub returns-in-Ok-Given-clause-turn : goal.returns-in-Ok-Given-clause-turn
returns-in-Ok-Given-clause-turn g c =
    let turned = rw (c.in-Ok-Given.field-0-is, c.copy.ensures) at c.in-Ok-Given.ensures.turned in
    rw (c.in-Some.is, c.cached.ensures) (one (record {
      step = ask c.in-Some.id;
      turn = Given c.in-Ok-Given.grant;
      turned_so = turned;
      does = given ((g.met.D.Desk.promise _ _ _ _ turned).fits);
      on = refl;
    }))

pub returns-in-Ok-Empty-clause-turn : goal.returns-in-Ok-Empty-clause-turn
returns-in-Ok-Empty-clause-turn g c =
    rw c.in-Some.is (one (record {
      step = ask c.in-Some.id;
      turn = Empty;
      turned_so = rw (c.in-Ok-Empty.field-0-is, c.copy.ensures) at c.in-Ok-Empty.ensures.turned;
      does = empty tt;
      on = refl;
    }))

pub returns-in-Ok-Stopping-clause-turn : goal.returns-in-Ok-Stopping-clause-turn
returns-in-Ok-Stopping-clause-turn g c =
    rw c.in-Some.is (one (record {
      step = ask c.in-Some.id;
      turn = Stopping;
      turned_so = rw (c.in-Ok-Stopping.field-0-is, c.copy.ensures) at c.in-Ok-Stopping.ensures.turned;
      does = interrupted tt stopping;
      on = refl;
    }))

pub returns-in-Err-clause-turn : goal.returns-in-Err-clause-turn
returns-in-Err-clause-turn g c =
    rw (c.in-Some.is, c.without_memory.ensures) (one (record {
      step = ask c.in-Some.id;
      turn = Refused;
      turned_so = rw c.copy.ensures at c.in-Err.ensures.turned;
      does = interrupted tt refused;
      on = refl;
    }))
