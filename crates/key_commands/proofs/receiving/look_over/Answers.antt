use Rattle.std.proofs.Common.{refl}
use Rattle.{cache_policy.specs.Turns.{Given, Empty, Stopping, Refused}, agent_ask.specs.Session.ActionStates.{still, one}}
use Rattle.key_commands.specs.{KeyActions.{no_nonce, given, empty, stopping, no_memory}, Passphrases.ask_nonce}
use Rattle.key_commands.proofs.receiving.look_over.Goals as goal

pub returns-in_default-clause-turn : goal.returns-in_default-clause-turn
returns-in_default-clause-turn g c = rw c.in_default.is (still no_nonce refl)

pub returns-in-Ok-Given-clause-turn : goal.returns-in-Ok-Given-clause-turn
returns-in-Ok-Given-clause-turn g c =
    let turned = rw (c.in-Ok-Given.field-0-is, c.copy.ensures) at c.in-Ok-Given.ensures.turned in
    rw (c.in-Some.is, c.copy-in-Ok-Given.ensures, c.secret.ensures) (one (record {
      step = ask_nonce c.in-Some.nonce;
      turn = Given c.in-Ok-Given.grant;
      turned_so = turned;
      does = given ((g.met.D.Desk.promise _ _ _ _ turned).fits);
      on = refl;
    }))

pub returns-in-Ok-Empty-clause-turn : goal.returns-in-Ok-Empty-clause-turn
returns-in-Ok-Empty-clause-turn g c =
    rw c.in-Some.is (one (record {
      step = ask_nonce c.in-Some.nonce;
      turn = Empty;
      turned_so = rw (c.in-Ok-Empty.field-0-is, c.copy.ensures) at c.in-Ok-Empty.ensures.turned;
      does = empty;
      on = refl;
    }))

pub returns-in-Ok-Stopping-clause-turn : goal.returns-in-Ok-Stopping-clause-turn
returns-in-Ok-Stopping-clause-turn g c =
    rw c.in-Some.is (one (record {
      step = ask_nonce c.in-Some.nonce;
      turn = Stopping;
      turned_so = rw (c.in-Ok-Stopping.field-0-is, c.copy.ensures) at c.in-Ok-Stopping.ensures.turned;
      does = stopping;
      on = refl;
    }))

pub returns-in-Err-clause-turn : goal.returns-in-Err-clause-turn
returns-in-Err-clause-turn g c =
    rw (c.in-Some.is, c.without_memory.ensures) (one (record {
      step = ask_nonce c.in-Some.nonce;
      turn = Refused;
      turned_so = rw c.copy.ensures at c.in-Err.ensures.turned;
      does = no_memory;
      on = refl;
    }))
