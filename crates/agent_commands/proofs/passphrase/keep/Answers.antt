use Rattle.std.proofs.Common.{refl}
use Rattle.agent_ask.{specs.Session.{Actions.returns, ActionStates.{still, one}}, proofs.ActionsDone.cache_changed}
use Rattle.agent_commands.proofs.passphrase.keep.Goals as goal

pub returns-in_default-clause-turn : goal.returns-in_default-clause-turn
returns-in_default-clause-turn g c = rw c.in_default.is (still returns refl)

pub returns-clause-turn : goal.returns-clause-turn
returns-clause-turn g c = rw c.in-Some.is (one (cache_changed (rw (c.copy.ensures, c.copy-2.ensures) at c.change.ensures.turn)))
