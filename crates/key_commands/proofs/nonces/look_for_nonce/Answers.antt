use Rattle.std.proofs.Common.{refl}
use Rattle.agent_ask.{specs.Session.{Actions.returns, ActionStates.{still, one}}, proofs.ActionsDone.cache_asked}
use Rattle.key_commands.proofs.nonces.look_for_nonce.Goals as goal

pub returns-in-None-clause-turn : goal.returns-in-None-clause-turn
returns-in-None-clause-turn g c = rw c.in-None.is (still returns refl)

pub returns-in-Some-clause-turn : goal.returns-in-Some-clause-turn
returns-in-Some-clause-turn g c = rw (c.in-Some.is, ← c.copy.ensures) (one (cache_asked c.ask_cache.ensures.turn))
