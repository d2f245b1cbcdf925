use Rattle.agent_ask.proofs.ActionsDone.{cache_changed}
use Rattle.key_commands.proofs.turns.keep_by_nonce.Goals as goal

pub returns-clause-turn : goal.returns-clause-turn
returns-clause-turn g c = cache_changed (rw (c.nonce_id.ensures, c.copy.ensures) at c.change.ensures.turn)
