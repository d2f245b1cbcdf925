use Rattle.agent_ask.proofs.ActionsDone.{cache_changed}
use Rattle.key_commands.proofs.turns.keep_pass.Goals as goal

pub returns-clause-turn : goal.returns-clause-turn
returns-clause-turn g c = cache_changed (rw (c.key_id.ensures, c.copy.ensures) at c.change.ensures.turn)
