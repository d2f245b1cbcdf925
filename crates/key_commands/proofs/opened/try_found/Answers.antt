use Rattle.std.proofs.Common.{refl}
use Rattle.agent_ask.specs.Session.Actions.{returns}
use Rattle.key_commands.specs.Steps.{nothing}
use Rattle.key_commands.proofs.opened.try_found.Goals as goal

pub returns-in-None-clause-tries : goal.returns-in-None-clause-tries
returns-in-None-clause-tries c = rw c.in-None.is (nothing (λ held. returns) refl)
