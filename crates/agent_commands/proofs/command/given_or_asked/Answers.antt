use Rattle.std.proofs.Common.{refl}
use Rattle.agent_ask.{specs.Session.Actions.returns, proofs.ActionsDone.action_still}
use Rattle.agent_commands.proofs.command.given_or_asked.Goals as goal

pub returns-in-Some : goal.returns-in-Some
returns-in-Some g c = rw (c.in-Some.is, c.copy.ensures) (λ held. action_still c.requires refl returns)

pub returns-in-None : goal.returns-in-None
returns-in-None g c = rw c.in-None.is c.ask_client.ensures
