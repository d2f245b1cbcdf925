use Rattle.std.proofs.Common.{refl}
use Rattle.agent_ask.{specs.Session.Actions.refuses, proofs.ActionsDone.action_still}
use Rattle.agent_commands.proofs.passphrase.uncached.Goals as goal

pub returns-in-Cancel-clause-comes : goal.returns-in-Cancel-clause-comes
returns-in-Cancel-clause-comes g c = rw c.in-Cancel.is (action_still c.requires.open refl refuses)

pub returns-in-Error-clause-comes : goal.returns-in-Error-clause-comes
returns-in-Error-clause-comes g c = rw c.in-Error.is (action_still c.requires.open refl refuses)

pub returns-in-Loopback-clause-comes : goal.returns-in-Loopback-clause-comes
returns-in-Loopback-clause-comes g c = rw c.in-Loopback.is c.by_client.ensures.comes
