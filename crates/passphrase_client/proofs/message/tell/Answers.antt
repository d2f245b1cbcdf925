use Rattle.std.proofs.Common.{Ok}
use Rattle.agent_ports.proofs.Writing.{writes_nothing}
use Rattle.passphrase_client.proofs.message.tell.Goals as goal

pub returns-in-Some : goal.returns-in-Some
returns-in-Some g c = rw c.in-Some.ensures c.say.ensures

pub returns-in_default : goal.returns-in_default
returns-in_default g c = rw c.in_default.ensures (Ok tt, writes_nothing (g.E.Sink.output c.args.errors.now))
