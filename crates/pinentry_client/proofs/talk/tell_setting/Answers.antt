use Rattle.pinentry_client.specs.Talking.{unsent, sent}
use Rattle.pinentry_client.proofs.talk.tell_setting.Goals as goal

pub returns-in-Some-clause-tells : goal.returns-in-Some-clause-tells
returns-in-Some-clause-tells g c = rw c.pid_after.ensures (sent c.in-Some.line c.command.result c.in-Some.ensures c.command.ensures)

pub returns-in-None-clause-tells : goal.returns-in-None-clause-tells
returns-in-None-clause-tells g c = unsent c.in-None.ensures
