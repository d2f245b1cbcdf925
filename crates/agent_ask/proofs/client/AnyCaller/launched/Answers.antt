use Rattle.std.proofs.Common.{Ok, Err}
use Rattle.agent_ask.proofs.Clients.{told}
use Rattle.agent_ask.proofs.client.AnyCaller.launched.Goals as goal

pub returns-in-Ok : goal.returns-in-Ok
returns-in-Ok g c = told g.C.Client.views g.C.Client.wished (Ok tt) c.requires c.in-Ok.ensures

pub returns-in-Err : goal.returns-in-Err
returns-in-Err g c = rw c.into.ensures (told g.C.Client.views g.C.Client.wished (Err c.in-Err.why) c.requires c.in-Err.ensures)
