use Rattle.std.proofs.Common.{Ok, Err}
use Rattle.agent_ask.proofs.Clients.{wished}
use Rattle.agent_ask.proofs.client.AnyCaller.secret.Goals as goal

pub returns-in-Ok : goal.returns-in-Ok
returns-in-Ok g c = wished g.C.Client.views g.C.Client.wished (Ok c.in-Ok.secret) c.requires c.in-Ok.ensures (g.met.C.Client.promise _ _ _ _ c.requires c.in-Ok.ensures)

pub returns-in-Err : goal.returns-in-Err
returns-in-Err g c = rw c.into.ensures (wished g.C.Client.views g.C.Client.wished (Err c.in-Err.why) c.requires c.in-Err.ensures (g.met.C.Client.promise _ _ _ _ c.requires c.in-Err.ensures))
