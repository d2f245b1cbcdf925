use Rattle.agent_ask.proofs.Clients.{told}
use Rattle.agent_ask.proofs.client.AnyCaller.note.Goals as goal

pub returns : goal.returns
returns g c = told g.C.Client.views g.C.Client.wished c.tell.result c.requires c.tell.ensures
