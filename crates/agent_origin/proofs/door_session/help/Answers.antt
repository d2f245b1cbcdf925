use Rattle.agent_origin.specs.Serving.{says}
use Rattle.agent_origin.proofs.door_session.help.Goals as goal

pub returns : goal.returns
returns g c = rw c.unless_cut.ensures (says c.write_help.result c.write_help.ensures)
