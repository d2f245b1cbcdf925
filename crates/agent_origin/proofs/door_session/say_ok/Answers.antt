use Rattle.agent_origin.specs.Serving.{says}
use Rattle.assuan_server.proofs.Saying.{said}
use Rattle.agent_origin.proofs.door_session.say_ok.Goals as goal

pub returns : goal.returns
returns g c = rw c.unless_cut.ensures (says c.whole.result (said c.whole.ensures c.ok.ensures))
