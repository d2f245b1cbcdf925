use Rattle.agent_ports.proofs.Writing.{writes_as}
use Rattle.passphrase_client.proofs.Saying.{said_parts}
use Rattle.passphrase_client.proofs.message.say.Goals as goal

pub returns : goal.returns
returns g c = (c.put_line.result, writes_as (said_parts c.args.first.now c.args.second.now c.args.third.now c.args.last.now) c.put_line.ensures)
