use Rattle.std.proofs.Common.{refl}
use Rattle.assuan_server.proofs.Saying.{said}
use Rattle.agent_commands.proofs.response.write_data.Goals as goal

pub returns : goal.returns
returns g c =
    let d = c.last_data.ensures in
    (_, record { pieces = d.0; are_data = d.1; text_is = refl }, said c.whole.ensures d.2)
