use Rattle.std.proofs.lemmas.Result.{err_from_is_err_and}
use Rattle.{agent_ask.proofs.ActionsAtClient.{wrote, wrote_part}, assuan_server.proofs.Clients.said_so}
use Rattle.key_commands.proofs.inquiries.tell_limit.Goals as goal

pub returns-in_err-tell_limit : goal.returns-in_err-tell_limit
returns-in_err-tell_limit g c =
    let p = err_from_is_err_and c.from_residual.result c.from_residual.ensures.1 in
    rw (p.1, p.2) (wrote_part c.in_err-tell_limit.field-0.0 (said_so c.in_err-tell_limit.ensures))

pub returns : goal.returns
returns g c = wrote c.requires (said_so c.in_ok-tell_limit.ensures)
