use Rattle.std.proofs.lemmas.Result.{err_from_is_err_and}
use Rattle.agent_commands.specs.Steps.{cached, refused}
use Rattle.agent_commands.proofs.command.cached_reply.Goals as goal

pub returns-in_err-secret-clause-tells : goal.returns-in_err-secret-clause-tells
returns-in_err-secret-clause-tells g c =
    let p = err_from_is_err_and c.from_residual.result c.from_residual.ensures.1 in
    rw (p.1, p.2) (refused c.in_err-secret.ensures.turn)

pub returns-clause-tells : goal.returns-clause-tells
returns-clause-tells g c = cached c.in_ok-secret.ensures.turn
