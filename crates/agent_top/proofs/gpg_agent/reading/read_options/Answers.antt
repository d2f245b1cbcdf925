use Rattle.std.proofs.lemmas.Result.{err_from_is_err_and}
use Rattle.agent_top.specs.GpgAgent.{read_both, unread}
use Rattle.agent_top.proofs.gpg_agent.reading.read_options.Goals as goal

pub returns-in_err-machine : goal.returns-in_err-machine
returns-in_err-machine g c =
    let p = err_from_is_err_and c.from_residual.result c.from_residual.ensures.1 in
    rw (p.1, p.2) (unread c.in_err-machine.ensures)

pub returns : goal.returns
returns g c = read_both c.in_ok-machine.ensures (rw (c.as_deref.ensures.value, c.as_deref-2.ensures.value) at c.settle.ensures)
