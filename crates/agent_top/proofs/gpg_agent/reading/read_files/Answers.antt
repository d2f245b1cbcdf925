use Rattle.std.proofs.lemmas.Result.{err_from_is_err_and}
use Rattle.agent_top.specs.GpgAgent.{no_machine, no_home}
use Rattle.agent_top.proofs.gpg_agent.reading.read_files.Goals as goal

pub returns-in_err-machine : goal.returns-in_err-machine
returns-in_err-machine g c =
    let p = err_from_is_err_and c.from_residual.result c.from_residual.ensures.1 in
    rw (p.1, p.2) (no_machine c.read_machine.ensures c.in_err-machine.ensures)

pub returns-in_err-home : goal.returns-in_err-home
returns-in_err-home g c =
    let p = err_from_is_err_and c.from_residual-in_err-home.result c.from_residual-in_err-home.ensures.1 in
    rw (p.1, p.2) (no_home c.read_machine.ensures c.in_ok-machine.ensures c.read_home.ensures c.in_err-home.ensures)
