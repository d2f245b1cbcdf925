use Rattle.std.proofs.Common.{◌∙◌, ap}
use Rattle.agent_top.specs.{Load.{wrote, no_memory}, Top.exit_number}
use Rattle.agent_top.proofs.load.run_load.Goals as goal

pub returns-in-Ok-clause-runs : goal.returns-in-Ok-clause-runs
returns-in-Ok-clause-runs g c =
    wrote c.in-Ok.tally c.write_line.result c.in-Ok.ensures c.write_line.ensures.written (c.number.ensures ∙ ap exit_number c.load_status.ensures) c.write_line.ensures.cut

pub returns-in-Err-clause-runs : goal.returns-in-Err-clause-runs
returns-in-Err-clause-runs g c = rw c.number-in-Err.ensures no_memory
