use Rattle.std.specs.Prelude.{vec_len}
use Rattle.agent_serve.proofs.each.+fn-run_each-front+run_each.Given as goal

abbrev pub decreases-front : goal.decreases-front
decreases-front g l = vec_len l.jobs

abbrev pub decreases-run_each : goal.decreases-run_each
decreases-run_each g l = vec_len l.jobs
