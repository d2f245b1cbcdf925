-- Private: what the core in the slot stands for: the run with these marks.
use Rattle.std.specs.Prelude.{List}
use Rattle.{cache_policy.specs.declared.mark.Mark.Mark, agent_core.specs.{Recording.KeepsRun, Tallies.Tallied}}
use Rattle.counted_lock.specs.{declared.board.Cored.Cored, Logs.run_of_log}

-- the core stands for the run with these marks, and the tally is the run's
pub record Stands (cored : Cored) (log : List Mark) : Type 0 where
  pub keeps : KeepsRun cored.core (run_of_log log)
  pub tally_is : Tallied cored.core.limits (run_of_log log) cored.tally
