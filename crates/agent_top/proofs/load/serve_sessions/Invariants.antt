use Rattle.std.proofs.Common.{◌≡◌, None}
use Rattle.agent_top.specs.Load.{KeepsRun}
use Rattle.agent_top.proofs.load.serve_sessions.Given as goal

-- so far the run is kept, and no ticket is out
abbrev pub invariant-loop-session : goal.invariant-loop-session
invariant-loop-session g l = record { free : l.desk.out ≡ None; keeps : KeepsRun l.fn.desk l.desk }
