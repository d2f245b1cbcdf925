-- Steps that want the prompt, as they are tried again and again. This is the project's own.
use Rattle.std.specs.Prelude.{Option, None}
use Rattle.cache_policy.specs.declared.{mark.Way.TheVariants.Prompt, step.Step.{Step, TheVariants.{Ask, Seat, Close, Put, Clear, Flush, Peek, Stop}}, wait.Wait.Wait}
use Rattle.agent_core.specs.declared.opening.Opening.{Opening}
use Rattle.agent_core.specs.declared.opening.Opening.TheVariants as opening

-- the step for one try, with the wait that is handed in
abbrev pub opening_step : Opening → Option Wait → Step
opening_step (opening.Ask id mode) wait = Ask id mode Prompt wait
opening_step (opening.Seat under) wait = Seat under wait

-- the step as it is first tried
abbrev pub without_wait : Step → Step
without_wait (Ask id mode way wait) = Ask id mode way None
without_wait (Seat under wait) = Seat under None
without_wait (Close ticket keep) = Close ticket keep
without_wait (Put id mode life secret) = Put id mode life secret
without_wait (Clear id mode) = Clear id mode
without_wait Flush = Flush
without_wait (Peek id mode) = Peek id mode
without_wait Stop = Stop
