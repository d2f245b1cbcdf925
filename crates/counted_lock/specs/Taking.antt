-- Private: a whole step at the core.
use Rattle.std.specs.Prelude.{◌≡◌, ℕ, List, [], ◌++◌, length}
use Rattle.{agent_ports.specs.declared.session.SessionId.SessionId, cache_policy.specs.{declared.mark.{Mark.Mark, MarkStep.MarkStep}, Runs.{moment_before, moment_of}, Tallies.one_if, Turns.{Refused, turn_of}}}
use Rattle.agent_core.specs.Known.{TakesStep}
use Rattle.counted_lock.specs.{declared.turn.Tried.Tried, Logs.{run_of_log, IsLegalLog, is_stopped, marks_by}, Plays.IsIdle, Claims.{Sat, own}, Turns.WantsMemoryAt}

-- The place saw the marks of others behind those that it had seen, and then its own.
pub record TakesTurn (session : SessionId) (reading : ℕ) (asked : MarkStep) (m : Sat) (tried : Tried) (m' : Sat) : Type 0 where
  pub others : List Mark
  pub foreign : marks_by (own m).number others ≡ []
  pub found : List Mark
  pub found_is : found ≡ (own m).seen ++ others
  pub marks : List Mark
  pub many : length marks ≡ one_if tried.made
  pub takes : TakesStep (own m).limits (run_of_log found) session (moment_of (moment_before found) reading) asked (turn_of tried.answer) (run_of_log (found ++ marks))
  pub refused : turn_of tried.answer ≡ Refused → WantsMemoryAt (own m).limits found asked (moment_of (moment_before found) reading)
  pub seen : own m' ≡ record (own m) { seen = found ++ marks }
  pub idle : IsIdle m'
  pub legal : IsLegalLog (own m).limits (found ++ marks)
  pub front_is : tried.front ≡ length (found ++ marks)
  pub stopped_is : tried.stopped ≡ is_stopped (found ++ marks)
