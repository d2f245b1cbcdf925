-- A run that begins without a mark and at base 0 is known by its marks alone: its log. This is the project's own.
use Rattle.std.specs.{Prelude.{◌≡◌, ℕ, ◌<◌, nat_eq, List, [], ◌∷◌, filter, Bool, false, Some}, Option.option_map_or}
use Rattle.cache_policy.specs.{declared.{life.Limits.Limits, mark.Mark.Mark}, Histories.History, Legal.IsLegalRun, Replay.first_history, Runs.{last_base, run_with_mark, last_history}, Seat.stopped}

-- a run that goes on by these marks
abbrev pub run_from : List History → List Mark → List History
run_from run [] = run
run_from run (mark ∷ later) = run_from (run_with_mark run mark) later

-- the run with these marks
abbrev pub run_of_log : List Mark → List History
run_of_log log = run_from (first_history ∷ []) log

-- a legal run with these marks, whose last history isn't past the last base
pub record IsLegalLog (limits : Limits) (log : List Mark) : Type 0 where
  pub legal : IsLegalRun limits (run_of_log log)
  pub last : History
  pub last_is : last_history (run_of_log log) ≡ Some last
  pub below : last.base < last_base

-- the run with these marks is stopped
abbrev pub is_stopped : List Mark → Bool
is_stopped log = option_map_or stopped (last_history (run_of_log log)) false

-- the marks of the sessions of one pass, in order
abbrev pub marks_by : ℕ → List Mark → List Mark
marks_by number log = filter (λ mark. nat_eq mark.session.pass number) log
