-- Private: what a step of the core adds to the run.
use Rattle.std.specs.{Prelude.{◌≡◌, ◌↔◌, ℕ, ◌+◌, IsTrue, List, ◌∷◌, [], ◌++◌, length, Option, None, unwrap_or}, Option.is_some}
use Rattle.cache_policy.specs.{declared.{life.Limits.Limits, mark.{Mark.Mark, MarkReply.MarkReply, MarkStep.MarkStep}, tally.Tally.Tally}, Entries.stored, Histories.History, Runs.{last_base, moment_before, moment_of}, Seat.{is_open, seat}}
use Rattle.{cache_policy.specs.{Tallies.{is_given, is_empty, is_clear, is_flush, one_if}, Turns.{Turn, Refused}}, agent_core.specs.{Cores.{AtCore, IsStep}, Known.TakesStep, Recording.KeepsRun, Tallies.Tallied}}
use Rattle.counted_lock.specs.{declared.trial.Trial.Trial, Logs.run_of_log, Plays.{saw, Works}, Claims.{Sat, own}, Standing.Stands, Turns.WantsMemoryAt}

-- what was noted of a step before the core took it is so
pub record IsTrial (before : AtCore) (asked : MarkStep) (trial : Trial) : Type 0 where
  pub spent_is : IsTrue trial.spent ↔ (before.base + before.count ≡ last_base)
  pub stores_is : (next : History) (moment : ℕ) → seat next ≡ before.held → length (stored before.limits next asked moment) ≡ one_if trial.stores
  pub clears_is : trial.clears ≡ is_clear asked
  pub flushes_is : trial.flushes ≡ is_flush asked

-- the tally with the mark of the step that was tried, with this reply
abbrev pub tally_with : Trial → MarkReply → Tally
tally_with trial reply = record {
  marks = trial.tally.marks + 1;
  given = trial.tally.given + one_if (is_given reply);
  empty = trial.tally.empty + one_if (is_empty reply);
  opened = trial.tally.opened + one_if (is_open reply);
  stored = trial.tally.stored + one_if trial.stores;
  cleared = trial.tally.cleared + one_if trial.clears;
  flushed = trial.tally.flushed + one_if trial.flushes;
  stopped = trial.tally.stopped;
}

-- the moment of a step that is tried on the run with these marks
abbrev pub moment_on : List Mark → Trial → ℕ
moment_on log trial = moment_of (moment_before log) trial.reading

-- the core took a step on the run with these marks
pub record Stepped (limits : Limits) (log : List Mark) (asked : MarkStep) (turn : Turn) (trial : Trial) (core : AtCore) : Type 0 where
  pub before : AtCore
  pub keeps : KeepsRun before (run_of_log log)
  pub tally_is : Tallied before.limits (run_of_log log) trial.tally
  pub step : IsStep before keeps.last trial.session (moment_on log trial) asked turn core
  pub before_is : before.limits ≡ limits
  pub limits_is : core.limits ≡ limits
  pub trial_is : IsTrial before asked trial

-- The place that works has added these marks, for which the core stands: one where there is another tally then, and else none.
pub record Settles (trial : Trial) (asked : MarkStep) (turn : Turn) (core : AtCore) (made : Option Tally) (m m' : Sat) : Type 0 where
  pub marks : List Mark
  pub many : length marks ≡ one_if (is_some made)
  pub takes : TakesStep (own m).limits (run_of_log (own m).seen) trial.session (moment_on (own m).seen trial) asked turn (run_of_log ((own m).seen ++ marks))
  pub refused : turn ≡ Refused → WantsMemoryAt (own m).limits (own m).seen asked (moment_on (own m).seen trial)
  pub seen : own m' ≡ saw (own m) marks
  pub works : Works m' ((0, None) ∷ [])
  pub stands : Stands (record { core = core; tally = unwrap_or made trial.tally }) (own m').seen
