-- Passes of the counted lock: what each has seen of the one run, what a look does to it, and what holds at the end. This is the project's own.
use mathlib.Core.List.{IsPrefix}
use Rattle.std.specs.{Prelude.{◌≡◌, ◌≤◌, ◌<◌, ℕ, suc, nat_eq, List, [], ◌∷◌, ◌++◌, filter, length, ⊤}, List.AllByRecursion}
use Rattle.{atomic_table.specs.Seated.TableId, cache_policy.specs.{declared.{life.Limits.Limits, mark.Mark.Mark, tally.Tally.Tally}, Legal.IsLegalRun}, agent_core.specs.Tallies.tally_of}
use Rattle.counted_lock.specs.Logs.{run_of_log, marks_by}

-- the lock: which table it is, its lifetimes, and how many passes it has
pub record AtCounted : Type 0 where
  pub table : TableId
  pub limits : Limits
  pub passes : ℕ

-- a pass: of which table it is, the lifetimes, its number, a number above those of its sessions so far, and the marks of the run so far as
-- it has seen that
pub record AtPass : Type 0 where
  pub table : TableId
  pub limits : Limits
  pub number : ℕ
  pub sessions : ℕ
  pub seen : List Mark

-- the pass's own marks, in order
abbrev pub mine : AtPass → List Mark
mine pass = marks_by pass.number pass.seen

-- it is the same pass, whatever it has seen
pub record IsSamePass (before after : AtPass) : Type 0 where
  pub table : after.table ≡ before.table
  pub limits : after.limits ≡ before.limits
  pub number : after.number ≡ before.number
  pub sessions : after.sessions ≡ before.sessions

-- What a pass has seen is a legal run. The count of each session that made one of its own marks is below `sessions`.
pub record IsSeen (pass : AtPass) : Type 0 where
  pub legal : IsLegalRun pass.limits (run_of_log pass.seen)
  pub earlier : AllByRecursion (λ mark. mark.session.count < pass.sessions) (mine pass)

-- A look: the pass sees the marks of others behind those that it had seen.
pub record HasLooked (before after : AtPass) : Type 0 where
  pub others : List Mark
  pub foreign : marks_by before.number others ≡ []
  pub now : after ≡ record before { seen = before.seen ++ others }
  pub mine_is : mine after ≡ mine before
  pub legal : IsLegalRun after.limits (run_of_log after.seen)

-- the passes of a new lock, from this number on
abbrev pub AreNewPasses : AtCounted → ℕ → List AtPass → Type 0
AreNewPasses counted number [] = ⊤
AreNewPasses counted number (pass ∷ later) =
    (pass ≡ record { table = counted.table; limits = counted.limits; number = number; sessions = 0; seen = [] }) × AreNewPasses counted (suc number) later

-- all are passes of this table
abbrev pub AreOf : TableId → List AtPass → Type 0
AreOf table [] = ⊤
AreOf table (pass ∷ later) = (pass.table ≡ table) × AreOf table later

-- What a pass has seen is a beginning of the run, and the run's marks of the pass are its own, each once and in order.
pub record StandsIn (run : List Mark) (pass : AtPass) : Type 0 where
  pub seen : IsPrefix pass.seen run
  pub own : marks_by pass.number run ≡ mine pass

abbrev pub AllStandIn : List Mark → List AtPass → Type 0
AllStandIn run [] = ⊤
AllStandIn run (pass ∷ later) = StandsIn run pass × AllStandIn run later

-- those with this number
abbrev pub numbered : ℕ → List AtPass → List AtPass
numbered number passes = filter (λ pass. nat_eq pass.number number) passes

-- at the end: there is one legal run, in which the marks of all passes stand and no others, and the tally is the run's
pub record IsClosed (counted : AtCounted) (passes : List AtPass) (tally : Tally) : Type 0 where
  pub run : List Mark
  pub legal : IsLegalRun counted.limits (run_of_log run)
  pub all : AllStandIn run passes
  -- each number from 0 is that of exactly one of the passes
  pub numbers : (number : ℕ) → number < counted.passes → length (numbered number passes) ≡ 1
  pub within : (number : ℕ) → counted.passes ≤ number → marks_by number run ≡ []
  -- so each mark of the run is of exactly one of the passes, among whose own marks it stands
  pub each : AllByRecursion (λ mark. length (numbered mark.session.pass passes) ≡ 1) run
  pub tally_is : tally ≡ tally_of counted.limits (run_of_log run)
