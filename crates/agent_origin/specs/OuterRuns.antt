-- What a session that came in by the outer door does to its desk's run, where that is known: the session's own marks in it store nothing, clear
-- nothing, and are given nothing. This is this project's own.
use Rattle.std.specs.{Prelude.{◌≡◌, ◌≤◌, ℕ, true, List, [], ◌∷◌, ◌++◌, length, filter, Option, Some, None, ⊤}, List.AllByRecursion}
use Rattle.{agent_ports.specs.declared.session.SessionId.SessionId, cache_policy.specs.{Desks.{AtDesk, is_of}, Entries.stored, Extending.{Taken, IsExtended}, Histories.{History, with_marks}, Legal.IsLegalRun, Runs.joined}}
use Rattle.cache_policy.specs.declared.{life.Limits.Limits, mark.{Mark.Mark, MarkReply.TheVariants.Given, MarkStep.{MarkStep, TheVariants.{Seat, Close, Peek}}}, mode.Mode.Mode}

-- it takes the seat for a prompt of which nothing is kept, gives it back, or looks whether a passphrase is cached
pub data IsOuterStep : MarkStep → Type 0 where
  seats : {since : Option ℕ} → IsOuterStep (Seat None since)
  closes : {ticket : ℕ} {keep : Option (List ℕ)} → IsOuterStep (Close ticket keep)
  peeks : {id : List ℕ} {mode : Mode} → IsOuterStep (Peek id mode)

-- a mark of such a step, that was given no passphrase
pub record IsOuterMark (mark : Mark) : Type 0 where
  pub step : IsOuterStep mark.step
  pub ungiven : (number : ℕ) → mark.reply ≡ Given number → ⊥

-- The run goes on by marks of which the session's are those of its turns, and such ones. In a legal run none of them stores anything.
pub record LeavesRun (limits : Limits) (session : SessionId) (before : List History) (turns : List Taken) (after : List History) : Type 0 where
  pub extended : IsExtended limits session before turns after
  pub own : AllByRecursion IsOuterMark (filter (is_of session) extended.more)
  pub stores : IsLegalRun limits before → (earlier later : List History) (prior : History) (mark : Mark) (more : List Mark)
      → after ≡ earlier ++ with_marks prior (mark ∷ more) ∷ later → length (joined before) ≤ length (joined earlier ++ prior.marks) → is_of session mark ≡ true
      → stored limits prior mark.step mark.moment ≡ []

-- the same where the run is known
abbrev pub LeavesWhereKnown : Limits → SessionId → Option (List History) → List Taken → Option (List History) → Type 0
LeavesWhereKnown limits session None turns None = ⊤
LeavesWhereKnown limits session (Some before) turns (Some after) = LeavesRun limits session before turns after
LeavesWhereKnown limits session None turns (Some after) = ⊥
LeavesWhereKnown limits session (Some before) turns None = ⊥

abbrev pub LeavesDesk : AtDesk → List Taken → AtDesk → Type 0
LeavesDesk before turns after = LeavesWhereKnown before.limits before.session before.run turns after.run
