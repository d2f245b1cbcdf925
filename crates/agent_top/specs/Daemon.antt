-- What a run of the daemon leaves, and its status. This is the project's own.
use Rattle.std.specs.{Prelude.{◌≡◌, ◌≤◌, ◌<◌, ◌⊎◌, ◌+◌, ℕ, Bool, true, false, List, [], ◌∷◌, ◌++◌, length, sum_by, Any, codes, decimal, is_some, IfSome, Option, ⊤}, List.AllByRecursion}
use Rattle.{agent_ports.specs.{Counts.{Rose, RoseBy}, Sides.{Side, with_bytes, sent_part, IsCut}, declared.link.Sent.{Sent, TheVariants.{All, Failed}}}, assuan_text.specs.LineEnds.line_of, cache_policy.specs.declared.tally.Tally.Tally}
use Rattle.{counted_lock.specs.{Logs.is_stopped, Passes.{AtCounted, AtPass, AreNewPasses, IsClosed, HasLooked}}, session_options.specs.declared.rules.Rules.Rules, agent_serve.specs.{Pairs.ByPlace, Working.{HostViews, WorkEach, last_post}}}
use Rattle.agent_top.specs.{Cache.limits_of, Top.exit_number, declared.status.Status.Status}
use Rattle.agent_top.specs.declared.status.Status.TheVariants as status

-- what was done, in numbers
abbrev pub summary : Tally → List ℕ
summary tally =
    codes "marks " ++ decimal tally.marks ++ codes " given " ++ decimal tally.given ++ codes " empty " ++ decimal tally.empty
    ++ codes " opened " ++ decimal tally.opened ++ codes " stored " ++ decimal tally.stored ++ codes " cleared " ++ decimal tally.cleared
    ++ codes " flushed " ++ decimal tally.flushed

abbrev pub summary_line : Tally → List ℕ
summary_line tally = line_of (summary tally)

-- the status behind a summary of which this was sent
abbrev pub status_after : Bool → Sent → Status
status_after stopped (Failed sent) = status.WriteFault
status_after true All = status.Success
status_after false All = status.ListenFault

-- the first of these passes has seen that the agent is stopped
abbrev pub IsFirstStopped : List AtPass → Type 0
IsFirstStopped [] = ⊥
IsFirstStopped (pass ∷ later) = is_stopped pass.seen ≡ true

-- a call with one of these ears failed
abbrev pub AnyFailed : {E : Type 0} → (E → ℕ) → List E → Type 0
AnyFailed faults ears = Any (λ ear. 0 < faults ear) ears

-- no call with any of them failed so far
abbrev pub NoneFailed : {E : Type 0} → (E → ℕ) → List E → Type 0
NoneFailed faults ears = AllByRecursion (λ ear. faults ear ≡ 0) ears

-- each of these ears is one of its worker's listener
abbrev pub AreEarsOf : {Ls E : Type 0} → (Ls → E → Type 0) → Ls → Option Ls → List E → Type 0
AreEarsOf hears listener extra [] = ⊤
AreEarsOf hears listener extra (ear ∷ later) = ByPlace (hears listener ear) (hears (last_post listener extra).listener ear) later × AreEarsOf hears listener extra later

-- the first pass looked, and the others are as they were
abbrev pub FirstLooks : List AtPass → List AtPass → Type 0
FirstLooks (first ∷ others) (now ∷ later) = HasLooked first now × (later ≡ others)
FirstLooks _ _ = ⊥

-- the daemon goes on: its first pass has seen no stop, and no ear has failed
pub record DaemonGoesOn {E : Type 0} (faults : E → ℕ) (passes : List AtPass) (ears : List E) : Type 0 where
  pub unstopped : ¬ IsFirstStopped passes
  pub unfailed : ¬ AnyFailed faults ears

-- What the daemon does with its passes and their ears, round after round: each worker works with its own, until all have ended, and then the first pass looks. There is
-- a further round only where the daemon goes on.
pub data Rounds {E : Type 0} (faults : E → ℕ) (Work : List AtPass → List E → List AtPass → List E → Type 0) : List AtPass → List E → List AtPass → List E → Type 0 where
  one_round : {began worked now : List AtPass} {early ears : List E} → Work began early worked ears → FirstLooks worked now → Rounds faults Work began early now ears
  one_more_round : {began passes worked now : List AtPass} {early ears later : List E} → Rounds faults Work began early passes ears → DaemonGoesOn faults passes ears → Work passes ears worked later
      → FirstLooks worked now → Rounds faults Work began early now later

-- how many workers there are, each with a pass: one more where there is an extra listener
abbrev pub workers_with : Bool → ℕ → ℕ
workers_with true workers = workers + 1
workers_with false workers = workers

-- The daemon came to its end: all its passes were given back to the lock, whose run has their marks and no others, and the summary of that run
-- was sent, whole or in part. Each pass was new, and then its worker served links with it, all that it was given, with no turn between them, until it ended for one of its causes: at home, on
-- links that came in at the daemon's own listener. Where the rules ask for an extra listener, those of the last pass were served by the outer door, on links
-- that came in at that one. Each ear that was new heard of no failure, and all were given back: the host counts each call with one that failed. That was the end because the first pass had seen a stop or an ear
-- had failed; so where the agent isn't stopped a call for a link has failed. No count fell.
pub record SumsUp {Ls E Li La C R K T : Type 0} (host : HostViews Ls E Li La C R K T) (rules : Rules) (listens : ℕ) (before : Side) (number listens_now : ℕ) (after : Side) : Type 0 where
  pub counted : AtCounted
  pub limits : counted.limits ≡ limits_of rules
  pub workers : counted.passes ≡ workers_with rules.extra rules.workers
  pub passes : List AtPass
  pub all : length passes ≡ counted.passes
  pub began : List AtPass
  pub new : AreNewPasses counted 0 began
  pub listener : Ls
  pub is_home : host.is_home listener
  pub extra : Option Ls
  pub is_extra : IfSome extra host.is_extra
  pub extra_as : is_some extra ≡ rules.extra
  pub early : List E
  pub ears : List E
  pub new_ears : NoneFailed host.faults early
  pub rounds : Rounds host.faults (WorkEach host rules listener extra) began early passes ears
  pub over : IsFirstStopped passes ⊎ AnyFailed host.faults ears
  pub own_ears : AreEarsOf host.hears listener extra ears
  pub heard : RoseBy (sum_by host.faults ears) listens listens_now
  pub tally : Tally
  pub closed : IsClosed counted passes tally
  pub sent : Sent
  pub written : after.bytes ≡ with_bytes before.bytes (sent_part (summary_line tally) sent)
  pub number_is : number ≡ exit_number (status_after tally.stopped sent)
  pub cut : IsCut sent → Rose before.faults after.faults
  pub unstopped : tally.stopped ≡ false → Rose listens listens_now
  pub listens_stay : listens ≤ listens_now
  pub faults_stay : before.faults ≤ after.faults

-- That was done; or a listener was wanting, or there was no memory before the first link, and nothing was written.
pub data RunsDaemon {Ls E Li La C R K T : Type 0} (host : HostViews Ls E Li La C R K T) (rules : Rules) (listens : ℕ) (before : Side) : ℕ → ℕ → Side → Type 0 where
  summed : {number listens_now : ℕ} {after : Side} → SumsUp host rules listens before number listens_now after → RunsDaemon host rules listens before number listens_now after
  no_listener : {listens_now : ℕ} → Rose listens listens_now → RunsDaemon host rules listens before (exit_number status.ListenFault) listens_now before
  no_memory : RunsDaemon host rules listens before (exit_number status.NoMemory) listens before
