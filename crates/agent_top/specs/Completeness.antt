-- Runs in which nothing failed: their statuses, and that their requests are answered. This is the project's own.
use Rattle.std.specs.{List.AllByRecursion, Prelude.{ℕ, List, ⊤}}
use Rattle.{agent_commands.specs.{Talks.Session, declared.went.SessionEnd.SessionEnd}, agent_ports.specs.{Counts.Rose, HostParts.Views, TrustFiles.TrustState, declared.session.SessionId.SessionId}}
use Rattle.{agent_serve.specs.Serves.{LinkSides, ServesOne}, agent_session.specs.Completeness.{Remembers, AnswersAll, CausedInSession, FaultlessInSession}, agent_origin.specs.{SessionExchanges.kept_at_start, declared.door.Door.Door}}
use Rattle.{counted_lock.specs.Passes.AtPass, session_options.specs.declared.rules.Rules.Rules}
use Rattle.agent_top.specs.Top.{Machine, RunsSession, RunsServer, ran, exit_number}
use Rattle.agent_top.specs.Top as top
use Rattle.agent_top.specs.declared.status.Status.TheVariants as status

-- no count of a link's two sides has risen
pub record NoLinkFault (before after : Machine) : Type 0 where
  pub input : ¬ Rose before.input.faults after.input.faults
  pub output : ¬ Rose before.output.faults after.output.faults

-- nor any other of the machine: that of its launcher, of its key files and of its random bytes
pub record NoFault (before after : Machine) : Type 0 where
  pub link : NoLinkFault before after
  pub launches : ¬ Rose before.launches.faults after.launches.faults
  pub keys : ¬ Rose before.keys.faults after.keys.faults
  pub dice : ¬ Rose before.dice.faults after.dice.faults

-- a session ended by its client's word, at the end of the input, after all bytes that it may take, or at a line that was too long
pub data SessionEndsByClient : ℕ → Type 0 where
  over : SessionEndsByClient (exit_number status.Success)
  spent : SessionEndsByClient (exit_number status.Spent)
  too_long : SessionEndsByClient (exit_number status.TooLong)

-- it did, or there was no memory for it
pub data SessionEndsWell : ℕ → Type 0 where
  by_client : {number : ℕ} → SessionEndsByClient number → SessionEndsWell number
  no_memory : SessionEndsWell (exit_number status.NoMemory)

-- What a run came to, where no count rose in it. Its client ended the session, and each request of it has its one answer, unless one of its
-- events is a want of memory. Or there was no memory for a session, and nothing was read or written.
pub data IsAnsweredRun (rules : Rules) (before : Machine) : (number : ℕ) (after : Machine) → RunsServer rules before number after → Type 0 where
  answered : {number : ℕ} {after : Machine} {run : RunsSession rules before number after} → SessionEndsByClient number
      → (AllByRecursion Remembers run.served.events → AnswersAll (FaultlessInSession rules) rules run.served.events run.end) → IsAnsweredRun rules before number after (ran run)
  no_session : IsAnsweredRun rules before (exit_number status.NoMemory) before top.no_memory

-- in each exchange of a run each error line has its cause
abbrev pub IsCausedRun : {rules : Rules} {before : Machine} {number : ℕ} {after : Machine} → RunsServer rules before number after → Type 0
IsCausedRun {rules} (ran run) = Session (CausedInSession rules) (kept_at_start rules) run.served.events run.end
IsCausedRun top.no_memory = ⊤

-- No count that a session of a daemon has to do with has risen: of neither side of its link, nor of its launcher, its key files, its random bytes and its
-- trust file.
pub record NoFaultOfOne {La C R K T : Type 0} {views : Views La C R K} {trusts : T → TrustState} {folder : List ℕ} {rules : Rules} {door : Door} {session : SessionId} {before after : LinkSides}
    {pass now : AtPass} {end : SessionEnd} (one : ServesOne views trusts folder rules door session before pass end after now) : Type 0 where
  pub input : ¬ Rose before.input.faults after.input.faults
  pub output : ¬ Rose before.output.faults after.output.faults
  pub launches : ¬ Rose (views.launches one.parts.launcher).faults one.launches_now.faults
  pub keys : ¬ Rose (views.keys one.parts.keys).faults one.keys_now.faults
  pub dice : ¬ Rose (views.draws one.parts.dice).faults one.dice_now.faults
  pub trust : ¬ Rose (trusts one.trust_file).faults one.trust_now.faults

-- a daemon was stopped, or there was no memory for it
pub data DaemonEndsWell : ℕ → Type 0 where
  stopped : DaemonEndsWell (exit_number status.Success)
  no_memory : DaemonEndsWell (exit_number status.NoMemory)

-- a load's line was written, or there was no memory for the load
pub data LoadEndsWell : ℕ → Type 0 where
  done : LoadEndsWell (exit_number status.Success)
  no_memory : LoadEndsWell (exit_number status.NoMemory)
