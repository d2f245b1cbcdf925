-- What a run of the agent leaves, and its status. The statuses are this project's own.
use Rattle.std.specs.{Prelude.{◌≡◌, ◌⊎◌, ℕ, List, [], ◌∷◌, Option, None, Some, ⊤}, List.AllByRecursion}
use Rattle.{agent_core.specs.Solos.{AtSolo, TurnsSolo}, agent_ports.specs.{HostParts.{Views, AreSettled, settled_at}, KeyFiles.KeyFiles, Readings.{Readings, HasGiven}, Sides.Side, Launches.Launches, declared.host.Parts.Parts}}
use Rattle.cache_policy.specs.{Histories.History, declared.{life.Limits.Limits, mark.MarkStep.MarkStep}, Extending.{Taken, IsExtended}, Legal.IsLegalRun, Replay.{first_history, Replays, Marked}, Turns.since_of}
use Rattle.{session_options.specs.declared.rules.{Rules.Rules, RunMode.{RunMode, TheVariants.{Server, Daemon, Load}}}, agent_ask.specs.Session.SessionEvents.turns_in, agent_commands.specs.declared.went.SessionEnd.SessionEnd}
use Rattle.{agent_commands.specs.declared.went.SessionEnd.TheVariants.{Bye, Killed, Ended, TooLong, Spent, ReadFault, WriteFault}, agent_origin.specs.{Sessions.Surroundings, PortStates.PortWorld}}
use Rattle.{agent_session.specs.Sessions.{without_trust, ServesRules}, pinentry_client.specs.{Dialogues.PinentryDoes, States.{AtPinentry, idle}}}
use Rattle.agent_top.specs.{Cache.{limits_of, session, fresh_desk}, declared.status.Status.Status}
use Rattle.agent_top.specs.declared.status.Status.TheVariants as status

-- the number that the process ends with
abbrev pub exit_number : Status → ℕ
exit_number status.Success = 0
exit_number status.NoMemory = 1
exit_number status.BadWords = 2
exit_number status.ReadFault = 3
exit_number status.WriteFault = 4
exit_number status.ListenFault = 5
exit_number status.Spent = 6
exit_number status.TooLong = 7

-- the status after a session that ended so
abbrev pub status_of : SessionEnd → Status
status_of Bye = status.Success
status_of Killed = status.Success
status_of Ended = status.Success
status_of ReadFault = status.ReadFault
status_of WriteFault = status.WriteFault
status_of Spent = status.Spent
status_of TooLong = status.TooLong

-- what a run of the agent has to do with: both sides of its link, its clock, the children of its launcher, the key files, and the random bytes
pub record Machine : Type 0 where
  pub input : Side
  pub output : Side
  pub clock : Readings
  pub launches : Launches
  pub keys : KeyFiles
  pub dice : Side

abbrev pub machine : Side → Side → Readings → Launches → KeyFiles → Side → Machine
machine input output clock launches keys dice = record { input = input; output = output; clock = clock; launches = launches; keys = keys; dice = dice }

-- the pinentry that the rules name, of which no child stands
abbrev pub no_child : Rules → Launches → AtPinentry
no_child rules launches = idle rules.pinentry.items launches

-- the machine as a session's surroundings: with this desk, and the rules' pinentry without a
-- child
abbrev pub with_desk : Rules → AtSolo → Machine → Surroundings (PortWorld TurnsSolo PinentryDoes)
with_desk rules desk around = without_trust TurnsSolo PinentryDoes around.input around.output desk (no_child rules around.launches) around.keys around.dice

-- The run is the replay of the turns that made a mark, none of which waited: no step has a since. Each turn took one reading of the clock, and
-- nothing else did.
pub record ReplaysTurns (limits : Limits) (before : Readings) (turns : List Taken) (run : List History) (after : Readings) : Type 0 where
  pub readings : List ℕ
  pub given : HasGiven before readings after
  pub steps : List MarkStep
  pub read : List ℕ
  pub marked : Marked turns readings steps read
  pub firsts : AllByRecursion (λ step. since_of step ≡ None) steps
  pub replays : Replays limits session steps read run

-- A session was served, and the number is that of its end. The cache began empty. Its run is legal, and has the marks of the session's
-- turns in their order, each at the moment that the clock's reading says. Its prompts were those of the rules' pinentry, and no
-- ticket and no child is left. Its events lead the key files and the random bytes from what they were to what they are.
pub record RunsSession (rules : Rules) (before : Machine) (number : ℕ) (after : Machine) : Type 0 where
  pub end : SessionEnd
  pub number_is : number ≡ exit_number (status_of end)
  pub desk : AtSolo
  pub free : desk.out ≡ None
  pub clock : desk.clock ≡ after.clock
  pub served : ServesRules TurnsSolo PinentryDoes rules (with_desk rules (fresh_desk (limits_of rules) before.clock) before) end (with_desk rules desk after)
  pub extended : IsExtended (limits_of rules) session (first_history ∷ []) (turns_in served.events) desk.run
  pub legal : IsLegalRun (limits_of rules) desk.run
  pub replays : ReplaysTurns (limits_of rules) before.clock (turns_in served.events) desk.run after.clock

-- That was done, or there was no memory before the first line: then nothing is read or written.
pub data RunsServer (rules : Rules) (before : Machine) : ℕ → Machine → Type 0 where
  ran : {number : ℕ} {after : Machine} → RunsSession rules before number after → RunsServer rules before number after
  no_memory : RunsServer rules before (exit_number status.NoMemory) before

-- the machine with its key files in the rules' folder
abbrev pub in_folder : Rules → Machine → Machine
in_folder rules around = record around { keys = settled_at rules.homedir.items around.keys }

-- That was done with the key files of the rules' folder, or there was no memory to read the words: then nothing is read or written, and no folder settled.
pub data RunsInFolder (rules : Rules) (before : Machine) : ℕ → Machine → Type 0 where
  settled : {number : ℕ} {after : Machine} → RunsServer rules (in_folder rules before) number after → RunsInFolder rules before number after
  unread : RunsInFolder rules before (exit_number status.NoMemory) before

-- the rules with the number of the process
abbrev pub with_pid : ℕ → Rules → Rules
with_pid pid rules = record rules { pid = pid }

-- The host's parts were taken and given back, and this became of them.
pub record UsesParts {La C R K : Type 0} (GoesOn : Parts La C R K → Parts La C R K → Type 0) (before after : Option (Parts La C R K)) : Type 0 where
  pub had : Parts La C R K
  pub has : Parts La C R K
  pub had_is : before ≡ Some had
  pub has_is : after ≡ Some has
  pub goes_on : GoesOn had has

-- the host keeps its parts, settled at the folder of this path, unless nothing was done to them
abbrev pub KeepsParts : {La C R K : Type 0} → Views La C R K → List ℕ → Option (Parts La C R K) → Option (Parts La C R K) → Type 0
KeepsParts views path before after = (after ≡ before) ⊎ AreSettled views path before after

-- there was no memory for the words or the session
abbrev pub HadNoMemory : ℕ → Type 0
HadNoMemory number = number ≡ exit_number status.NoMemory

-- the words were refused, unless there was no memory to read them
abbrev pub IsRefusal : ℕ → Type 0
IsRefusal number = (number ≡ exit_number status.BadWords) ⊎ (number ≡ exit_number status.NoMemory)

-- what is said where a session on standard input and output is asked for
abbrev pub IfServer : RunMode → Type 0 → Type 0
IfServer Server P = P
IfServer Daemon P = ⊤
IfServer (Load number) P = ⊤

-- what is said where a daemon is asked for
abbrev pub IfDaemon : RunMode → Type 0 → Type 0
IfDaemon Server P = ⊤
IfDaemon Daemon P = P
IfDaemon (Load number) P = ⊤

-- what is said where a load is asked for
abbrev pub IfLoad : RunMode → (ℕ → Type 0) → Type 0
IfLoad Server P = ⊤
IfLoad Daemon P = ⊤
IfLoad (Load number) P = P number
