-- What a run of the agent in gpg-agent's place leaves, from the bytes of its files of options to the bytes of its answers, and its status (GnuPG manual,
-- "Agent Configuration"). How it is told of options, and the statuses, are this project's own.
use Rattle.std.specs.{Prelude.{◌≡◌, ◌≤◌, ℕ, Bool, true, false, List, [], ◌∷◌, ◌++◌, length, codes, Option, None, Some, IfSome, Result, Ok, Err, ⊤}}
use Rattle.printable.specs.Printables.{printable}
use Rattle.agent_conf.specs.{Starts.{IsStart, texts_of, told_of}, Telling.told_text, Verdicts.{Told, has_refusal}, declared.{rules.Mode.{Mode, TheVariants.{Serve, Detach, Stay, Check}}, setting.Place.{Place, TheVariants.{Machine, Home, Words}}, start.Start.Start}}
use Rattle.agent_ports.specs.{ConfFiles.{ConfState, ReadsConf}, Counts.Rose, Sides.{Side, IfCut, IsCut, sent_part, with_bytes}, HostParts.Views, declared.{conf.ConfRead.ConfRead, host.Parts.Parts, link.Sent.Sent}}
use Rattle.agent_ports.specs.declared.conf.ConfRead.TheVariants as read
use Rattle.{agent_serve.specs.Working.HostViews, session_options.specs.declared.{rules.Rules.Rules, version.Version.Version}}
use Rattle.agent_top.specs.{Daemon.RunsDaemon, Top.{exit_number, machine, in_folder, with_pid, RunsServer, UsesParts, KeepsParts, IfServer, IfDaemon}, declared.{status.Status.Status, gpg_agent.reading.{StartPlace.StartPlace, Options.Options}}}
use Rattle.agent_top.specs.declared.status.Status.TheVariants as status

-- what a read says of a file of options: its bytes, or that there is none
abbrev pub found_in : ConfRead → Option (Option (List ℕ))
found_in (read.Found file) = Some (Some file.items)
found_in read.Absent = Some None
found_in read.Failed = None
found_in read.NoMemory = None

-- the machine's file was read, and then that of the home folder, and they were these
pub record ReadsFiles (before : ConfState) (machine_text home_text : Option (List ℕ)) (after : ConfState) : Type 0 where
  pub machine_read : ConfRead
  pub between : ConfState
  pub home_read : ConfRead
  pub machine_is : ReadsConf before.machine before machine_read between
  pub machine_found : found_in machine_read ≡ Some machine_text
  pub home_is : ReadsConf between.home between home_read after
  pub home_found : found_in home_read ≡ Some home_text

-- with what status the agent ends where a file can't be read
abbrev pub EndsBy : ConfRead → Status → Type 0
EndsBy (read.Found file) ends = ⊥
EndsBy read.Absent ends = ⊥
EndsBy read.Failed ends = ends ≡ status.BadWords
EndsBy read.NoMemory ends = ends ≡ status.NoMemory

-- one of them couldn't be read
pub data ReadsNone (before : ConfState) (ends : Status) : ConfState → Type 0 where
  no_machine : {answer : ConfRead} {after : ConfState} → ReadsConf before.machine before answer after → EndsBy answer ends → ReadsNone before ends after
  no_home : {machine_read answer : ConfRead} {machine_text : Option (List ℕ)} {between after : ConfState} → ReadsConf before.machine before machine_read between
      → found_in machine_read ≡ Some machine_text → ReadsConf between.home between answer after → EndsBy answer ends → ReadsNone before ends after

-- the path of the file that a setting stands in, as a line can hold it, and what parts it from the line's number
abbrev pub file_text : StartPlace → Place → List ℕ
file_text place Machine = printable place.machine_file.now ++ codes ", "
file_text place Home = printable place.home_file.now ++ codes ", "
file_text place Words = []

-- the line by which it is told of a setting: who tells it, which file it stands in, and what becomes of it
abbrev pub told_line : StartPlace → Told → List ℕ
told_line place one = ((place.program.now ++ file_text place one.0.place) ++ told_text one) ++ 10 ∷ []

-- the bytes were written, whole or in part
pub record Puts (bytes : List ℕ) (before after : Side) : Type 0 where
  pub sent : Sent
  pub within : IfCut sent (λ count. count ≤ length bytes)
  pub written : after.bytes ≡ with_bytes before.bytes (sent_part bytes sent)
  pub failed : IsCut sent → Rose before.faults after.faults
  pub never_falls : before.faults ≤ after.faults

-- a line was written for each, one after another
pub data Tells (place : StartPlace) (before : Side) : List Told → Side → Type 0 where
  nothing : Tells place before [] before
  one_more : (told : List Told) (one : Told) {between after : Side} → Tells place before told between → Puts (told_line place one) between after
      → Tells place before (told ++ one ∷ []) after

-- some of them were told so, the first ones, and there was no memory for the next one
pub record TellsFirst (place : StartPlace) (before : Side) (told : List Told) (after : Side) : Type 0 where
  pub first : List Told
  pub next : Told
  pub others : List Told
  pub are : told ≡ first ++ next ∷ others
  pub tells : Tells place before first after

-- what is kept of a start whose settings were told
abbrev pub options_of : Start → Options
options_of start = record {
  mode = start.mode;
  rules = start.rules;
  forces_network_home = start.forces_network_home;
  calibration = start.calibration;
  measures_count = start.measures_count;
}

-- what is told of the settings of words and two files
abbrev pub told_in : StartPlace → Option (List ℕ) → Option (List ℕ) → List (List ℕ) → List Told
told_in place machine_text home_text words =
    told_of place.folders.home.items place.folders.user.now (texts_of machine_text home_text words)

-- The options are those that the words and both files mean; or a setting is refused, or memory is wanting, and the agent ends with this status. What becomes
-- of the settings was told, as far as there was memory.
pub data MeansOptions (place : StartPlace) (words : List (List ℕ)) (machine_text home_text : Option (List ℕ)) (errors : Side) : Result Options Status → Side → Type 0 where
  meant : {errors_now : Side} {start : Start} {options : Options}
      → IsStart place.folders.home.items place.folders.user.now (texts_of machine_text home_text words) start → options ≡ options_of start
      → Tells place errors (told_in place machine_text home_text words) errors_now → MeansOptions place words machine_text home_text errors (Ok options) errors_now
  refused : {errors_now : Side} → has_refusal (told_in place machine_text home_text words) ≡ true
      → Tells place errors (told_in place machine_text home_text words) errors_now → MeansOptions place words machine_text home_text errors (Err status.BadWords) errors_now
  no_memory : MeansOptions place words machine_text home_text errors (Err status.NoMemory) errors
  no_memory_to_tell : {errors_now : Side} → TellsFirst place errors (told_in place machine_text home_text words) errors_now
      → MeansOptions place words machine_text home_text errors (Err status.NoMemory) errors_now

-- The options were read: both files, and what they mean with the words; or a file couldn't be read, and then nothing is told here.
pub data ReadsOptions (place : StartPlace) (words : List (List ℕ)) (files : ConfState) (errors : Side) : Result Options Status → ConfState → Side → Type 0 where
  read_both : {machine_text home_text : Option (List ℕ)} {files_now : ConfState} {errors_now : Side} {result : Result Options Status}
      → ReadsFiles files machine_text home_text files_now → MeansOptions place words machine_text home_text errors result errors_now
      → ReadsOptions place words files errors result files_now errors_now
  unread : {ends : Status} {files_now : ConfState} → ReadsNone files ends files_now → ReadsOptions place words files errors (Err ends) files_now errors

-- a call of what sees to a start, and its answer
pub data StarterCall : Type 0 where
  Admitted : Bool → Bool → StarterCall
  Versioned : Version → StarterCall
  Counted : ℕ → ℕ → StarterCall
  Started : Rules → StarterCall

-- the calls so far, where they are known, and how many starts were turned away
pub record StarterState : Type 0 where
  pub calls : Option (List StarterCall)
  pub refusals : ℕ

-- this call was made
pub record Does (call : StarterCall) (before after : StarterState) : Type 0 where
  pub calls : IfSome before.calls (λ calls. after.calls ≡ Some (calls ++ call ∷ []))
  pub never_falls : before.refusals ≤ after.refusals

-- it was asked whether the start goes on
pub record Admits (forces answer : Bool) (before after : StarterState) : Type 0 where
  pub does : Does (Admitted forces answer) before after
  pub refused : answer ≡ false → Rose before.refusals after.refusals

-- the count of the rules, or one that was measured where nobody names one
abbrev pub CountsBy : Bool → Options → ℕ → StarterState → StarterState → Type 0
CountsBy true options count before after = Does (Counted options.calibration count) before after
CountsBy false options count before after = (count ≡ options.rules.s2k_count) × (after ≡ before)

-- these rules say the same as the others, but for the version, the count and the number of the process
pub record AreWith (version : Version) (count pid : ℕ) (meant rules : Rules) : Type 0 where
  pub default_ttl : rules.default_ttl ≡ meant.default_ttl
  pub max_ttl : rules.max_ttl ≡ meant.max_ttl
  pub default_ttl_ssh : rules.default_ttl_ssh ≡ meant.default_ttl_ssh
  pub max_ttl_ssh : rules.max_ttl_ssh ≡ meant.max_ttl_ssh
  pub pinentry_timeout : rules.pinentry_timeout ≡ meant.pinentry_timeout
  pub workers : rules.workers ≡ meant.workers
  pub pid_is : rules.pid ≡ pid
  pub version_is : rules.version ≡ version
  pub min_len : rules.min_len ≡ meant.min_len
  pub min_nonalpha : rules.min_nonalpha ≡ meant.min_nonalpha
  pub allow_preset : rules.allow_preset ≡ meant.allow_preset
  pub allow_loopback : rules.allow_loopback ≡ meant.allow_loopback
  pub extra : rules.extra ≡ meant.extra
  pub count_is : rules.s2k_count ≡ count
  pub pinentry : rules.pinentry ≡ meant.pinentry
  pub homedir : rules.homedir ≡ meant.homedir
  pub run : rules.run ≡ meant.run

-- These are the rules that the options mean with the version and the count that were found, and the start begins by them.
pub record AreFound (options : Options) (pid : ℕ) (before : StarterState) (rules : Rules) (after : StarterState) : Type 0 where
  pub versioned : StarterState
  pub counted : StarterState
  pub version : Version
  pub count : ℕ
  pub version_is : Does (Versioned version) before versioned
  pub counts : CountsBy options.measures_count options count versioned counted
  pub rules_are : AreWith version count pid options.rules rules
  pub starts : Does (Started rules) counted after

-- to tell what becomes of the options is all that is to be done
abbrev pub is_check : Mode → Bool
is_check Serve = false
is_check Detach = false
is_check Stay = false
is_check Check = true

-- what a run of an agent has to do with: its host, and as they are seen both sides of its link, the host's parts, how many calls for a link failed, the process
-- and the folder
pub record Around (H La C R K : Type 0) : Type 0 where
  pub host : H
  pub input : Side
  pub output : Side
  pub server : Option (Parts La C R K)
  pub listens : ℕ
  pub process : ℕ
  pub homedir : List ℕ

module _ {H Ls E Li La C R K T : Type 0} (views : List ℕ → HostViews Ls E Li La C R K T) where
  -- a session was served on standard input and output, with the key files of the rules' folder
  abbrev pub ServesOne : Rules → Around H La C R K → ℕ → Around H La C R K → Type 0
  ServesOne rules before number after =
      UsesParts (λ had has. RunsServer rules
      (in_folder rules (machine before.input before.output ((views rules.homedir.items).parts.readings had.clock) ((views rules.homedir.items).parts.launches had.launcher)
      ((views rules.homedir.items).parts.keys had.keys) ((views rules.homedir.items).parts.draws had.dice))) number
      (machine after.input after.output ((views rules.homedir.items).parts.readings has.clock) ((views rules.homedir.items).parts.launches has.launcher)
      ((views rules.homedir.items).parts.keys has.keys) ((views rules.homedir.items).parts.draws has.dice)))
      before.server after.server

  -- a daemon's sessions were served; nothing is read of standard input, and the host keeps its parts
  abbrev pub ServesMany : Rules → Around H La C R K → ℕ → Around H La C R K → Type 0
  ServesMany rules before number after =
      RunsDaemon (views rules.homedir.items) rules before.listens before.output number after.listens after.output
      × (after.input ≡ before.input) × KeepsParts (views rules.homedir.items).parts rules.homedir.items before.server after.server

  -- one of both, by the rules, in the rules' folder
  pub record Serves (rules : Rules) (before : Around H La C R K) (number : ℕ) (after : Around H La C R K) : Type 0 where
    pub one : IfServer rules.run (ServesOne rules before number after)
    pub many : IfDaemon rules.run (ServesMany rules before number after)
    pub homedir : after.homedir ≡ rules.homedir.items
    pub process : after.process ≡ before.process

  -- The agent read its options and served by the rules that they mean; or it served nothing, since it was only to tell what becomes of them, or the start was
  -- turned away, or there are no options. Then nothing of standard input is read, nothing is written on standard output, and the host is as it was.
  pub data RunsGpgAgent (place : StartPlace) (words : List (List ℕ)) (files : ConfState) (starter : StarterState) (errors : Side) (before : Around H La C R K)
      : ℕ → ConfState → StarterState → Side → Around H La C R K → Type 0 where
    ran : {options : Options} {rules : Rules} {number : ℕ} {files_now : ConfState} {admitted starter_now : StarterState} {errors_now : Side} {after : Around H La C R K}
        → ReadsOptions place words files errors (Ok options) files_now errors_now → is_check options.mode ≡ false
        → Admits options.forces_network_home true starter admitted → AreFound options before.process admitted rules starter_now → Serves rules before number after
        → RunsGpgAgent place words files starter errors before number files_now starter_now errors_now after
    checked : {options : Options} {files_now : ConfState} {errors_now : Side} → ReadsOptions place words files errors (Ok options) files_now errors_now
        → is_check options.mode ≡ true → RunsGpgAgent place words files starter errors before (exit_number status.Success) files_now starter errors_now before
    turned_away : {options : Options} {files_now : ConfState} {starter_now : StarterState} {errors_now : Side}
        → ReadsOptions place words files errors (Ok options) files_now errors_now → is_check options.mode ≡ false
        → Admits options.forces_network_home false starter starter_now
        → RunsGpgAgent place words files starter errors before (exit_number status.BadWords) files_now starter_now errors_now before
    no_options : {ends : Status} {files_now : ConfState} {errors_now : Side} → ReadsOptions place words files errors (Err ends) files_now errors_now
        → RunsGpgAgent place words files starter errors before (exit_number ends) files_now starter errors_now before
