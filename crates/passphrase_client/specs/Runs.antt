-- A run of the command: from its words to what it wrote, with its status.
use Rattle.std.specs.Prelude.{◌≡◌, ◌≤◌, ◌∷◌, ℕ, Bool, true, false, List, [], Option, Some, None, Result, Ok, Err}
use Rattle.{agent_ports.specs.{Counts.Rose, Sides.Side, Writing.Writes, declared.link.WriteFault.WriteFault}, session_options.specs.OptionValues.EnvWords, passphrase_talk.specs.{Contacts.{Contacts, then_sought}, Visits.Visits}}
use Rattle.{passphrase_talk.specs.declared.{connector.{Agents.Agents, Unmet.Unmet, Waits.TheVariants.Answer}, told.Told.Told}, passphrase_words.specs.{Refusals.{Refuses, askpass_fault}, Requests.{line_of_request, Clears as ClearsRequest}}}
use Rattle.{passphrase_words.specs.{Tasks.{TaskValue, WantedValue, WantsHelp, WantsVersion, WantsTask}, Words.{Reads, ReadsAskpass}, declared.{task.Act.Act, words.TheConstants.USAGE}}, assuan_text.specs.LineEnds.line_of}
use Rattle.passphrase_client.specs.{Endings.status_of, Inputs.TakesSecret, Messages.{message_of, said}, Steps.{steps_of, place_of, waits_of, request_of}, Verdicts.{verdict, end_of, failure, empties, emptied_verdict, stops_at, first_of}}
use Rattle.passphrase_client.specs.declared.{course.Course.{Course, TheVariants.{Gives, Ends}}, ending.{Ending.Ending, Lifetime.Lifetime}, input.InputFault.InputFault, run.TheConstants.VERSION, steps.Step.{Step, TheVariants.Forget}, verdict.Verdict.Verdict}
use Rattle.passphrase_client.specs.declared.ending.Ending.TheVariants as ending
use Rattle.passphrase_client.specs.declared.ending.Lifetime.TheVariants as lifetime
use Rattle.passphrase_client.specs.declared.verdict.Verdict.TheVariants as verdict_is
use Rattle.passphrase_talk.specs.declared.connector.Unmet.TheVariants as unmet
use Rattle.passphrase_words.specs.declared.task.Act.TheVariants as act

-- what a step's reply makes of the run: where it is an empty passphrase that would have been given, the agent is asked to forget it
abbrev pub Settles : Bool → TaskValue → EnvWords → Step → List ℕ → Told → Verdict → Contacts → Contacts → Type 0
Settles false task terminal step held told what before after = (what ≡ verdict task.act held step told) × (after ≡ before)
Settles true task terminal step held told what before after =
    (cleared : Told) × Visits (place_of step) Answer (line_of_request task ClearsRequest) terminal cleared before after
    × (what ≡ emptied_verdict step (failure task.act (Forget (place_of step)) cleared))

-- A step: its line is sent in a contact of its own, whose reply this is, and this comes of it.
pub record DoesStep (task : TaskValue) (terminal : EnvWords) (step : Step) (held : List ℕ) (told : Told) (what : Verdict) (before after : Contacts) : Type 0 where
  pub between : Contacts
  pub visits : Visits (place_of step) (waits_of step) (line_of_request task (request_of step task.act held)) terminal told before between
  pub settles : Settles (empties task.act step told) task terminal step held told what between after

-- a step that was taken, and what was told of its request
pub record Reply : Type 0 where
  pub to : Step
  pub told : Told

-- These steps are taken in order, with these replies, up to the one whose reply is the run's end, where this passphrase is held and this failure noted.
pub data ComesTo (task : TaskValue) (terminal : EnvWords) : List Step → List ℕ → Option Ending → Contacts → List Reply → Course → Contacts → Type 0 where
  behind_all : {held : List ℕ} {noted : Option Ending} {contacts : Contacts} → ComesTo task terminal [] held noted contacts [] (Ends (end_of task.act noted)) contacts
  stops : {step : Step} {steps : List Step} {held : List ℕ} {noted : Option Ending} {ending : Ending} {contacts : Contacts} → stops_at step noted ≡ Some ending
      → ComesTo task terminal (step ∷ steps) held noted contacts [] (Ends ending) contacts
  gives : {step : Step} {steps : List Step} {held secret : List ℕ} {lasts : Lifetime} {noted : Option Ending} {told : Told} {before after : Contacts} → stops_at step noted ≡ None
      → DoesStep task terminal step held told (verdict_is.Gives secret lasts) before after
      → ComesTo task terminal (step ∷ steps) held noted before (record { to = step; told = told } ∷ []) (Gives secret lasts) after
  ends : {step : Step} {steps : List Step} {held : List ℕ} {noted : Option Ending} {ending : Ending} {told : Told} {before after : Contacts} → stops_at step noted ≡ None
      → DoesStep task terminal step held told (verdict_is.Ends ending) before after
      → ComesTo task terminal (step ∷ steps) held noted before (record { to = step; told = told } ∷ []) (Ends ending) after
  goes_on : {step : Step} {steps : List Step} {held : List ℕ} {noted : Option Ending} {told : Told} {others : List Reply} {before between after : Contacts} {course : Course}
      → stops_at step noted ≡ None → DoesStep task terminal step held told verdict_is.GoesOn before between
      → ComesTo task terminal steps held noted between others course after
      → ComesTo task terminal (step ∷ steps) held noted before (record { to = step; told = told } ∷ others) course after
  notes : {step : Step} {steps : List Step} {held : List ℕ} {noted : Option Ending} {ending : Ending} {told : Told} {others : List Reply} {before between after : Contacts} {course : Course}
      → stops_at step noted ≡ None → DoesStep task terminal step held told (verdict_is.Notes ending) before between
      → ComesTo task terminal steps held (first_of noted ending) between others course after
      → ComesTo task terminal (step ∷ steps) held noted before (record { to = step; told = told } ∷ others) course after
  holds : {step : Step} {steps : List Step} {held secret : List ℕ} {noted : Option Ending} {told : Told} {others : List Reply} {before between after : Contacts} {course : Course}
      → stops_at step noted ≡ None → DoesStep task terminal step held told (verdict_is.Holds secret) before between
      → ComesTo task terminal steps secret noted between others course after
      → ComesTo task terminal (step ∷ steps) held noted before (record { to = step; told = told } ∷ others) course after

-- what a run works on: the contacts with agents, and the three standard streams
pub record World : Type 0 where
  pub contacts : Contacts
  pub input : Side
  pub output : Side
  pub errors : Side

-- what is held as the first step comes: the passphrase on standard input, where it is to be stored, and else nothing
abbrev pub TakesHeld : Act → Side → Result (List ℕ) InputFault → Side → Type 0
TakesHeld act.Store before held after = TakesSecret before held after
TakesHeld _ before held after = (held ≡ Ok []) × (after ≡ before)

-- what was sought and found, where this came of it
abbrev pub SoughtBy : TaskValue → Result Agents Unmet → Contacts → Contacts → Type 0
SoughtBy task (Ok agents) before after = after.sought ≡ then_sought before.sought task.folder task.seconds agents
SoughtBy task (Err why) before after = after.sought ≡ before.sought

-- The agents of the task's folder were looked for, with its seconds for an answer. No connection is made by that that contacts know of.
pub record Finds (task : TaskValue) (found : Result Agents Unmet) (before after : Contacts) : Type 0 where
  pub sought : SoughtBy task found before after
  pub coming : after.coming ≡ before.coming
  pub opened : after.opened ≡ before.opened
  pub met : after.met ≡ before.met
  pub launches : after.launches ≡ before.launches
  pub failed : found ≡ Err unmet.Fault → Rose before.faults after.faults
  pub faults : before.faults ≤ after.faults
  pub no_memory : found ≡ Err unmet.NoMemory → Rose before.shortages after.shortages
  pub shortages : before.shortages ≤ after.shortages

-- the steps of a task were taken at the agents that were found
pub record TakesSteps (task : TaskValue) (terminal : EnvWords) (before : World) (course : Course) (input : Side) (after : Contacts) : Type 0 where
  pub held : List ℕ
  pub agents : Agents
  pub between : Contacts
  pub replies : List Reply
  pub holds : TakesHeld task.act before.input (Ok held) input
  pub finds : Finds task (Ok agents) before.contacts between
  pub comes : ComesTo task terminal (steps_of task.act agents) held None between replies course after

-- the line of a passphrase, or where no line feed is wanted its bytes
abbrev pub given_text : Act → List ℕ → List ℕ
given_text (act.Give repeats quiet ttl false) secret = secret
given_text _ secret = line_of secret

-- no agent was found
abbrev pub ending_of_unmet : Unmet → Ending
ending_of_unmet unmet.NoMemory = ending.NoMemory
ending_of_unmet unmet.Fault = ending.NoAgent

-- what the write of the passphrase makes of the run
abbrev pub ending_of : Lifetime → Result (Unit {0}) WriteFault → Ending
ending_of lasts (Ok done) = ending.Given lasts
ending_of lasts (Err fault) = ending.Unwritten

-- What a task came to. The passphrase is written where the steps came to one, and nothing in any other end.
pub data GoesTo (task : TaskValue) (terminal : EnvWords) (before after : World) : Ending → Type 0 where
  refused_input : {fault : InputFault} → TakesHeld task.act before.input (Err fault) after.input → after.contacts ≡ before.contacts → after.output ≡ before.output
      → GoesTo task terminal before after (ending.Input fault)
  not_found : (held : List ℕ) {why : Unmet} → TakesHeld task.act before.input (Ok held) after.input → Finds task (Err why) before.contacts after.contacts → after.output ≡ before.output
      → GoesTo task terminal before after (ending_of_unmet why)
  ended : {ending : Ending} → TakesSteps task terminal before (Ends ending) after.input after.contacts → after.output ≡ before.output
      → GoesTo task terminal before after ending
  given : {secret : List ℕ} {lasts : Lifetime} {written : Result (Unit {0}) WriteFault} → TakesSteps task terminal before (Gives secret lasts) after.input after.contacts
      → Writes (given_text task.act secret) before.output written after.output → GoesTo task terminal before after (ending_of lasts written)

-- A text was written, whole or in part. That it couldn't be written whole changes nothing else, where it says what is wrong.
abbrev pub Says : List ℕ → Side → Side → Type 0
Says text before after = (written : Result (Unit {0}) WriteFault) × Writes text before written after

-- a run of a task, whose end is said on the error stream, with the reason that the connector has for its last failure
pub record HasRun (task : TaskValue) (terminal : EnvWords) (reason : List ℕ) (before after : World) (status : ℕ) : Type 0 where
  pub ending : Ending
  pub goes : GoesTo task terminal before after ending
  pub says : Says (message_of ending task.id reason) before.errors after.errors
  pub status_is : status ≡ status_of ending

-- a text that was asked for was written to the output: the lines of use, or the version
pub record HasTold (text : List ℕ) (before after : World) (status : ℕ) : Type 0 where
  pub written : Result (Unit {0}) WriteFault
  pub writes : Writes text before.output written after.output
  pub contacts : after.contacts ≡ before.contacts
  pub input : after.input ≡ before.input
  pub says : Says (message_of (ending_of lifetime.AsWanted written) [] []) before.errors after.errors
  pub status_is : status ≡ status_of (ending_of lifetime.AsWanted written)

-- the words were refused, and nothing happened but that the error stream says this of them
pub record HasRefused (text : List ℕ) (before after : World) (status : ℕ) : Type 0 where
  pub contacts : after.contacts ≡ before.contacts
  pub input : after.input ≡ before.input
  pub output : after.output ≡ before.output
  pub says : Says (said text) before.errors after.errors
  pub status_is : status ≡ 2

-- A run of a command line, by what it is read as. It is refused where it is read as nothing, by the first rule that it breaks.
pub data RunsBy (words : List (List ℕ)) (terminal : EnvWords) (reason : List ℕ) (before after : World) (status : ℕ) : Type 0 where
  refused : {text : List ℕ} → ((wanted : WantedValue) → Reads words wanted → ⊥) → Refuses words text → HasRefused text before after status
      → RunsBy words terminal reason before after status
  helps : Reads words WantsHelp → HasTold USAGE.now before after status → RunsBy words terminal reason before after status
  tells_version : Reads words WantsVersion → HasTold VERSION.now before after status → RunsBy words terminal reason before after status
  runs : {task : TaskValue} → Reads words (WantsTask task) → HasRun task terminal reason before after status → RunsBy words terminal reason before after status

-- a run of the words of an askpass
pub data RunsAskpass (words : List (List ℕ)) (terminal : EnvWords) (reason : List ℕ) (before after : World) (status : ℕ) : Type 0 where
  refused_askpass : {text : List ℕ} → ((task : TaskValue) → ReadsAskpass words task → ⊥) → askpass_fault words ≡ Some text → HasRefused text before after status
      → RunsAskpass words terminal reason before after status
  runs_askpass : {task : TaskValue} → ReadsAskpass words task → HasRun task terminal reason before after status → RunsAskpass words terminal reason before after status
