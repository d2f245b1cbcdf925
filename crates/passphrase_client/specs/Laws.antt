-- What holds of every run.
use Rattle.std.specs.{Prelude.{◌≡◌, ◌&&◌, ◌%◌, ◌^◌, ◌==◌, ◌++◌, ◌∷◌, [], not, ℕ, ⊤, Bool, true, false, List, Contains, Option, None, Some, Err}, List.{list_all, list_any}}
use Rattle.{agent_ports.specs.Sides.with_bytes, passphrase_talk.specs.{Contacts.Contacts, Visits.Visits, declared.{connector.{Agents.Agents, Place.Place}, told.Told.{Told, TheVariants.Passphrase}}}}
use Rattle.{passphrase_words.specs.{Requests.line_of_request, Tasks.TaskValue}, session_options.specs.OptionValues.EnvWords}
use Rattle.passphrase_client.specs.Runs.{World, TakesSteps, Finds, Reply, given_text, DoesStep, ComesTo, behind_all, stops, gives, ends, goes_on, notes, holds}
use Rattle.passphrase_client.specs.{Steps.{steps_of, forgets, place_of, waits_of, request_of}, Verdicts.{is_one_line, looks_alone}, declared.{course.Course.{Course, TheVariants.{Gives, Ends}}, ending.{Ending.Ending, Lifetime.Lifetime}, steps.Step.Step, verdict.Verdict.Verdict}}
use Rattle.passphrase_client.specs.declared.ending.Ending.TheVariants as ending
use Rattle.passphrase_client.specs.declared.steps.Step.TheVariants as step
use Rattle.passphrase_talk.specs.declared.connector.Unmet.TheVariants as unmet
use Rattle.passphrase_talk.specs.declared.told.Told.TheVariants as told

-- a contact with an agent for the request of a step, where this passphrase was held, and what was told of it
pub record Visited (task : TaskValue) (terminal : EnvWords) : Type 0 where
  pub to : Step
  pub held : List ℕ
  pub told : Told
  pub before : Contacts
  pub after : Contacts
  pub visits : Visits (place_of to) (waits_of to) (line_of_request task (request_of to task.act held)) terminal told before after

abbrev pub visited : {task : TaskValue} {terminal : EnvWords} {step : Step} {held : List ℕ} {told : Told} {what : Verdict} {before after : Contacts}
    → DoesStep task terminal step held told what before after → Visited task terminal
visited {step = step} {held = held} {told = told} {before = before} does = record { to = step; held = held; told = told; before = before; after = does.between; visits = does.visits }

-- those of steps that were taken, one for each reply, in their order
abbrev pub visits_of : {task : TaskValue} {terminal : EnvWords} {steps : List Step} {held : List ℕ} {noted : Option Ending} {before after : Contacts} {replies : List Reply} {course : Course}
    → ComesTo task terminal steps held noted before replies course after → List (Visited task terminal)
visits_of behind_all = []
visits_of (stops is) = []
visits_of (gives going does) = visited does ∷ []
visits_of (ends going does) = visited does ∷ []
visits_of (goes_on going does more) = visited does ∷ visits_of more
visits_of (notes going does more) = visited does ∷ visits_of more
visits_of (holds going does more) = visited does ∷ visits_of more

-- what is kept is asked for, or the user is asked for it
abbrev pub is_question : Step → Bool
is_question (step.Look place) = true
is_question step.Ask = true
is_question _ = false

-- A passphrase was written that can be one line, and the reply to a question of this run for the passphrase of its id was it, in one of the run's
-- own contacts.
pub record WasAnswered (task : TaskValue) (terminal : EnvWords) (before after : World) : Type 0 where
  pub secret : List ℕ
  pub lasts : Lifetime
  pub steps : TakesSteps task terminal before (Gives secret lasts) after.input after.contacts
  pub contact : Visited task terminal
  pub made : Contains (visits_of steps.comes) contact
  pub asks : is_question contact.to ≡ true
  pub told_is : contact.told ≡ Passphrase secret
  pub answered : Contains steps.replies (record { to = contact.to; told = Passphrase secret })
  pub one_line : is_one_line secret ≡ true
  pub written : after.output.bytes ≡ with_bytes before.output.bytes (given_text task.act secret)

-- an error of this number says that nothing is kept (libgpg-error: GPG_ERR_NO_DATA is 58)
abbrev pub is_miss : ℕ → Bool
is_miss number = number % 2 ^ 16 == 58

-- The reply refuses the step: an error, but of a look that finds nothing; a passphrase that is empty or can't be one line; or there is no memory for a contact.
abbrev pub refuses : Step → Told → Bool
refuses (step.Look place) (told.Refused number launched) = not (is_miss number)
refuses (step.Look place) (told.Cancelled (Some number)) = not (is_miss number)
refuses at (told.Refused number launched) = true
refuses at (told.Cancelled (Some number)) = true
refuses at told.NoMemory = true
refuses at told.Done = is_question at
refuses at (Passphrase secret) = is_question at && not (is_one_line secret)
refuses _ _ = false

-- The reply to a look says that nothing is kept, or no more than an empty passphrase.
abbrev pub misses : Step → Told → Bool
misses (step.Look place) (told.Refused number launched) = is_miss number
misses (step.Look place) (told.Cancelled (Some number)) = is_miss number
misses (step.Look place) told.Done = true
misses _ _ = false

abbrev pub is_refusal : Reply → Bool
is_refusal reply = refuses reply.to reply.told

abbrev pub is_missed : Reply → Bool
is_missed reply = misses reply.to reply.told

-- what a run needs to end with status 1: no memory to find an agent; a reply that refuses its step; or nobody was to be asked, and nothing is kept
pub data WasRefused (task : TaskValue) (terminal : EnvWords) (before after : World) : Type 0 where
  unfound : Finds task (Err unmet.NoMemory) before.contacts after.contacts → WasRefused task terminal before after
  refused_step : {ending : Ending} (steps : TakesSteps task terminal before (Ends ending) after.input after.contacts) → list_any is_refusal steps.replies ≡ true
      → WasRefused task terminal before after
  nothing_kept : {ending : Ending} (steps : TakesSteps task terminal before (Ends ending) after.input after.contacts) → looks_alone task.act ≡ true
      → list_all is_missed steps.replies ≡ true → WasRefused task terminal before after

-- The agent says OK to a step: to the request of a probe, which it is given no passphrase for, an error behind its inquiry.
abbrev pub is_done : Step → Told → Bool
is_done step.Probe (told.Cancelled (Some number)) = true
is_done step.Probe other = false
is_done at told.Done = true
is_done at (Passphrase secret) = true
is_done _ _ = false

-- so to each of these steps, in their order
abbrev pub AreDone : List Step → List Reply → Type 0
AreDone [] [] = ⊤
AreDone (at ∷ steps) (reply ∷ replies) = (reply.to ≡ at) × (is_done at reply.told ≡ true) × AreDone steps replies
AreDone _ _ = ⊥

-- all steps of an act were taken, and the agents said OK to each: what was kept is forgotten at each agent that was found; or what was held is stored, and
-- what the other agent kept is forgotten
pub record HasDone (task : TaskValue) (terminal : EnvWords) (before after : World) : Type 0 where
  pub steps : TakesSteps task terminal before (Ends ending.Done) after.input after.contacts
  pub done : AreDone (steps_of task.act steps.agents) steps.replies

-- in one of the run's own contacts what is kept was asked for, and the reply was a passphrase that can be one line
pub record HasKept (task : TaskValue) (terminal : EnvWords) (before after : World) : Type 0 where
  pub steps : TakesSteps task terminal before (Ends ending.Kept) after.input after.contacts
  pub contact : Visited task terminal
  pub made : Contains (visits_of steps.comes) contact
  pub place : Place
  pub to_is : contact.to ≡ step.Look place
  pub secret : List ℕ
  pub told_is : contact.told ≡ Passphrase secret
  pub one_line : is_one_line secret ≡ true

-- what is done before a new passphrase is typed: it is tried whether one with a lifetime is taken, and what is kept is forgotten
abbrev pub before_new : Option ℕ → Agents → List Step
before_new None agents = forgets agents
before_new (Some ttl) agents = step.Probe ∷ forgets agents

-- That was done, and then the user was asked, before anything else.
pub record HasForgotten (task : TaskValue) (terminal : EnvWords) (ttl : Option ℕ) (before after : World) : Type 0 where
  pub secret : List ℕ
  pub lasts : Lifetime
  pub steps : TakesSteps task terminal before (Gives secret lasts) after.input after.contacts
  pub front : List Reply
  pub done : AreDone (before_new ttl steps.agents) front
  pub told : Told
  pub later : List Reply
  pub replies_are : steps.replies ≡ front ++ (record { to = step.Ask; told = told }) ∷ later

-- the user is asked by it
abbrev pub asks_user : Step → Bool
asks_user step.Ask = true
asks_user _ = false

-- none of these replies is to a question of the user
abbrev pub NobodyAsked : List Reply → Type 0
NobodyAsked replies = list_any (λ reply. asks_user reply.to) replies ≡ false
