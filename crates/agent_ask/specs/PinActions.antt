-- Prompts for a passphrase as actions of a request. The codes are this project's own.
use Rattle.std.specs.{Prelude.{◌≡◌, ◌≢◌, Bool, List, ℕ, Option, Some, None, Result, Ok, Err}, Option.option_map}
use Rattle.{arrayvec.specs.ArrayVec.ArrayVec, session_client.specs.{Lines.Lines, declared.refusal.Refusal.{Refusal, TheVariants.{Agent, Pinentry, Client}}}, session_options.specs.{OptionValues.OptionValues, declared.rules.Rules.Rules}}
use Rattle.agent_ask.specs.{Callers.unheard_of, Events.PromptEvent, Session.PortCalls.EventOf, Plans.IsSpec, Prompts.{AsksPin, AsksPinBy}, SessionPrompts.AnyInSession, declared.prompt.{ask.Asked.Asked, spec.AskPlan.AskPlan}}
use Rattle.agent_ask.specs.declared.prompt.{spec.PromptSpec.PromptSpec, test.Tested.Tested}
use Rattle.session_client.specs.declared.code.Code.TheVariants as code
use Rattle.agent_ask.specs.declared.prompt.ask.Asked.TheVariants as asked

-- one prompt for a passphrase that is right by this rule, in the session: its events, and its answer
pub record PromptsPin (lines : Lines) (spec : PromptSpec) (plan : AskPlan) (Rule : List ℕ → Type 0) (shown : List (EventOf lines)) (answer : Asked) : Type 0 where
  pub prompt : List PromptEvent
  pub asks : AsksPin spec plan Rule prompt answer
  pub in_session : AnyInSession lines prompt shown

-- how a request is refused whose prompt gave no passphrase
abbrev pub pin_refusal : Asked → Option Refusal
pin_refusal (asked.Pin pin) = None
pin_refusal asked.Cancelled = Some (Pinentry code.Cancelled)
pin_refusal asked.TimedOut = Some (Pinentry code.Timeout)
pin_refusal asked.NoPinentry = Some (Agent code.NoPinentry)
pin_refusal asked.Bad = Some (Agent code.BadPass)
pin_refusal (asked.Heard heard) = option_map Client (unheard_of heard)
pin_refusal asked.NoMemory = Some (Agent code.NoMemory)

-- the request goes on with a passphrase, or is refused so
abbrev pub IsGiven : Asked → Result (List ℕ) Refusal → Type 0
IsGiven answer (Ok pin) = answer ≡ asked.Pin pin
IsGiven answer (Err why) = pin_refusal answer ≡ Some why

-- the same where every passphrase is right: its test wants no memory
abbrev pub IsAnyGiven : Asked → Result (List ℕ) Refusal → Type 0
IsAnyGiven answer result = answer ≢ asked.NoMemory × IsGiven answer result

-- one prompt with these words and by this plan, under the ticket that the request holds: its events, and how the request goes on by its answer
pub data PromptsFor {A : Type 0} (lines : Lines) (rules : Rules) (options : OptionValues) (description field : ArrayVec ℕ) (quality : Bool) (plan : AskPlan) (Rule : List ℕ → Type 0)
    (Gives : Asked → Result A Refusal → Type 0) : Option ℕ → List (EventOf lines) → Result A Refusal → Option ℕ → Type 0 where
  prompted : {ticket : ℕ} {shown : List (EventOf lines)} {answer : Asked} {result : Result A Refusal} (spec : PromptSpec) → IsSpec rules options description field quality spec
      → PromptsPin lines spec plan Rule shown answer → Gives answer result → PromptsFor lines rules options description field quality plan Rule Gives (Some ticket) shown result (Some ticket)

-- one prompt for a passphrase: its events, and how a request goes on by its answer
pub record AsksFor {T : Type 0} (tested : T → List ℕ → Tested → T → Type 0) (before after : T) (spec : PromptSpec) (plan : AskPlan) (Rule : List ℕ → Type 0)
    (events : List PromptEvent) (result : Result (List ℕ) Refusal) : Type 0 where
  pub answer : Asked
  pub asks : AsksPinBy tested before after spec plan Rule events answer
  pub gives : IsGiven answer result
