-- The user's consent as an action of a request. The codes are this project's own.
use Rattle.std.specs.{Prelude.{◌≡◌, ℕ, Bool, false, List, [], Option, Some, None, Result, Ok, Err}, Option.option_map}
use Rattle.{session_client.specs.{Lines.Lines, declared.refusal.Refusal.{Refusal, TheVariants.{Agent, Pinentry, Client}}}, session_options.specs.{OptionValues.OptionValues, declared.rules.Rules.Rules}}
use Rattle.agent_ask.specs.{Callers.unheard_of, Consents.AsksConsent, Events.PromptEvent, Session.PortCalls.EventOf, Plans.{IsSpec, text}, SessionPrompts.AnyInSession, declared.prompt.{consent.Agreed.Agreed, spec.PromptSpec.PromptSpec}}
use Rattle.session_client.specs.declared.code.Code.TheVariants as code
use Rattle.agent_ask.specs.declared.prompt.consent.Agreed.TheVariants as agreed

-- how a request is refused whose prompt gave no consent
abbrev pub consent_refusal : Agreed → Option Refusal
consent_refusal agreed.Yes = None
consent_refusal agreed.No = Some (Pinentry code.NotConfirmed)
consent_refusal agreed.Cancelled = Some (Pinentry code.Cancelled)
consent_refusal agreed.TimedOut = Some (Pinentry code.Timeout)
consent_refusal agreed.NoPinentry = Some (Agent code.NoPinentry)
consent_refusal (agreed.Heard heard) = option_map Client (unheard_of heard)

-- the request goes on, or is refused so
abbrev pub IsConsented : Agreed → Result (Unit {0}) Refusal → Type 0
IsConsented answer (Ok consented) = answer ≡ agreed.Yes
IsConsented answer (Err why) = consent_refusal answer ≡ Some why

module _ (rules : Rules) (options : OptionValues) (question : List ℕ) where
  -- a prompt that asks this question alone
  abbrev pub IsQuestion : PromptSpec → Type 0
  IsQuestion spec = IsSpec rules options (text question) (text []) false spec

  -- one prompt for consent with this question: its events, and how a request goes on by its answer
  pub record AsksQuestion (prompt : List PromptEvent) (result : Result (Unit {0}) Refusal) : Type 0 where
    pub spec : PromptSpec
    pub answer : Agreed
    pub is : IsQuestion spec
    pub asks : AsksConsent spec options.notify prompt answer
    pub consented : IsConsented answer result

-- one prompt for consent, in the session: its events, and its answer
pub record PromptsConsent (lines : Lines) (spec : PromptSpec) (notify : Bool) (shown : List (EventOf lines)) (answer : Agreed) : Type 0 where
  pub prompt : List PromptEvent
  pub asks : AsksConsent spec notify prompt answer
  pub in_session : AnyInSession lines prompt shown

-- the user agrees to this question, by one prompt under the ticket that the request holds
pub data AgreesTo (lines : Lines) (rules : Rules) (options : OptionValues) (question : List ℕ) : Option ℕ → List (EventOf lines) → Result (Unit {0}) Refusal → Option ℕ → Type 0 where
  consents : {ticket : ℕ} {shown : List (EventOf lines)} (spec : PromptSpec) → IsQuestion rules options question spec
      → PromptsConsent lines spec options.notify shown agreed.Yes → AgreesTo lines rules options question (Some ticket) shown (Ok tt) (Some ticket)
  refused : {ticket : ℕ} {shown : List (EventOf lines)} {answer : Agreed} {why : Refusal} (spec : PromptSpec) → IsQuestion rules options question spec
      → PromptsConsent lines spec options.notify shown answer → consent_refusal answer ≡ Some why → AgreesTo lines rules options question (Some ticket) shown (Err why) (Some ticket)
