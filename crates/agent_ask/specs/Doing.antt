-- What each event of a prompt does to the prompter and to the caller. This is the project's own.
use Rattle.std.specs.Prelude.{ℕ, List}
use Rattle.agent_ports.specs.Leads.{Leads}
use Rattle.agent_ask.specs.{Events.{Call, Question, Launched, PromptEvent, Called, Notified, OutOfMemory}, declared.client.caller.Heard.Heard}

pub record PromptEnds (P C : Type 0) : Type 0 where
  pub prompter : P
  pub caller : C

abbrev pub ends : {P C : Type 0} → P → C → PromptEnds P C
ends prompter caller = record { prompter = prompter; caller = caller }

-- what an event does to the prompter alone
pub data DoesCall {P : Type 0} (prompted : P → Call → P → Type 0) : P → PromptEvent → P → Type 0 where
  called : {before after : P} {call : Call} → prompted before call after → DoesCall prompted before (Called call) after
  out_of_memory : {now : P} → DoesCall prompted now OutOfMemory now

-- what an event does
pub data DoesPrompt {P C : Type 0} (prompted : P → Call → P → Type 0) (heard : C → Question → Heard → C → Type 0)
    : PromptEnds P C → PromptEvent → PromptEnds P C → Type 0 where
  calls : {prompter after : P} {caller : C} {event : PromptEvent} → DoesCall prompted prompter event after
      → DoesPrompt prompted heard (ends prompter caller) event (ends after caller)
  notified : {prompter : P} {caller after : C} {pid : ℕ} {answer : Heard} → heard caller (Launched pid) answer after
      → DoesPrompt prompted heard (ends prompter caller) (Notified pid answer) (ends prompter after)

-- events of this kind led from one state to another
pub record HasEvents {S : Type 0} (Does : S → PromptEvent → S → Type 0) (Are : List PromptEvent → Type 0) (before after : S) : Type 0 where
  pub events : List PromptEvent
  pub are : Are events
  pub lead : Leads Does before events after
