-- Events of a prompt, one after another.
use Rattle.std.proofs.{Common.{◌≡◌, ℕ, ◌+◌, Bool, List, [], ◌∷◌, ◌++◌, None, Ok, refl}, lemmas.List.replicate-append-replicate}
use Rattle.agent_ports.{specs.Leads.{Leads, none, one}, proofs.Leading.leads_then}
use Rattle.agent_ask.specs.{Doing.{ends, DoesCall, called, DoesPrompt, calls, HasEvents}, Events.{Call, Start, Question, PromptEvent, Called}, Prompts.{Opens, failed, broken, pin_or_stop, typed, repeat_text, repeated}}
use Rattle.agent_ask.specs.declared.{client.caller.Heard.Heard, prompt.{prompter.{Opened.{Opened, TheVariants.{Pid, Failed, Broken}}, Outcome.Outcome}, spec.PromptSpec.PromptSpec}}
use Rattle.agent_ask.specs.declared.prompt.prompter.Outcome.TheVariants as outcome

-- the start gave no process
pub unopened : (spec : PromptSpec) (notify : Bool) (opened : Opened) → ((pid : ℕ) → opened ≡ Pid pid → ⊥) → Opens spec notify (Called (Start spec opened) ∷ []) None
unopened spec notify (Pid pid) not = absurd (not pid refl)
unopened spec notify Failed not = failed
unopened spec notify (Broken breach) not = broken

-- a passphrase was typed
pub typed_is : (what : Outcome) (pin : List ℕ) → Ok pin ≡ pin_or_stop what → what ≡ outcome.Pin pin
typed_is (outcome.Pin typed) pin is = cc is
typed_is outcome.Cancelled pin is = cc is
typed_is outcome.TimedOut pin is = cc is
typed_is outcome.Failed pin is = cc is
typed_is (outcome.Broken breach) pin is = cc is

-- one repeat more
pub repeated_more : (count : ℕ) (pin : List ℕ) → repeated count pin ++ typed repeat_text pin ∷ [] ≡ repeated (count + 1) pin
repeated_more count pin = replicate-append-replicate count 1 (typed repeat_text pin)

-- events of one kind, and then events of another
pub made_then : {S : Type 0} {Does : S → PromptEvent → S → Type 0} {First Second : List PromptEvent → Type 0} (Whole : List PromptEvent → Type 0) {before mid after : S}
    → ((events more : List PromptEvent) → First events → Second more → Whole (events ++ more))
    → HasEvents Does First before mid → HasEvents Does Second mid after → HasEvents Does Whole before after
made_then Whole joins first second = record { events = first.events ++ second.events; are = joins _ _ first.are second.are; lead = leads_then first.lead second.lead }

pub made_as : {S : Type 0} {Does : S → PromptEvent → S → Type 0} {First : List PromptEvent → Type 0} (Whole : List PromptEvent → Type 0) {before after : S}
    → ((events : List PromptEvent) → First events → Whole events) → HasEvents Does First before after → HasEvents Does Whole before after
made_as Whole is made = record { events = made.events; are = is _ made.are; lead = made.lead }

module _ {P : Type 0} {prompted : P → Call → P → Type 0} where
  pub called_once : {before after : P} (call : Call) (Are : List PromptEvent → Type 0) → prompted before call after → Are (Called call ∷ []) → HasEvents (DoesCall prompted) Are before after
  called_once call Are does are = record { events = Called call ∷ []; are = are; lead = one (called does) none }

  -- a call, after these events
  pub called_later : {before mid after : P} (done : List PromptEvent) (call : Call) (Are : List PromptEvent → Type 0) → Leads (DoesCall prompted) before done mid → prompted mid call after
      → Are (done ++ Called call ∷ []) → HasEvents (DoesCall prompted) Are before after
  called_later done call Are leads does are = record { events = done ++ Called call ∷ []; are = are; lead = leads_then leads (one (called does) none) }

  module _ {C : Type 0} {heard : C → Question → Heard → C → Type 0} (caller : C) where
    pub leads_beside : {before after : P} {events : List PromptEvent} → Leads (DoesCall prompted) before events after
        → Leads (DoesPrompt prompted heard) (ends before caller) events (ends after caller)
    leads_beside none = none
    leads_beside (one does later) = one (calls does) (leads_beside later)

    -- the caller is left alone
    pub made_beside : {before after : P} {Are : List PromptEvent → Type 0} → HasEvents (DoesCall prompted) Are before after
        → HasEvents (DoesPrompt prompted heard) Are (ends before caller) (ends after caller)
    made_beside made = record { events = made.events; are = made.are; lead = leads_beside made.lead }
