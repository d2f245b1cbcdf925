-- What is asked of a prompter by one prompt are the calls of one prompt.
use Rattle.std.{specs.List.AllByRecursion, proofs.Common.{◌≡◌, ℕ, Bool, List, [], ◌∷◌, ◌++◌, refl, ap, sym, subst}}
use Rattle.agent_ask.specs.{Consents.{AsksConsent, ConsentBefore}, Events.{Call, Start, GetPin, Confirm, Shut, PromptEvent, Called, Notified, OutOfMemory}, Prompts.{AsksPin, AsksBefore, Opens}, Tests.PinTest, SessionPrompts.AnyInSession}
use Rattle.{agent_ask.specs.declared.prompt.{ask.Asked.Asked, consent.Agreed.Agreed, spec.{AskPlan.AskPlan, PromptSpec.PromptSpec}}, assuan_server.specs.Clients.session_lines, agent_origin.proofs.Between.{IsBetween, tries_between}}
use Rattle.{key_commands.specs.Events.Event, pinentry_client.specs.Whole.{AreQuestions, IsOnePrompt}}
use Rattle.agent_serve.specs.Prompts.{calls_in}
use Rattle.agent_ask.specs.Consents as consents
use Rattle.agent_ask.specs.Prompts as prompts
use Rattle.agent_ask.specs.SessionPrompts as session

-- the calls among the events of a prompt
abbrev pub calls_of : List PromptEvent → List Call
calls_of [] = []
calls_of (Called call ∷ more) = call ∷ calls_of more
calls_of (Notified pid heard ∷ more) = calls_of more
calls_of (OutOfMemory ∷ more) = calls_of more

abbrev with_end : List PromptEvent → List Call
with_end events = calls_of (events ++ Called Shut ∷ [])

questions : (events : List PromptEvent) → AllByRecursion IsBetween events → AreQuestions (with_end events)
questions [] each = AreQuestions.shut
questions (Called (GetPin error outcome) ∷ more) each = AreQuestions.pin (questions more each.1)
questions (Called (Confirm consent) ∷ more) each = AreQuestions.consent (questions more each.1)
questions (Called (Start spec opened) ∷ more) each = absurd each.0
questions (Called Shut ∷ more) each = absurd each.0
questions (Notified pid heard ∷ more) each = questions more each.1
questions (OutOfMemory ∷ more) each = questions more each.1

opened_and_shut : {spec : PromptSpec} {notify : Bool} {events : List PromptEvent} {opening : _} → Opens spec notify events opening → IsOnePrompt (with_end events)
opened_and_shut prompts.failed = IsOnePrompt.start AreQuestions.shut
opened_and_shut prompts.broken = IsOnePrompt.start AreQuestions.shut
opened_and_shut (prompts.quiet is) = IsOnePrompt.start AreQuestions.shut
opened_and_shut (prompts.told is) = IsOnePrompt.start AreQuestions.shut

opened_and_asked : {spec : PromptSpec} {notify : Bool} {events : List PromptEvent} {opening : _} → Opens spec notify events opening → (more : List PromptEvent) → AllByRecursion IsBetween more
    → IsOnePrompt (with_end (events ++ more))
opened_and_asked prompts.failed more each = IsOnePrompt.start (questions more each)
opened_and_asked prompts.broken more each = IsOnePrompt.start (questions more each)
opened_and_asked (prompts.quiet is) more each = IsOnePrompt.start (questions more each)
opened_and_asked (prompts.told is) more each = IsOnePrompt.start (questions more each)

-- ---- prompts

before_is_one : {spec : PromptSpec} {plan : AskPlan} {Rule : List ℕ → Type 0} {events : List PromptEvent} {tests : List PinTest} {end : Asked} → AsksBefore spec plan Rule events tests end
    → IsOnePrompt (with_end events)
before_is_one (prompts.unopened opens) = opened_and_shut opens
before_is_one (prompts.client_error other opens) = opened_and_shut opens
before_is_one (prompts.tried {events} {more} opens tries) = opened_and_asked opens more (tries_between tries)

pub pin_is_one : {spec : PromptSpec} {plan : AskPlan} {Rule : List ℕ → Type 0} {events : List PromptEvent} {end : Asked} → AsksPin spec plan Rule events end → IsOnePrompt (calls_of events)
pin_is_one asks = subst (λ (e : List PromptEvent). IsOnePrompt (calls_of e)) (sym asks.whole) (before_is_one asks.asks)

consent_before_is_one : {spec : PromptSpec} {notify : Bool} {events : List PromptEvent} {end : Agreed} → ConsentBefore spec notify events end → IsOnePrompt (with_end events)
consent_before_is_one (consents.unopened opens) = opened_and_shut opens
consent_before_is_one (consents.client_error other opens) = opened_and_shut opens
consent_before_is_one (consents.asked {events} consent opens) = opened_and_asked opens (Called (Confirm consent) ∷ []) (tt, tt)

pub consent_is_one : {spec : PromptSpec} {notify : Bool} {events : List PromptEvent} {end : Agreed} → AsksConsent spec notify events end → IsOnePrompt (calls_of events)
consent_is_one asks = subst (λ (e : List PromptEvent). IsOnePrompt (calls_of e)) (sym asks.whole) (consent_before_is_one asks.asks)

-- among the events of the session
pub shown_calls : {prompt : List PromptEvent} {shown : List Event} → AnyInSession session_lines prompt shown → calls_in shown ≡ calls_of prompt
shown_calls session.none = refl
shown_calls (session.called {call} more) = ap (λ (calls : List Call). call ∷ calls) (shown_calls more)
shown_calls (session.noted says more) = shown_calls more
shown_calls (session.out_of_memory more) = shown_calls more
