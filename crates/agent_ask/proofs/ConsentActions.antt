-- Consent as an action of a request.
use Rattle.std.proofs.Common.{◌≡◌, ℕ, false, List, [], Some, Result, Ok, Err, subst}
use Rattle.{session_client.specs.{Lines.Lines, declared.refusal.Refusal.Refusal}, session_options.specs.{OptionValues.OptionValues, declared.rules.Rules.Rules}, arrayvec.specs.ArrayVec.ArrayVec}
use Rattle.agent_ask.specs.{ConsentActions.{IsConsented, AsksQuestion, IsQuestion, AgreesTo, consents, refused}, Consents.AsksConsent, Events.PromptEvent, Session.PortCalls.EventOf, Plans.IsSpec, SessionPrompts.AnyInSession}
use Rattle.agent_ask.specs.declared.prompt.{consent.Agreed.Agreed, spec.PromptSpec.PromptSpec}

-- a prompt that shows this question
pub asked_question : {rules : Rules} {options : OptionValues} {question none : ArrayVec ℕ} {spec : PromptSpec} → IsSpec rules options question none false spec → none.items ≡ []
    → IsQuestion rules options question.items spec
asked_question is none = rw (← none) is

-- a prompt for consent in a session
module _ {lines : Lines} {rules : Rules} {options : OptionValues} {question : List ℕ} {prompt : List PromptEvent} {shown : List (EventOf lines)} (ticket : ℕ) where
  agrees_by : (answer : Agreed) (result : Result (Unit {0}) Refusal) (spec : PromptSpec) → IsQuestion rules options question spec → AsksConsent spec options.notify prompt answer
      → AnyInSession lines prompt shown → IsConsented answer result → AgreesTo lines rules options question (Some ticket) shown result (Some ticket)
  agrees_by answer (Ok agreed) spec is asks in_session is_yes =
      consents spec is (record { prompt = prompt; asks = subst (λ (a : Agreed). AsksConsent spec options.notify prompt a) is_yes asks; in_session = in_session })
  agrees_by answer (Err why) spec is asks in_session why_is = refused spec is (record { prompt = prompt; asks = asks; in_session = in_session }) why_is

  pub agrees : (result : Result (Unit {0}) Refusal) → AsksQuestion rules options question prompt result → AnyInSession lines prompt shown
      → AgreesTo lines rules options question (Some ticket) shown result (Some ticket)
  agrees result asks in_session = agrees_by asks.answer result asks.spec asks.is asks.asks in_session asks.consented
