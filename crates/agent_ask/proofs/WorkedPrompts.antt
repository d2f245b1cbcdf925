-- Prompts of which the client isn't told, as worked examples have them: by the calls of the prompter alone.
use Rattle.std.proofs.Common.{◌≡◌, ◌≤◌, ℕ, false, List, [], ◌∷◌, ◌++◌, None, Ok, refl, ap, arith}
use Rattle.session_client.specs.Lines.{Lines}
use Rattle.agent_ask.specs.{ConsentActions.PromptsConsent, Consents.{agreed_of, ConsentBefore}, Events.{Call, Start, Confirm, Shut, PromptEvent, Called}, Session.PortCalls.{EventOf, Prompt}, PinActions.{PromptsPin, IsAnyGiven}, Prompts.{Opens, Tries, AsksBefore}}
use Rattle.agent_ask.specs.{Session.SessionEvents.Port, SessionPrompts.AnyInSession, Tests.PinTest, declared.prompt.{ask.Asked.Asked, prompter.Consent.Consent, spec.{AskPlan.AskPlan, PromptSpec.PromptSpec}}}
use Rattle.agent_ask.specs.declared.prompt.ask.Asked.TheVariants as asked
use Rattle.agent_ask.specs.declared.prompt.prompter.Opened.TheVariants as opened

-- the three tries of a prompt
pub first_try : 1 ≤ 3
first_try = omega arith

pub second_try : 2 ≤ 3
second_try = omega arith

pub third_try : 3 ≤ 3
third_try = omega arith

-- any passphrase is right
pub any_given : {pin : List ℕ} → IsAnyGiven (asked.Pin pin) (Ok pin)
any_given = (λ is. cc is, refl)

-- calls as events of a prompt
abbrev pub called_by : List Call → List PromptEvent
called_by [] = []
called_by (call ∷ more) = Called call ∷ called_by more

called_last : (calls : List Call) (last : Call) → called_by (calls ++ last ∷ []) ≡ called_by calls ++ Called last ∷ []
called_last [] last = refl
called_last (call ∷ more) last = ap (λ (events : List PromptEvent). Called call ∷ events) (called_last more last)

module _ (lines : Lines) where
  -- and as those of a session
  abbrev pub shown_by : List Call → List (EventOf lines)
  shown_by [] = []
  shown_by (call ∷ more) = Port (Prompt (Called call)) ∷ shown_by more

  shows : (calls : List Call) → AnyInSession lines (called_by calls) (shown_by calls)
  shows [] = AnyInSession.none
  shows (call ∷ more) = AnyInSession.called (shows more)

  module _ {spec : PromptSpec} (pid : ℕ) where
    -- a prompt for a passphrase, with these calls between its start and its end
    pub prompts : {plan : AskPlan} {Rule : List ℕ → Type 0} {tests : List PinTest} {answer : Asked} (calls : List Call) → plan.notify ≡ false → Tries plan Rule 1 None (called_by calls) tests answer
        → PromptsPin lines spec plan Rule (shown_by (Start spec (opened.Pid pid) ∷ (calls ++ Shut ∷ []))) answer
    prompts {tests} calls unnoted tries = record {
      prompt = called_by (Start spec (opened.Pid pid) ∷ (calls ++ Shut ∷ []));
      asks = record {
        before = called_by (Start spec (opened.Pid pid) ∷ calls);
        whole = called_last (Start spec (opened.Pid pid) ∷ calls) Shut;
        tests = tests;
        asks = AsksBefore.tried (Opens.quiet unnoted) tries;
      };
      in_session = shows (Start spec (opened.Pid pid) ∷ (calls ++ Shut ∷ []));
    }

    -- one for consent
    pub asks_consent : (consent : Consent) → PromptsConsent lines spec false (shown_by (Start spec (opened.Pid pid) ∷ Confirm consent ∷ Shut ∷ [])) (agreed_of consent)
    asks_consent consent = record {
      prompt = called_by (Start spec (opened.Pid pid) ∷ Confirm consent ∷ Shut ∷ []);
      asks = record {
        before = called_by (Start spec (opened.Pid pid) ∷ Confirm consent ∷ []);
        whole = refl;
        asks = ConsentBefore.asked consent (Opens.quiet refl);
      };
      in_session = shows (Start spec (opened.Pid pid) ∷ Confirm consent ∷ Shut ∷ []);
    }
