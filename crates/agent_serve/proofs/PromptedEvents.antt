-- Events among which the prompter's calls are those of prompts, one after another.
use Rattle.std.{specs.List.AllByRecursion, proofs.Common.{◌≡◌, List, [], ◌∷◌, ◌++◌, refl, sym, ap, subst, ◌∙◌, append_assoc, append-nil}}
use Rattle.agent_ask.specs.{Events.{Call, Called, Notified, OutOfMemory, PromptEvent}, Session.{PortCalls.{Keys, Dice, NoMemory, Prompt, Trust}, SessionEvents.{Received, Sent, Cut, Inquiry, CacheTurn, Port}}, SessionPrompts.AnyInSession}
use Rattle.{assuan_server.specs.Clients.session_lines, key_commands.{specs.Events.{Event, IsUncalled}, proofs.{EachEvent.still_uncalled, EachRequest.Carries}}, session_options.specs.OptionValues.EnvWords}
use Rattle.pinentry_client.specs.{Children.{ArePrompts, none, next}, Whole.IsOnePrompt}
use Rattle.agent_serve.{specs.Prompts.{calls_in, Prompted}, proofs.OnePrompt.{calls_of, pin_is_one, consent_is_one, shown_calls}}

-- ---- lists

pub calls_append : (first more : List Event) → calls_in (first ++ more) ≡ calls_in first ++ calls_in more
calls_append [] more = refl
calls_append (Port (Prompt (Called call)) ∷ first) more = ap (λ (calls : List Call). call ∷ calls) (calls_append first more)
calls_append (Port (Prompt (Notified pid heard)) ∷ first) more = calls_append first more
calls_append (Port (Prompt OutOfMemory) ∷ first) more = calls_append first more
calls_append (Port (Keys call) ∷ first) more = calls_append first more
calls_append (Port (Dice draw) ∷ first) more = calls_append first more
calls_append (Port (Trust call) ∷ first) more = calls_append first more
calls_append (Port NoMemory ∷ first) more = calls_append first more
calls_append (Received took ∷ first) more = calls_append first more
calls_append (Sent text ∷ first) more = calls_append first more
calls_append (Cut text ∷ first) more = calls_append first more
calls_append (Inquiry word params limit inquired ∷ first) more = calls_append first more
calls_append (CacheTurn taken ∷ first) more = calls_append first more

are_append : {prompts others : List (List Call)} {calls more : List Call} → ArePrompts prompts calls → ArePrompts others more → ArePrompts (prompts ++ others) (calls ++ more)
are_append none later = later
are_append {prompts} {others} {more} (next {prompt} {calls} is are) later =
    subst (λ (c : List Call). ArePrompts (prompts ++ others) c) (sym (append_assoc prompt calls more)) (next is (are_append are later))

pub prompted_append : (first more : List Event) → Prompted first → Prompted more → Prompted (first ++ more)
prompted_append first more one other =
    record { prompts = one.prompts ++ other.prompts; are = subst (ArePrompts (one.prompts ++ other.prompts)) (sym (calls_append first more)) (are_append one.are other.are) }

none_called : (events : List Event) → AllByRecursion IsUncalled events → calls_in events ≡ []
none_called [] each = refl
none_called (Port (Prompt (Called call)) ∷ more) each = absurd each.0
none_called (Port (Prompt (Notified pid heard)) ∷ more) each = none_called more each.1
none_called (Port (Prompt OutOfMemory) ∷ more) each = none_called more each.1
none_called (Port (Keys call) ∷ more) each = none_called more each.1
none_called (Port (Dice draw) ∷ more) each = none_called more each.1
none_called (Port (Trust call) ∷ more) each = none_called more each.1
none_called (Port NoMemory ∷ more) each = none_called more each.1
none_called (Received took ∷ more) each = none_called more each.1
none_called (Sent text ∷ more) each = none_called more each.1
none_called (Cut text ∷ more) each = none_called more each.1
none_called (Inquiry word params limit inquired ∷ more) each = none_called more each.1
none_called (CacheTurn taken ∷ more) each = none_called more each.1

pub uncalled : (events : List Event) → AllByRecursion IsUncalled events → Prompted events
uncalled events each = record { prompts = []; are = subst (ArePrompts []) (sym (none_called events each)) none }

-- one prompt
pub shown_prompted : {prompt : List PromptEvent} {shown : List Event} → IsOnePrompt (calls_of prompt) → AnyInSession session_lines prompt shown → Prompted shown
shown_prompted {prompt} {shown} is in_session =
    record {
      prompts = calls_of prompt ∷ [];
      are = subst (ArePrompts (calls_of prompt ∷ [])) (append-nil (calls_of prompt) ∙ sym (shown_calls in_session)) (next is none);
    }

-- ---- requests

pub prompted_carries : {env : EnvWords} → Carries env IsUncalled Prompted
prompted_carries = record {
  still = still_uncalled;
  turns = λ step turn. tt;
  behind = prompted_append;
  each = uncalled;
  pins = λ named prompt. shown_prompted (pin_is_one prompt.asks) prompt.in_session;
  consents = λ named prompt. shown_prompted (consent_is_one prompt.asks) prompt.in_session;
}
