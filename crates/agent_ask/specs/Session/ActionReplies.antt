-- Private: what is written for a request, once all else is done for it. What it is answered in the code is of any type that is written as some text, and after which the
-- session goes on so.
use Rattle.std.specs.Prelude.{ℕ, List, Option, Some, None, Result, Ok, Err}
use Rattle.{agent_ports.specs.declared.link.WriteFault.WriteFault as Fault, cache_policy.specs.{declared.mark.MarkStep.MarkStep, Turns.Turn}, session_client.specs.{Asking.{HasSaid, SaysLine}, Lines.{Lines, Views}, Refusals.gone_by}}
use Rattle.session_client.specs.declared.{refusal.Refusal.Refusal, client_error.Gone.{Gone, TheVariants.WriteFault}}
use Rattle.agent_ask.specs.Session.{Answering.unless_cut, PortCalls.{PortCall, EventOf}, ActionExchanges.AnyReply, Actions.ActionOf, ActionStates.{ActionState, DoesAction}}

-- the reply that an answer is by some text of its own, and after which this is kept
abbrev pub reply_by : {R S W : Type 0} (went_of : R → W) → R → S → List ℕ → AnyReply S W
reply_by went_of answer kept text = record { text = text; kept = kept; went = went_of answer }

module _ {lines : Lines} {C R W : Type 0} (views : Views lines C) (IsText : R → List ℕ → Type 0) (went_of : R → W) where
  -- the reply of a request was written, or its refusal, and the session goes on so
  pub data RespondsBy (refusal_line : Refusal → Option (List ℕ)) (went_after : Option Gone → W) (start : C) : Result R Refusal → W → C → Type 0 where
    replied : {answer : R} {text : List ℕ} {now : C} (written : Result (Unit {0}) Fault) → IsText answer text → HasSaid views text start written now
        → RespondsBy refusal_line went_after start (Ok answer) (unless_cut (went_of answer) (went_after (Some WriteFault)) written) now
    refused : {why : Refusal} {now : C} (written : Result (Unit {0}) Fault) → SaysLine views (refusal_line why) start written now
        → RespondsBy refusal_line went_after start (Err why) (unless_cut (went_after (gone_by why)) (went_after (Some WriteFault)) written) now

  -- all was done for a request but its reply, whatever text that is written by
  pub data CarriesBy {D E S : Type 0} (turned : D → MarkStep → Turn → D → Type 0) (ported : E → PortCall → E → Type 0) (action : ActionOf (EventOf lines) (AnyReply S W)) (before : S)
      (start : ActionState views turned ported) : Result R Refusal → S → Option ℕ → ActionState views turned ported → Type 0 where
    comes_to : {answer : R} {kept : S} {held : Option ℕ} {now : ActionState views turned ported}
        → ((text : List ℕ) → IsText answer text → DoesAction views turned ported action None start (Ok (reply_by went_of answer kept text)) held now)
        → CarriesBy turned ported action before start (Ok answer) kept held now
    stops_at : {why : Refusal} {held : Option ℕ} {now : ActionState views turned ported} → DoesAction views turned ported action None start (Err why) held now
        → CarriesBy turned ported action before start (Err why) before held now
