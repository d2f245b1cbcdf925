-- Actions at the client: a text that is written, an inquiry, a prompt that it is told of.
use Rattle.std.proofs.Common.{◌≡◌, ◌≤◌, ℕ, List, [], ◌∷◌, Option, Result, Ok, Err, arith, sym, ◌∙◌, subst}
use Rattle.{agent_ports.specs.{Leads.Leads, Writing.StopsWriting, declared.link.WriteFault.WriteFault}, session_client.specs.{Asking.{HasSaid, LeftByError, AsksClient as AskedClient}, Lines.{Lines, Views, IsOpen}, Refusals.gone_by}}
use Rattle.{session_client.specs.declared.{refusal.Refusal.{Refusal, TheVariants.{Agent, Pinentry, Client}}, client_error.ClientError.ClientError}, cache_policy.specs.{declared.mark.MarkStep.MarkStep, Turns.Turn}}
use Rattle.agent_ask.specs.{Session.{Answering.{ReaderLeft, FaultsCounted}, ClientActions.{Writes, written, cut, Inquires, given, not_given}}, Clients.{Hears, LeftByAction}, Doing.{PromptEnds, DoesCall, DoesPrompt, HasEvents}, Events.{Call, PromptEvent}}
use Rattle.agent_ask.specs.{Session.{PortCalls.{PortCall, Prompt, EventOf, world_with}, Actions.ActionOf, ActionStates.{action_state, gone_in, DoesAction, NoTurn, NoEnd, DoesWithClient}, SessionEvents.{Sent, Cut, Inquiry}}, PinActions.{PromptsPin, AsksFor}}
use Rattle.agent_ask.{specs.{SessionPrompts.AnyInSession, declared.prompt.{ask.Asked.Asked, spec.{AskPlan.AskPlan, PromptSpec.PromptSpec}, test.Tested.Tested}}, proofs.{Doing.{done_said, done_cut, done_inquired}, Prompting.shown}}
use Rattle.session_client.specs.declared.client_error.Gone.TheVariants as gone
use Rattle.session_client.specs.declared.client_error.ClientError.TheVariants as client_error

module _ {lines : Lines} {C : Type 0} (views : Views lines C) (start now : C) where
  -- how the session goes on whose client gave nothing, by how its connection is left
  reader_unheard : (IsOpen views now → views.held now ≤ views.held start) → (why : ClientError) → LeftByError views why start now → ReaderLeft views (gone_by (Client why)) start now
  reader_unheard fewer client_error.Cancelled left = (left, fewer left)
  reader_unheard fewer client_error.TooMuch left = (left, fewer left)
  reader_unheard fewer client_error.Unexpected left = (left, fewer left)
  reader_unheard fewer (client_error.Gone how) left = left.ended

  faults_unheard : (why : ClientError) → LeftByError views why start now → FaultsCounted views (gone_by (Client why)) start now
  faults_unheard client_error.Cancelled left = record { read = λ e. absurd (cc e); write = λ e. absurd (cc e) }
  faults_unheard client_error.TooMuch left = record { read = λ e. absurd (cc e); write = λ e. absurd (cc e) }
  faults_unheard client_error.Unexpected left = record { read = λ e. absurd (cc e); write = λ e. absurd (cc e) }
  faults_unheard (client_error.Gone how) left = record { read = λ e. left.read_fault (cc e); write = λ e. left.write_fault (cc e) }

  -- how it is left by a prompt
  module _ {A : Type 0} where
    reader_left : (result : Result A Refusal) → (IsOpen views now → views.held now ≤ views.held start) → LeftByAction views result start now → ReaderLeft views (gone_in result) start now
    reader_left (Ok value) fewer left = (left, fewer left)
    reader_left (Err (Agent code)) fewer left = (left, fewer left)
    reader_left (Err (Pinentry code)) fewer left = (left, fewer left)
    reader_left (Err (Client why)) fewer left = reader_unheard fewer why left

    faults_left : (result : Result A Refusal) → LeftByAction views result start now → FaultsCounted views (gone_in result) start now
    faults_left (Ok value) left = record { read = λ e. absurd (cc e); write = λ e. absurd (cc e) }
    faults_left (Err (Agent code)) left = record { read = λ e. absurd (cc e); write = λ e. absurd (cc e) }
    faults_left (Err (Pinentry code)) left = record { read = λ e. absurd (cc e); write = λ e. absurd (cc e) }
    faults_left (Err (Client why)) left = faults_unheard why left

module _ {lines : Lines} {C : Type 0} {views : Views lines C} {start now : C} where
  -- a text was written
  pub wrote : {text : List ℕ} → IsOpen views start → HasSaid views text start (Ok tt) now → DoesWithClient views (Writes text) start (Ok tt) now
  wrote going said ticket = record {
    events = Sent _ ∷ [];
    does = written;
    done = done_said {w = world_with {lines = lines} NoTurn NoEnd} tt tt said;
    fits = (said.leaves.ended ∙ going, omega (arith, said.leaves.held));
    faults = record { read = λ e. absurd (cc e); write = λ e. absurd (cc e) };
  }

  -- its write failed
  pub wrote_part : {text : List ℕ} (fault : WriteFault) → HasSaid views text start (Err fault) now
      → DoesWithClient views (Writes text) start (Err (Client (client_error.Gone gone.WriteFault))) now
  wrote_part {text} fault said ticket =
      let stops : StopsWriting text (views.output start) (views.output now) = said.output.went in
      record {
        events = Cut stops.sent ∷ [];
        does = cut stops.unsent stops.split;
        done = done_cut {w = world_with {lines = lines} NoTurn NoEnd} tt tt fault said;
        fits = tt;
        faults = record { read = λ e. absurd (cc e); write = λ e. stops.rose };
      }

  -- the client was asked by a word, and gave bytes
  pub gave : {word : List ℕ} {limit : ℕ} {bytes : List ℕ} → AskedClient views word limit (Ok bytes) start now → DoesWithClient views (Inquires lines word limit) start (Ok bytes) now
  gave asks ticket = record {
    events = Inquiry _ [] _ asks.inquired ∷ [];
    does = given (sym asks.result_is);
    done = done_inquired {w = world_with {lines = lines} NoTurn NoEnd} tt tt asks.inquired asks.inquires.done;
    fits = (asks.inquires.left, asks.inquires.fewer asks.inquires.left);
    faults = record { read = λ e. absurd (cc e); write = λ e. absurd (cc e) };
  }

  -- or it gave none
  pub gave_none : {word : List ℕ} {limit : ℕ} {why : ClientError} → AskedClient views word limit (Err why) start now
      → DoesWithClient views (Inquires lines word limit) start (Err (Client why)) now
  gave_none {why} asks ticket = record {
    events = Inquiry _ [] _ asks.inquired ∷ [];
    does = not_given (sym asks.result_is);
    done = done_inquired {w = world_with {lines = lines} NoTurn NoEnd} tt tt asks.inquired asks.inquires.done;
    fits = reader_unheard views start now asks.inquires.fewer why asks.inquires.left;
    faults = faults_unheard views start now why asks.inquires.left;
  }

-- The ports hold the prompter: with each state of it they are these, and what a prompt does to it is done to them.
module _ {lines : Lines} {C D P E : Type 0} (views : Views lines C) (turned : D → MarkStep → Turn → D → Type 0) (desk : D) {prompted : P → Call → P → Type 0} (ported : E → PortCall → E → Type 0) (put : P → E)
    (each : (before after : P) (event : PromptEvent) → DoesCall prompted before event after → ported (put before) (Prompt event) (put after))
    {Wished : C → List ℕ → Result (List ℕ) ClientError → C → Type 0} {start now : PromptEnds P C} {A : Type 0} {action : ActionOf (EventOf lines) A} {result : Result A Refusal} {ticket : Option ℕ} where
  -- A prompt was shown, and the session shows its events: an action that these are was done, and left the connection so.
  pub action_prompted : {prompt : List PromptEvent}
      → Leads (DoesPrompt prompted (Hears views Wished)) start prompt now → ((events : List (EventOf lines)) → AnyInSession lines prompt events → action ticket events result ticket)
      → LeftByAction views result start.caller now.caller
      → DoesAction views turned ported action ticket (action_state views turned ported start.caller desk (put start.prompter)) result ticket (action_state views turned ported now.caller desk (put now.prompter))
  action_prompted leads does left =
      let s = shown views turned prompted ported put each desk leads in
      record {
        events = s.events;
        does = does s.events s.in_session;
        done = s.done;
        fits = reader_left views start.caller now.caller result s.fewer left;
        faults = faults_left views start.caller now.caller result left;
      }

  -- it was one for a passphrase
  pub prompt_answered : {T : Type 0} {tested : T → List ℕ → Tested → T → Type 0} {before after : T} {spec : PromptSpec} {plan : AskPlan} {Rule : List ℕ → Type 0} {given : Result (List ℕ) Refusal}
      → (asks : HasEvents (DoesPrompt prompted (Hears views Wished)) (λ events. AsksFor tested before after spec plan Rule events given) start now)
      → ((events : List (EventOf lines)) → PromptsPin lines spec plan Rule events asks.are.answer → action ticket events result ticket) → LeftByAction views result start.caller now.caller
      → DoesAction views turned ported action ticket (action_state views turned ported start.caller desk (put start.prompter)) result ticket (action_state views turned ported now.caller desk (put now.prompter))
  prompt_answered asks is = action_prompted asks.lead (λ events in_session. is events (record { prompt = asks.events; asks = asks.are.asks.asks; in_session = in_session }))

-- the same plan in other words
pub planned : {lines : Lines} {spec : PromptSpec} {plan other : AskPlan} {Rule : List ℕ → Type 0} {events : List (EventOf lines)} {answer : Asked} → plan ≡ other
    → PromptsPin lines spec plan Rule events answer → PromptsPin lines spec other Rule events answer
planned {lines} {spec} {Rule} {events} {answer} same prompts = subst (λ (p : AskPlan). PromptsPin lines spec p Rule events answer) same prompts
