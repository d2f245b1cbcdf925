-- A prompt's events as those of its session.
use Rattle.std.proofs.Common.{◌≤◌, ℕ, List, [], ◌∷◌, Result, arith, subst}
use Rattle.{agent_ports.specs.Leads.{Leads, none, one}, cache_policy.specs.{declared.mark.MarkStep.MarkStep, Turns.Turn}, session_client.specs.{Lines.{Lines, Views, IsOpen}, declared.client_error.ClientError.ClientError}}
use Rattle.agent_ask.specs.{Callers.SaysNote, Clients.{Hears, note as told}, Doing.{PromptEnds, DoesCall, called, out_of_memory, DoesPrompt, calls, notified}, Events.{Call, PromptEvent, Called, OutOfMemory}}
use Rattle.agent_ask.specs.Session.{PortCalls.{PortCall, Prompt, EventOf, world_with}, SessionEvents.Port, States.{AnyState, AnyLead}}
use Rattle.agent_ask.{specs.SessionPrompts.{AnyInSession, none as no_events, called as shows_call, noted as shows_note, out_of_memory as shows_memory, note}, proofs.Doing.{done_none, done_then, done_port, done_inquired}}

-- The ports hold the prompter: with each state of it they are these, and what a prompt does to it is done to them.
module _ {lines : Lines} {C D P E : Type 0} (views : Views lines C) (turned : D → MarkStep → Turn → D → Type 0)
    (prompted : P → Call → P → Type 0) (does : E → PortCall → E → Type 0) (put : P → E)
    (each : (before after : P) (event : PromptEvent) → DoesCall prompted before event after → does (put before) (Prompt event) (put after)) (desk : D) where
  abbrev at_ends : PromptEnds P C → AnyState (world_with {lines = lines} turned does) C
  at_ends now = record { conn = now.caller; desk = desk; ends = put now.prompter }

  -- what a prompt did, as its session shows it
  pub record AsksUser (prompt : List PromptEvent) (start now : PromptEnds P C) : Type 0 where
    pub events : List (EventOf lines)
    pub in_session : AnyInSession lines prompt events
    pub done : AnyLead {w = world_with {lines = lines} turned does} views events (at_ends start) (at_ends now)
    pub open_before : IsOpen views now.caller → IsOpen views start.caller
    pub fewer : IsOpen views now.caller → views.held now.caller ≤ views.held start.caller

  pub shown : {Wished : C → List ℕ → Result (List ℕ) ClientError → C → Type 0} {prompt : List PromptEvent} {start now : PromptEnds P C} → Leads (DoesPrompt prompted (Hears views Wished)) start prompt now → AsksUser prompt start now
  shown {now} none = record { events = []; in_session = no_events; done = done_none (at_ends now); open_before = λ is. is; fewer = λ is. omega arith }
  shown (one (calls {prompter} {after} {caller} (called {call} calls_so)) later) =
      let rest = shown later in
      record {
        events = Port (Prompt (Called call)) ∷ rest.events;
        in_session = shows_call rest.in_session;
        done = done_then (done_port (Prompt (Called call)) caller desk (put prompter) (put after) (each _ _ _ (called calls_so))) rest.done;
        open_before = rest.open_before;
        fewer = rest.fewer;
      }
  shown (one (calls {prompter} {after} {caller} out_of_memory) later) =
      let rest = shown later in
      record {
        events = Port (Prompt OutOfMemory) ∷ rest.events;
        in_session = shows_memory rest.in_session;
        done = done_then (done_port (Prompt OutOfMemory) caller desk (put prompter) (put prompter) (each _ _ _ out_of_memory)) rest.done;
        open_before = rest.open_before;
        fewer = rest.fewer;
      }
  shown (one (notified {prompter} {caller} {after} {pid} {answer} (told result going tells says is)) later) =
      let rest = shown later in
      record {
        events = note pid tells.inquired ∷ rest.events;
        in_session = shows_note (subst (λ r. SaysNote r answer) tells.result_is says) rest.in_session;
        done = done_then (done_inquired desk (put prompter) tells.inquired tells.inquires.done) rest.done;
        open_before = λ is. going;
        fewer = λ is. omega (arith, rest.fewer is, tells.inquires.fewer (rest.open_before is));
      }
