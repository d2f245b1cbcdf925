-- How a session stands at some state of its code before and after an action of a request, and how events lead from one to the other. Its connection is of any
-- type of which this is seen. This is the project's own.
use Rattle.std.specs.Prelude.{◌≡◌, ℕ, List, [], ◌∷◌, Option, None, Result, Ok, Err}
use Rattle.{cache_policy.specs.{declared.mark.MarkStep.MarkStep, Turns.Turn}, session_client.specs.{Lines.{Lines, Views}, Refusals.gone_by, declared.{refusal.Refusal.Refusal, client_error.Gone.Gone}}}
use Rattle.agent_ask.specs.{Session.{Answering.{ReaderLeft, FaultsCounted}, PortCalls.{PortCall, Prompt, EventOf, world_with}, Actions.ActionOf, SessionEvents.{AnyEvent, cache_turn}, States.{AnyState, AnyLead}}, Doing.DoesCall, Events.{Call, PromptEvent}}

-- how the client is gone after an action that came to this, where it is
abbrev pub gone_in : {A : Type 0} → Result A Refusal → Option Gone
gone_in (Ok value) = None
gone_in (Err why) = gone_by why

module _ {lines : Lines} {C : Type 0} (views : Views lines C) where
  -- at a desk that shows its turns so, with ports to which their events do this
  module _ {D E : Type 0} (turned : D → MarkStep → Turn → D → Type 0) (ported : E → PortCall → E → Type 0) where
    abbrev pub ActionState : Type 0
    ActionState = AnyState (world_with {lines = lines} turned ported) C

    abbrev pub action_state : C → D → E → ActionState
    action_state conn desk ends = record { conn = conn; desk = desk; ends = ends }

    -- an action of a request was done: by these events, which led there
    pub record DoesAction {A : Type 0} (action : ActionOf (EventOf lines) A) (before : Option ℕ) (start : ActionState) (result : Result A Refusal) (after : Option ℕ) (now : ActionState) : Type 0 where
      pub events : List (EventOf lines)
      pub does : action before events result after
      pub done : AnyLead {w = world_with {lines = lines} turned ported} views events start now
      pub fits : ReaderLeft views (gone_in result) start.conn now.conn
      pub faults : FaultsCounted views (gone_in result) start.conn now.conn

-- no turn is taken, and no port is called
abbrev pub NoTurn : Unit {0} → MarkStep → Turn → Unit {0} → Type 0
NoTurn before asked turn after = ⊥

abbrev pub NoEnd : Unit {0} → PortCall → Unit {0} → Type 0
NoEnd before what after = ⊥

-- what is done to a prompter that is the only port
pub data DoesPrompts {P : Type 0} (prompted : P → Call → P → Type 0) : P → PortCall → P → Type 0 where
  prompts : {before after : P} {event : PromptEvent} → DoesCall prompted before event after → DoesPrompts prompted before (Prompt event) after

-- an action in which nothing is done but with the client, whatever ticket is held
abbrev pub DoesWithClient : {lines : Lines} {C : Type 0} (views : Views lines C) {A : Type 0} → ActionOf (EventOf lines) A → C → Result A Refusal → C → Type 0
DoesWithClient views action conn result now =
    (held : Option ℕ) → DoesAction views NoTurn NoEnd action held (action_state views NoTurn NoEnd conn tt tt) result held (action_state views NoTurn NoEnd now tt tt)

-- an action that is one turn at the desk, and after which the session goes on, whatever it comes to
pub record DoesTurn {T O F D : Type 0} (turned : D → MarkStep → Turn → D → Type 0) {A : Type 0} (action : ActionOf (AnyEvent T O F) A) (before : Option ℕ) (desk : D)
    (result : Result A Refusal) (after : Option ℕ) (now : D) : Type 0 where
  pub step : MarkStep
  pub turn : Turn
  pub turned_so : turned desk step turn now
  pub does : action before (cache_turn step turn ∷ []) result after
  pub on : gone_in result ≡ None

-- one turn, or nothing
pub data DoesTurns {T O F D : Type 0} (turned : D → MarkStep → Turn → D → Type 0) {A : Type 0} (action : ActionOf (AnyEvent T O F) A) (before : Option ℕ) (desk : D)
    (result : Result A Refusal) (after : Option ℕ) : D → Type 0 where
  still : action before [] result after → gone_in result ≡ None → DoesTurns turned action before desk result after desk
  one : {now : D} → DoesTurn turned action before desk result after now → DoesTurns turned action before desk result after now
