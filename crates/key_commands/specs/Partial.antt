-- Private: actions of a request on keys that were done, and those that have nothing to do with some ends of its session.
use Rattle.std.specs.Prelude.{ℕ, Option, Result}
use Rattle.{agent_ask.specs.{Doing.DoesCall, Events.{Call, PromptEvent}, Session.{PortCalls.{PortCall, Prompt, NoMemory}, ActionStates.{DoesAction, action_state, NoTurn}}}, assuan_server.specs.{Clients.connection_views, Connections.Connection}}
use Rattle.{cache_policy.specs.{declared.mark.MarkStep.MarkStep, Turns.Turn}, session_client.specs.declared.refusal.Refusal.Refusal}
use Rattle.key_commands.specs.{KeyEnds.DoesAtKeys, Actions.Action, States.KeyState}

-- an action of a request was done
abbrev pub DoesKeyAction : {D P : Type 0} (turned : D → MarkStep → Turn → D → Type 0) (prompted : P → Call → P → Type 0) {A : Type 0} → Action A → Option ℕ → KeyState turned prompted → Result A Refusal → Option ℕ
    → KeyState turned prompted → Type 0
DoesKeyAction turned prompted = DoesAction connection_views turned (DoesAtKeys prompted)

-- no prompter is called
abbrev pub NoCall : Unit {0} → Call → Unit {0} → Type 0
NoCall before call after = ⊥

-- what is done to a prompter where neither the keys are called nor dice are thrown
pub data DoesBesideKeys {P : Type 0} (prompted : P → Call → P → Type 0) : P → PortCall → P → Type 0 where
  prompt : {before after : P} {event : PromptEvent} → DoesCall prompted before event after → DoesBesideKeys prompted before (Prompt event) after
  no_memory : {now : P} → DoesBesideKeys prompted now NoMemory now

module _ {A : Type 0} where
  -- an action in which neither the keys are called nor dice are thrown
  abbrev pub LeavesKeys : {D P : Type 0} → (D → MarkStep → Turn → D → Type 0) → (P → Call → P → Type 0) → Action A → Option ℕ → Connection → D → P → Result A Refusal → Option ℕ → Connection → D → P → Type 0
  LeavesKeys turned prompted action before conn desk prompter result after conn_now desk_now prompter_now =
      DoesAction connection_views turned (DoesBesideKeys prompted) action before (action_state connection_views turned (DoesBesideKeys prompted) conn desk prompter) result after
      (action_state connection_views turned (DoesBesideKeys prompted) conn_now desk_now prompter_now)

  module _ (action : Action A) where
    -- nor is a turn taken
    abbrev pub DoesAtPrompter : {P : Type 0} → (P → Call → P → Type 0) → Option ℕ → Connection → P → Result A Refusal → Connection → P → Type 0
    DoesAtPrompter prompted held conn prompter result conn_now prompter_now = LeavesKeys NoTurn prompted action held conn tt prompter result held conn_now tt prompter_now

    -- nor is a prompter called
    abbrev pub DoesAtDesk : {D : Type 0} → (D → MarkStep → Turn → D → Type 0) → Option ℕ → Connection → D → Result A Refusal → Option ℕ → Connection → D → Type 0
    DoesAtDesk turned before conn desk result after conn_now desk_now = LeavesKeys turned NoCall action before conn desk tt result after conn_now desk_now tt

    -- nor is anything done but with the client, or memory wanted, whatever ticket is held
    abbrev pub DoesAtClient : Connection → Result A Refusal → Connection → Type 0
    DoesAtClient conn result now = (held : Option ℕ) → LeavesKeys NoTurn NoCall action held conn tt tt result held now tt tt
