-- Private: actions of a request on the trust list that are done in the code.
use Rattle.std.specs.Prelude.{ℕ, Option, Result}
use Rattle.{agent_ask.specs.{Events.Call, Session.{PortCalls.{PortCall, DoesPort, Trust, NoMemory}, ActionStates.{action_state, DoesAction, NoTurn}, TrustCalls.{TrustCall, DoesTrust}}}, agent_ports.specs.{KeyFiles.KeyFiles, Sides.Side}}
use Rattle.{agent_ports.specs.TrustFiles.TrustState, assuan_server.specs.{Clients.connection_views, Connections.{Connection, IsOpen}}, cache_policy.specs.{declared.mark.MarkStep.MarkStep, Turns.Turn}, key_commands.specs.Actions.Action}
use Rattle.session_client.specs.declared.refusal.Refusal.{Refusal}
use Rattle.agent_origin.specs.PortStates.{port_state}

-- what is done to a trust file that is the only port
pub data DoesTrustFile : TrustState → PortCall → TrustState → Type 0 where
  called : {before after : TrustState} {call : TrustCall} → DoesTrust before call after → DoesTrustFile before (Trust call) after
  no_memory : {now : TrustState} → DoesTrustFile now NoMemory now

-- an action in which nothing is done but with the trust file, whatever ticket is held and however the connection stands
abbrev pub DoesAtFile : {A : Type 0} → Action A → TrustState → Result A Refusal → TrustState → Type 0
DoesAtFile action trust result now =
    (conn : Connection) → IsOpen conn → (held : Option ℕ)
    → DoesAction connection_views NoTurn DoesTrustFile action held (action_state connection_views NoTurn DoesTrustFile conn tt trust) result held
    (action_state connection_views NoTurn DoesTrustFile conn tt now)

module _ {D P : Type 0} (turned : D → MarkStep → Turn → D → Type 0) (prompted : P → Call → P → Type 0) {A : Type 0} (action : Action A) where
  -- an action in which neither the keys are called nor dice are thrown, whatever these are
  abbrev pub LeavesKeys : Option ℕ → Connection → D → P → TrustState → Result A Refusal → Option ℕ → Connection → D → P → TrustState → Type 0
  LeavesKeys before conn desk prompter trust result after conn_now desk_now prompter_now trust_now =
      (keys : KeyFiles) (dice : Side)
      → DoesAction connection_views turned (DoesPort prompted) action before (port_state turned prompted conn desk prompter keys dice trust) result after
      (port_state turned prompted conn_now desk_now prompter_now keys dice trust_now)
