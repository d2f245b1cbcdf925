-- What a session stands on beside its link, and how it stands there at some state of its code. This is the project's own.
use Rattle.{agent_ask.specs.{Events.Call, Session.PortCalls.{PortEnds, port_world}}, agent_commands.specs.{Outside.World, States.ServedState}, agent_ports.specs.{KeyFiles.KeyFiles, Sides.Side, TrustFiles.TrustState}}
use Rattle.{assuan_server.specs.Connections.Connection, cache_policy.specs.{declared.mark.MarkStep.MarkStep, Turns.Turn}}
use Rattle.agent_origin.specs.Sessions.{Surroundings}

abbrev pub port_ends : {P : Type 0} → P → KeyFiles → Side → TrustState → PortEnds P
port_ends prompter keys dice trust = record { prompter = prompter; keys = keys; dice = dice; trust = trust }

module _ {D P : Type 0} (turned : D → MarkStep → Turn → D → Type 0) (prompted : P → Call → P → Type 0) where
  -- a desk, and a prompter that shows its calls so, the keys, the dice and the trust file
  abbrev pub PortWorld : World
  PortWorld = port_world turned prompted

  -- a state in the code
  abbrev pub PortState : Type 0
  PortState = ServedState PortWorld

  abbrev pub port_state : Connection → D → P → KeyFiles → Side → TrustState → PortState
  port_state conn desk prompter keys dice trust = record { conn = conn; desk = desk; ends = port_ends prompter keys dice trust }

  -- what a session has to do with
  abbrev pub surroundings : Side → Side → D → P → KeyFiles → Side → TrustState → Surroundings PortWorld
  surroundings input output desk prompter keys dice trust = record { input = input; output = output; desk = desk; ends = port_ends prompter keys dice trust }
