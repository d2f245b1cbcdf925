-- How a session stands at some state of its code before and after a request on keys, and how events lead from one to the other.
use Rattle.std.specs.Prelude.{List}
use Rattle.{agent_ask.specs.{Session.{Answering.AnswersBy, PortCalls.world_with, States.AnyState, Worlds.AnyWorld}, Events.Call}, agent_ports.specs.{KeyFiles.KeyFiles, Sides.Side}, assuan_server.specs.Clients.{connection_views, session_lines}}
use Rattle.{assuan_server.specs.Connections.Connection, cache_policy.specs.{declared.mark.MarkStep.MarkStep, Turns.Turn}}
use Rattle.key_commands.specs.{Events.Event, KeyEnds.DoesAtKeys, Actions.{key_went_after, key_gone}, declared.{went.KeyWent.KeyWent, keywrap_key.WrapKeys.WrapKeys}}

module _ {D P : Type 0} (turned : D → MarkStep → Turn → D → Type 0) (prompted : P → Call → P → Type 0) where
  -- a desk, and a prompter, keys and dice, that show their calls so
  abbrev pub KeyWorld : AnyWorld session_lines
  KeyWorld = world_with turned (DoesAtKeys prompted)

  -- a state in the code
  abbrev pub KeyState : Type 0
  KeyState = AnyState KeyWorld Connection

  abbrev pub key_state : Connection → D → P → KeyFiles → Side → KeyState
  key_state conn desk prompter keys dice = record { conn = conn; desk = desk; ends = record { prompter = prompter; keys = keys; dice = dice } }

  -- a request was answered, whole or in part
  abbrev pub AnswersKey : (List Event → WrapKeys → KeyWent → Type 0) → KeyState → KeyWent → WrapKeys → KeyState → Type 0
  AnswersKey = AnswersBy {w = KeyWorld} connection_views key_went_after key_gone
