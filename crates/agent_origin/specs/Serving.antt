-- Private: how far a session has come at some state of its code.
use Rattle.std.specs.Prelude.{ℕ, Bool, true, false, List, Option, Some, None, Result}
use Rattle.{agent_ask.specs.Session.Answering.{unless_cut, FaultsCounted}, agent_commands.specs.{Endings.gone_of, Events.EventWith, Outside.World, States.{ServedState, EventsLead}, Talks.Talk, declared.went.SessionEnd.SessionEnd}}
use Rattle.{agent_commands.specs.declared.went.{SessionEnd.TheVariants.WriteFault, Went.{Went, TheVariants.{On, End}}}, agent_ports.specs.declared.link.WriteFault.WriteFault as Fault, assuan_server.specs.Clients.connection_views}
use Rattle.{assuan_server.specs.{Connections.Connection, Reading.unread, Written.WritesText}, command_table.specs.declared.commands.Command.Command}
use Rattle.agent_origin.specs.{Doors.allowed, DoorSessions.door_command, Sessions.{Surroundings, Leaves, LineRelation}, declared.{door.Door.Door, door_session.DoorCommand.DoorCommand}}
use Rattle.command_table.specs.declared.commands.Command.TheVariants as at_table

-- the requests of a session were answered up to its end
pub record ServesRequests {w : World} {S : Type 0} (exchange : LineRelation w S) (before : S) (start : ServedState w) (end : SessionEnd) (now : ServedState w) : Type 0 where
  pub events : List (EventWith w.Port)
  pub talk : Talk exchange before events end
  pub done : EventsLead events start now
  pub leaves : (left : List ℕ) → Leaves end (unread now.conn.reader left) left
  pub faults : FaultsCounted connection_views (gone_of end) start.conn now.conn

-- what a session in the code has to do with
abbrev pub around : {w : World} → ServedState w → Surroundings w
around state = record { input = state.conn.input; output = state.conn.output; desk = state.desk; ends = state.ends }

-- a text was written, whole or in part, and the session goes on where it was whole
pub data SaysText (text : List ℕ) (before : Connection) : Went → Connection → Type 0 where
  says : {after : Connection} (written : Result (Unit {0}) Fault) → WritesText text before written after → SaysText text before (unless_cut On (End WriteFault) written) after

-- a command on keys
abbrev pub is_on_keys : Option Command → Bool
is_on_keys (Some (at_table.Key name)) = true
is_on_keys _ = false

-- whether a session that came in by this door, or by none, may say a line, and what it does for itself with one
abbrev pub may_say : Option Door → List ℕ → Bool
may_say None line = true
may_say (Some door) line = allowed door line

abbrev pub command_at : Option Door → List ℕ → Option DoorCommand
command_at None line = None
command_at (Some door) line = door_command door line
