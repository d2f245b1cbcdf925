-- How a session stands at some state of its code, and how events lead from one state to another. Its connection is of any type of which
-- this is seen. This is the project's own.
use Rattle.std.specs.Prelude.{◌≡◌, ◌≤◌, List}
use Rattle.{agent_ports.specs.Leads.Leads, session_client.specs.Lines.{Lines, Views, unread_at}}
use Rattle.agent_ask.specs.{LinkFaults.{fails_at_input, fails_at_output, CountsFailed}, Session.{SessionEvents.AnyEvent, Worlds.{AnyWorld, Outside, Does}}}

-- a state in the code: the connection, the desk, and the ports
pub record AnyState {lines : Lines} (w : AnyWorld lines) (C : Type 0) : Type 0 where
  pub conn : C
  pub desk : w.Desk
  pub ends : w.Ends

module _ {lines : Lines} {w : AnyWorld lines} {C : Type 0} (views : Views lines C) where
  -- what the outside has to do with it
  abbrev pub outside_at : AnyState w C → Outside w
  outside_at state = record {
    input = unread_at views state.conn;
    source = (views.input state.conn).bytes;
    output = (views.output state.conn).bytes;
    desk = state.desk;
    ends = state.ends;
  }

  -- these events lead from one state to another, with whichever supply the connection began
  pub record AnyLead (events : List (AnyEvent lines.Took lines.Outcome w.Port)) (start now : AnyState w C) : Type 0 where
    pub leads : (supply : lines.Supply) → views.has_supply supply start.conn
        → Leads (Does w supply) (outside_at start) events (outside_at now) × views.has_supply supply now.conn
    -- each failure at the link is counted, and the counts never fall
    pub reads : CountsFailed (fails_at_input lines) events (views.input start.conn).faults (views.input now.conn).faults
    pub writes : CountsFailed (fails_at_output lines) events (views.output start.conn).faults (views.output now.conn).faults
    pub input_faults : (views.input start.conn).faults ≤ (views.input now.conn).faults
    pub output_faults : (views.output start.conn).faults ≤ (views.output now.conn).faults
    pub link : views.link now.conn ≡ views.link start.conn
