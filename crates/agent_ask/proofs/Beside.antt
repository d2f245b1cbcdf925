-- What is done at a desk and at some ports, at another desk that holds it, and with other ends beside.
use Rattle.std.proofs.Common.{List}
use Rattle.{agent_ports.specs.Leads.{Leads, none, one}, cache_policy.specs.{declared.mark.MarkStep.MarkStep, Turns.Turn}, session_client.specs.Lines.{Lines, Views}}
use Rattle.agent_ask.specs.Session.{PortCalls.{PortCall, EventOf, world_with}, States.{AnyState, AnyLead}, Worlds.{Outside, Does, received, sent, cut, asked, not_asked, turned as turned_so, ported}}

-- Each turn of a desk is one of another desk that holds it, and each event at some ports is one at others that hold them.
module _ {lines : Lines} {C D E Whole : Type 0} (action_turned : C → MarkStep → Turn → C → Type 0) (turned : D → MarkStep → Turn → D → Type 0)
    (does : E → PortCall → E → Type 0) (whole_does : Whole → PortCall → Whole → Type 0) (desk_of : C → D) (put : E → Whole)
    (each_turn : (before after : C) (step : MarkStep) (turn : Turn) → action_turned before step turn after → turned (desk_of before) step turn (desk_of after))
    (each : (before after : E) (what : PortCall) → does before what after → whole_does (put before) what (put after)) where
  abbrev outside_in : Outside (world_with {lines = lines} action_turned does) → Outside (world_with {lines = lines} turned whole_does)
  outside_in out = record { input = out.input; source = out.source; output = out.output; desk = desk_of out.desk; ends = put out.ends }

  leads_in : {supply : lines.Supply} {before after : Outside (world_with {lines = lines} action_turned does)} {events : List (EventOf lines)}
      → Leads (Does (world_with {lines = lines} action_turned does) supply) before events after
      → Leads (Does (world_with {lines = lines} turned whole_does) supply) (outside_in before) events (outside_in after)
  leads_in none = none
  leads_in (one (received known needed) more) = one (received known needed) (leads_in more)
  leads_in (one sent more) = one sent (leads_in more)
  leads_in (one cut more) = one cut (leads_in more)
  leads_in (one (asked known needed) more) = one (asked known needed) (leads_in more)
  leads_in (one (not_asked unsent split) more) = one (not_asked unsent split) (leads_in more)
  leads_in (one (turned_so does_so) more) = one (turned_so (each_turn _ _ _ _ does_so)) (leads_in more)
  leads_in (one (ported does_so) more) = one (ported (each _ _ _ does_so)) (leads_in more)

  module _ {L : Type 0} where
    abbrev pub state_in : AnyState (world_with {lines = lines} action_turned does) L → AnyState (world_with {lines = lines} turned whole_does) L
    state_in state = record { conn = state.conn; desk = desk_of state.desk; ends = put state.ends }

  module _ {L : Type 0} {views : Views lines L} where
    pub done_in : {events : List (EventOf lines)} {start now : AnyState (world_with {lines = lines} action_turned does) L} → AnyLead {w = world_with {lines = lines} action_turned does} views events start now
        → AnyLead {w = world_with {lines = lines} turned whole_does} views events (state_in start) (state_in now)
    done_in done = record {
      leads = λ supply is. let leads = done.leads supply is in (leads_in leads.0, leads.1);
      reads = done.reads;
      writes = done.writes;
      input_faults = done.input_faults;
      output_faults = done.output_faults;
      link = done.link;
    }

-- at the same desk, with other ends beside
module _ {lines : Lines} {D E Whole : Type 0} (turned : D → MarkStep → Turn → D → Type 0) (does : E → PortCall → E → Type 0) (whole_does : Whole → PortCall → Whole → Type 0)
    (put : E → Whole) (each : (before after : E) (what : PortCall) → does before what after → whole_does (put before) what (put after)) where
  module _ {C : Type 0} where
    abbrev pub state_beside : AnyState (world_with {lines = lines} turned does) C → AnyState (world_with {lines = lines} turned whole_does) C
    state_beside state = record { conn = state.conn; desk = state.desk; ends = put state.ends }

  module _ {C : Type 0} {views : Views lines C} where
    pub done_beside : {events : List (EventOf lines)} {start now : AnyState (world_with {lines = lines} turned does) C} → AnyLead {w = world_with {lines = lines} turned does} views events start now
        → AnyLead {w = world_with {lines = lines} turned whole_does} views events (state_beside start) (state_beside now)
    done_beside done = done_in turned turned does whole_does (λ desk. desk) put (λ before after step turn does_so. does_so) each done
