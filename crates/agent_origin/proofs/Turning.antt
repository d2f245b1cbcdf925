-- The turns among a session's events.
use Rattle.std.proofs.Common.{List}
use Rattle.{agent_ports.specs.Leads.{Leads, none, one}, cache_policy.specs.Extending.TakesTurn, agent_commands.specs.{Events.EventWith, Outside.World}, agent_ask.specs.Session.SessionEvents.turns_in}
use Rattle.{agent_ask.specs.Session.Worlds.{Outside, Does, received, sent, cut, asked, not_asked, turned, ported}, assuan_server.specs.Reading.Supply}

pub turns_lead : {w : World} {supply : Supply} {before after : Outside w} {events : List (EventWith w.Port)} → Leads (Does w supply) before events after
    → Leads (TakesTurn w.turned) before.desk (turns_in events) after.desk
turns_lead none = none
turns_lead (one (received known needed) later) = turns_lead later
turns_lead (one sent later) = turns_lead later
turns_lead (one cut later) = turns_lead later
turns_lead (one (asked known needed) later) = turns_lead later
turns_lead (one (not_asked unsent split) later) = turns_lead later
turns_lead (one (turned does) later) = one does (turns_lead later)
turns_lead (one (ported does) later) = turns_lead later
