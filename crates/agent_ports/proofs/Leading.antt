-- Events one after another.
use Rattle.std.specs.Prelude.{List, ◌++◌, map}
use Rattle.agent_ports.specs.Leads.{Leads, none, one}

-- some events, and then others
pub leads_then : {S E : Type 0} {Does : S → E → S → Type 0} {start mid now : S} {first second : List E}
    → Leads Does start first mid → Leads Does mid second now → Leads Does start (first ++ second) now
leads_then none later = later
leads_then (one does leads) later = one does (leads_then leads later)

-- where each event does another thing to another state
pub leads_by : {S T E F : Type 0} {Does : S → E → S → Type 0} {Other : T → F → T → Type 0} (state : S → T) (event : E → F)
    → ((before after : S) (what : E) → Does before what after → Other (state before) (event what) (state after))
    → {start now : S} {events : List E} → Leads Does start events now → Leads Other (state start) (map event events) (state now)
leads_by state event lift none = none
leads_by state event lift (one does leads) = one (lift _ _ _ does) (leads_by state event lift leads)
