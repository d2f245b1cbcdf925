-- A session from bytes to bytes: what it does, and how each of its ends to the outside fixes that. How it ends is this project's own.
use Rattle.std.specs.{Prelude.{◌≡◌, ◌≤◌, ◌+◌, ℕ, List, [], ◌∷◌, ◌++◌, length, Option}, Option.option_map_or}
use Rattle.{agent_ports.specs.{Counts.Rose, Leads.Leads, Sides.{Side, WhereKnown}}, agent_commands.specs.{Events.EventWith, Outside.World, Talks.Session, declared.went.{Went.Went, SessionEnd.SessionEnd}}}
use Rattle.{agent_commands.specs.declared.went.SessionEnd.TheVariants.{Bye, Killed, Ended, TooLong, Spent, ReadFault, WriteFault}, agent_ask.specs.{LinkFaults.{fails_at_input, fails_at_output, CountsFailed}, Session.SessionEvents.Cut}}
use Rattle.{agent_ask.specs.Session.Worlds.{Outside, Does}, assuan_server.specs.{Clients.session_lines, Reading.{budget, Supply}}}

-- what a session has to do with: both sides of its link, its desk, and the ports
pub record Surroundings (w : World) : Type 0 where
  pub input : Side
  pub output : Side
  pub desk : w.Desk
  pub ends : w.Ends

-- its ends, where these bytes come next
abbrev pub ends_with : {w : World} → Option (List ℕ) → Surroundings w → Outside w
ends_with input around = record { input = input; source = around.input.bytes; output = around.output.bytes; desk = around.desk; ends = around.ends }

-- a session's supply: how many bytes come, where they are known, and its budget
abbrev pub supply_of : Option (List ℕ) → Supply
supply_of bytes = record { total = option_map_or (λ known. length known) bytes 0; budget = budget }

-- What the source still holds of the bytes from the session's last place on: all of them, but a reader may hold bytes ahead of the
-- lines that it gave.
abbrev pub Leaves : SessionEnd → List ℕ → List ℕ → Type 0
Leaves Bye rest left = (ahead : List ℕ) × (rest ≡ ahead ++ left)
Leaves Killed rest left = (ahead : List ℕ) × (rest ≡ ahead ++ left)
Leaves WriteFault rest left = (ahead : List ℕ) × (rest ≡ ahead ++ left)
Leaves Ended rest left = rest ≡ left
Leaves TooLong rest left = rest ≡ left
Leaves Spent rest left = rest ≡ left
Leaves ReadFault rest left = rest ≡ left

-- what is done for a line by what was kept before it, what is kept after it, and how the session goes on
abbrev pub LineRelation : World → Type 0 → Type 1
LineRelation w S = S → List ℕ → List (EventWith w.Port) → S → Went → Type 0

-- What a session did to what it has to do with. Its events are a session's, and lead its ends from before to after: the bytes that
-- were written are theirs, their turns are the desk's, and their requests and inquiries are those of the bytes that were read, of
-- which each took no more than it may, and all together no more than the budget allows.
pub record ServesSession {w : World} {S : Type 0} (exchange : LineRelation w S) (start : S) (before : Surroundings w) (end : SessionEnd) (after : Surroundings w) : Type 0 where
  pub events : List (EventWith w.Port)
  pub session : Session exchange start events end
  -- the bytes from the session's last place on
  pub rest : Option (List ℕ)
  pub leads : Leads (Does w (supply_of before.input.bytes)) (ends_with before.input.bytes before) events (ends_with rest after)
  pub leaves : WhereKnown rest after.input.bytes (Leaves end)
  pub taken : WhereKnown before.input.bytes after.input.bytes (λ bytes left. length bytes ≤ budget + length left)
  -- nothing is read before the greeting is written
  pub greeted : (sent : List ℕ) → events ≡ Cut sent ∷ [] → after.input ≡ before.input
  -- a fault is given only where its count has risen
  pub read_fault : end ≡ ReadFault → Rose before.input.faults after.input.faults
  pub write_fault : end ≡ WriteFault → Rose before.output.faults after.output.faults
  -- of the events at the link at most as many failed as its counts rose by, as long as these are below their last value, and they never fall
  pub reads : CountsFailed (fails_at_input session_lines) events before.input.faults after.input.faults
  pub writes : CountsFailed (fails_at_output session_lines) events before.output.faults after.output.faults
  pub input_faults : before.input.faults ≤ after.input.faults
  pub output_faults : before.output.faults ≤ after.output.faults
