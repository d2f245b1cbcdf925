-- What a session does for its requests on keys, over the lines that this project's server reads.
use Rattle.std.specs.Prelude.{ℕ, List, ⊤}
use Rattle.{agent_ask.specs.{Events.Called, Session.{PortCalls.{EventOf, KeyCall, Read, Keys, Dice, Drew, NotDrawn, NoMemory, Prompt}, SessionEvents.Port}}, agent_ports.specs.declared.{grip.Grip.Grip, keys.KeyRead.KeyRead}}
use Rattle.assuan_server.specs.Clients.{session_lines}

abbrev pub Event : Type 0
Event = EventOf session_lines

-- the keys were called, and answered so
abbrev pub called : KeyCall → Event
called call = Port (Keys call)

abbrev pub read : Grip → KeyRead → Event
read grip answer = called (Read grip answer)

-- random bytes were drawn, or so many couldn't be
abbrev pub drew : List ℕ → Event
drew bytes = Port (Dice (Drew bytes))

abbrev pub not_drawn : ℕ → Event
not_drawn count = Port (Dice (NotDrawn count))

-- the command found no memory for work of its own
abbrev pub out_of_memory : Event
out_of_memory = Port NoMemory

-- an event that is no call of the prompter
abbrev pub IsUncalled : Event → Type 0
IsUncalled (Port (Prompt (Called call))) = ⊥
IsUncalled _ = ⊤
