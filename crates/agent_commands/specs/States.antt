-- How a session stands at some state of its code, and how events lead from one state to another.
use Rattle.std.specs.Prelude.{List}
use Rattle.{agent_ask.specs.{Session.{Answering.AnswersBy, States.{AnyState, AnyLead}}, Events.Call}, assuan_server.specs.{Connections.Connection, Clients.connection_views}, cache_policy.specs.{declared.mark.MarkStep.MarkStep, Turns.Turn}}
use Rattle.agent_commands.specs.{Endings.{went_after, gone_after}, Events.EventWith, Outside.{World, world, prompt_world}, declared.went.Went.Went}

-- a state in the code: its connection, its desk, and the ports
abbrev pub ServedState : World → Type 0
ServedState w = AnyState w Connection

-- where the prompter isn't called
abbrev pub served_state : {D : Type 0} (turned : D → MarkStep → Turn → D → Type 0) → Connection → D → ServedState (world turned)
served_state turned conn desk = record { conn = conn; desk = desk; ends = tt }

abbrev pub prompt_state : {D P : Type 0} (turned : D → MarkStep → Turn → D → Type 0) (prompted : P → Call → P → Type 0) → Connection → D → P
    → ServedState (prompt_world turned prompted)
prompt_state turned prompted conn desk prompter = record { conn = conn; desk = desk; ends = prompter }

-- these events lead from one state to another
abbrev pub EventsLead : {w : World} → List (EventWith w.Port) → ServedState w → ServedState w → Type 0
EventsLead = AnyLead connection_views

-- a request was answered, whole or in part, whatever is kept between requests
abbrev pub AnswersRequest : {w : World} {S : Type 0} → (S → List (EventWith w.Port) → S → Went → Type 0) → S → ServedState w → Went → S → ServedState w → Type 0
AnswersRequest {w} exchange before = AnswersBy {w = w} connection_views went_after gone_after (exchange before)
