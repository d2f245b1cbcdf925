-- The prompts of a session, one after another, and their children. This is the project's own.
use Rattle.std.specs.{List.count_by, Prelude.{ℕ, List, [], ◌∷◌}}
use Rattle.{agent_ask.specs.{Events.{Call, Called}, Session.{PortCalls.Prompt, SessionEvents.Port}, Prompters.is_failed}, agent_ports.specs.{Counts.RoseBy, Launches.Launches}, key_commands.specs.Events.Event}
use Rattle.pinentry_client.specs.Children.{ArePrompts, HaveTheirChildren}

-- the calls of the prompter among the events
abbrev pub calls_in : List Event → List Call
calls_in [] = []
calls_in (Port (Prompt (Called call)) ∷ later) = call ∷ calls_in later
calls_in (event ∷ later) = calls_in later

-- the prompter's calls among these events are those of prompts, one after another, each from its start to its end
pub record Prompted (events : List Event) : Type 0 where
  pub prompts : List (List Call)
  pub are : ArePrompts prompts (calls_in events)

-- The calls among these events are those of prompts, one after another, each from its start to its end. These have their children, which run this
-- program; and of the calls at most as many failed as the launcher's count rose by, as long as that is below its last value.
pub record HavePrompts (program : List ℕ) (events : List Event) (before after : Launches) : Type 0 where
  pub prompts : List (List Call)
  pub are : ArePrompts prompts (calls_in events)
  pub children : HaveTheirChildren program prompts before after
  pub failures : RoseBy (count_by is_failed (calls_in events)) before.faults after.faults
