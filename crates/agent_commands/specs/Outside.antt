-- What a session of this project stands on: the lines that its server reads, a desk, and ports.
use Rattle.{agent_ask.specs.{Events.Call, Session.{ActionStates.DoesPrompts, PortCalls.world_with, Worlds.AnyWorld}}, assuan_server.specs.Clients.session_lines, cache_policy.specs.{declared.mark.MarkStep.MarkStep, Turns.Turn}}

abbrev pub World : Type 1
World = AnyWorld session_lines

-- a desk, and no ports
abbrev pub world : {D : Type 0} → (D → MarkStep → Turn → D → Type 0) → World
world turned = world_with turned {E = Unit {0}} (λ before what after. ⊥)

-- a desk, and a prompter that shows its calls so
abbrev pub prompt_world : {D P : Type 0} → (D → MarkStep → Turn → D → Type 0) → (P → Call → P → Type 0) → World
prompt_world turned prompted = world_with turned (DoesPrompts prompted)
