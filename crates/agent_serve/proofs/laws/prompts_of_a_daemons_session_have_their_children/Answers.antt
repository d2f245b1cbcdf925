use Rattle.std.proofs.Common.{refl}
use Rattle.{agent_ports.specs.Readings.Readings, agent_origin.specs.DoorSessions.DoorExchange, counted_lock.specs.Turns.CountedTurn}
use Rattle.agent_serve.proofs.{PromptedLines.door_prompted, PromptedSessions.{session_prompted, have_prompts}}
use Rattle.agent_serve.proofs.laws.prompts_of_a_daemons_session_have_their_children.Goals as goal

pub returns : goal.returns
returns g c path rules door session before after pass now end serves =
    have_prompts (CountedTurn (λ (readings : Readings). readings)) c.a_pinentry_is_a_prompter.ensures rules.pinentry.items _ serves.launches_now refl refl
    (session_prompted (DoorExchange door rules) (λ kept line events next went exchanged. door_prompted exchanged) serves.served.session) serves.served.leads
