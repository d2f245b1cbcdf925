use Rattle.{agent_commands.specs.Requests.request_of, agent_origin.specs.{DoorSessions.DoorExchange, SessionExchanges.SessionExchange}}
use Rattle.agent_serve.proofs.{PromptedLines.{request_prompted, door_prompted}, PromptedSessions.session_prompted}
use Rattle.agent_serve.proofs.laws.the_calls_of_a_session_are_prompts.Goals as goal

pub returns-clause-session : goal.returns-clause-session
returns-clause-session g c = λ rules before after end served.
    session_prompted (SessionExchange rules) (λ kept line events next went exchanged. request_prompted (request_of line) exchanged) served.session

pub returns-clause-door : goal.returns-clause-door
returns-clause-door g c = λ door rules before after end served.
    session_prompted (DoorExchange door rules) (λ kept line events next went exchanged. door_prompted exchanged) served.session
