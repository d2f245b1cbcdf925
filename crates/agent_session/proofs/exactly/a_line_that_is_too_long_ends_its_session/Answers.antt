use Rattle.agent_session.proofs.{Answering.{in_session, each_caused}, DoorAnswering.at_door, LongLines.{session_long, door_long, long_session}}
use Rattle.agent_session.proofs.exactly.a_line_that_is_too_long_ends_its_session.Goals as goal

pub returns-clause-session : goal.returns-clause-session
returns-clause-session g c rules before after end served =
    long_session (session_long rules)
    (each_caused (in_session rules) g.D.Desk.turned g.P.Prompter.prompted g.P.Prompter.at g.met.P.Prompter.promise rules before after end served)

pub returns-clause-door : goal.returns-clause-door
returns-clause-door g c door rules before after end served =
    long_session (door_long door rules)
    (each_caused (at_door door rules) g.D.Desk.turned g.P.Prompter.prompted g.P.Prompter.at g.met.P.Prompter.promise rules before after end served)
