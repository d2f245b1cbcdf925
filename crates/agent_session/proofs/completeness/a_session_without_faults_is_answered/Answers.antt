use Rattle.agent_session.proofs.{Answering.{in_session, all_answered}, DoorAnswering.at_door}
use Rattle.agent_session.proofs.completeness.a_session_without_faults_is_answered.Goals as goal

pub returns-clause-session : goal.returns-clause-session
returns-clause-session g c rules = all_answered (in_session rules) g.D.Desk.turned g.P.Prompter.prompted g.P.Prompter.at g.met.P.Prompter.promise rules

pub returns-clause-door : goal.returns-clause-door
returns-clause-door g c door rules = all_answered (at_door door rules) g.D.Desk.turned g.P.Prompter.prompted g.P.Prompter.at g.met.P.Prompter.promise rules
