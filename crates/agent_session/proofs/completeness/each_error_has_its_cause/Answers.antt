use Rattle.agent_session.proofs.{Answering.{in_session, each_caused}, DoorAnswering.at_door}
use Rattle.agent_session.proofs.completeness.each_error_has_its_cause.Goals as goal

pub returns-clause-session : goal.returns-clause-session
returns-clause-session g c rules = each_caused (in_session rules) g.D.Desk.turned g.P.Prompter.prompted g.P.Prompter.at g.met.P.Prompter.promise rules

pub returns-clause-door : goal.returns-clause-door
returns-clause-door g c door rules = each_caused (at_door door rules) g.D.Desk.turned g.P.Prompter.prompted g.P.Prompter.at g.met.P.Prompter.promise rules
