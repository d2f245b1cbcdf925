use Rattle.agent_session.proofs.{Answering.in_session, Counts.Completing.all_possible, DoorAnswering.at_door}
use Rattle.agent_session.proofs.refusals.a_session_goes_on_after_an_error.Goals as goal

pub returns-clause-session : goal.returns-clause-session
returns-clause-session g c rules kept now line events went supply before after why origin exchange leads =
    (in_session rules).goes_on kept line events now went (all_possible g.D.Desk.turned g.P.Prompter.prompted g.P.Prompter.at g.met.P.Prompter.promise leads) exchange why origin

pub returns-clause-door : goal.returns-clause-door
returns-clause-door g c door rules kept now line events went supply before after why origin exchange leads =
    (at_door door rules).goes_on kept line events now went (all_possible g.D.Desk.turned g.P.Prompter.prompted g.P.Prompter.at g.met.P.Prompter.promise leads) exchange why origin
