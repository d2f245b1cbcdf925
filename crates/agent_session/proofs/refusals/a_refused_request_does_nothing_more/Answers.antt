use Rattle.{assuan_server.specs.declared.errors.Origin.TheVariants.Agent, agent_commands.specs.Requests.request_of}
use Rattle.agent_session.proofs.{AtOnce.all_fit, Counts.Completing.{all_possible, never_absent}, Causes.KeyExplained.exchange_caused, Courses.{RefusedCourses.{caused_refuses, refused_course}, SessionCourses.request_course}}
use Rattle.agent_session.proofs.refusals.a_refused_request_does_nothing_more.Goals as goal

pub returns : goal.returns
returns g c rules kept now line events went supply before after why exchange leads own has =
    let fits = all_fit g.D.Desk.turned g.P.Prompter.prompted g.D.Desk.at g.met.D.Desk.promise leads in
    let possible = all_possible g.D.Desk.turned g.P.Prompter.prompted g.P.Prompter.at g.met.P.Prompter.promise leads in
    let caused = (exchange_caused rules kept line (never_absent possible) exchange).caused why Agent has in
    refused_course (request_of line) (request_course (request_of line) exchange) (caused_refuses fits rules kept (request_of line) own caused)
