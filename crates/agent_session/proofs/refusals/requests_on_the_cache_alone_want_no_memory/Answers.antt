use Rattle.agent_commands.specs.Requests.{request_of}
use Rattle.agent_session.proofs.{AtOnce.all_fit, Fair.{all_fair, alone}}
use Rattle.agent_session.proofs.refusals.requests_on_the_cache_alone_want_no_memory.Goals as goal

pub returns : goal.returns
returns g c wants rules kept now line events went supply before after exchange leads still =
    alone rules (request_of line) exchange (all_fit g.D.Desk.turned g.P.Prompter.prompted g.D.Desk.at g.met.D.Desk.promise leads) (all_fair g.D.Desk.turned g.P.Prompter.prompted wants leads) still
