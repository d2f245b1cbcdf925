use Rattle.agent_commands.specs.Requests.{request_of}
use Rattle.agent_session.proofs.AtOnce.{all_fit, at_once, each_calm}
use Rattle.agent_session.proofs.completeness.requests_without_a_prompt_are_answered.Goals as goal

pub returns : goal.returns
returns g c rules kept now line events went supply before after exchange leads remembers goes_on =
    at_once rules (request_of line) exchange (all_fit g.D.Desk.turned g.P.Prompter.prompted g.D.Desk.at g.met.D.Desk.promise leads) (each_calm events remembers goes_on)
