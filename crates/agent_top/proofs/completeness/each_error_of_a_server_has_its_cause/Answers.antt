use Rattle.agent_top.proofs.Answered.{server_caused}
use Rattle.agent_top.proofs.completeness.each_error_of_a_server_has_its_cause.Goals as goal

pub returns : goal.returns
returns c rules before after number runs = server_caused c.a_pinentry_is_a_prompter.ensures runs
