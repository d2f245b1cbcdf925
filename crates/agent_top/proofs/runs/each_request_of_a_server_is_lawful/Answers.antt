use Rattle.agent_top.proofs.RunLaws.{server_lawful}
use Rattle.agent_top.proofs.runs.each_request_of_a_server_is_lawful.Goals as goal

pub returns : goal.returns
returns c rules before after number runs = server_lawful c.a_pinentry_is_a_prompter.ensures runs
