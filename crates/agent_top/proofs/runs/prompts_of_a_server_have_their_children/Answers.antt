use Rattle.agent_top.proofs.RunLaws.{server_prompts}
use Rattle.agent_top.proofs.runs.prompts_of_a_server_have_their_children.Goals as goal

pub returns : goal.returns
returns c rules before after number runs = server_prompts c.a_pinentry_is_a_prompter.ensures runs
