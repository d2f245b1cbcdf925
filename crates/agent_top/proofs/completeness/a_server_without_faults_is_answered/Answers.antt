use Rattle.agent_top.proofs.Answered.{server_answered}
use Rattle.agent_top.proofs.completeness.a_server_without_faults_is_answered.Goals as goal

pub returns : goal.returns
returns c rules before after number runs still = server_answered c.a_pinentry_is_a_prompter.ensures runs still
