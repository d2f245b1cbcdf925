use Rattle.agent_top.proofs.EndingWell.{server_ends_well}
use Rattle.agent_top.proofs.completeness.a_server_without_faults_ends_well.Goals as goal

pub returns : goal.returns
returns c rules before after number runs still = server_ends_well runs still
