use Rattle.agent_top.proofs.EndingWell.{daemon_ends_well}
use Rattle.agent_top.proofs.completeness.a_daemon_without_faults_ends_well.Goals as goal

pub returns : goal.returns
returns g c path rules listens listens_now before after number runs heard written = daemon_ends_well runs heard written
