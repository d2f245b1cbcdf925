use Rattle.agent_top.proofs.EndingWell.{load_ends_well}
use Rattle.agent_top.proofs.completeness.a_load_without_faults_ends_well.Goals as goal

pub returns : goal.returns
returns c number before after result runs stays = load_ends_well runs stays
