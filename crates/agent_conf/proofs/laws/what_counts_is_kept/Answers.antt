use Rattle.agent_conf.proofs.CountingLemmas.{number_counts}
use Rattle.agent_conf.proofs.laws.what_counts_is_kept.Goals as goal

pub returns : goal.returns
returns c = number_counts
