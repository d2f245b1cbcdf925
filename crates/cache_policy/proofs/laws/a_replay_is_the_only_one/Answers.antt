use Rattle.cache_policy.proofs.Replaying.{only_replay}
use Rattle.cache_policy.proofs.laws.a_replay_is_the_only_one.Goals as goal

pub returns : goal.returns
returns c = only_replay
