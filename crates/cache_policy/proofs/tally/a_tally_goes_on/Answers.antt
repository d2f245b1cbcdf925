use Rattle.cache_policy.proofs.Tallying.{tally_with_mark}
use Rattle.cache_policy.proofs.tally.a_tally_goes_on.Goals as goal

pub returns-clause-one : goal.returns-clause-one
returns-clause-one c = tally_with_mark
