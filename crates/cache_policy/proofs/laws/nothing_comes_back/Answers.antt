-- The law is the lemma.
use Rattle.cache_policy.proofs.ReturnLemmas.{given_rightly}
use Rattle.cache_policy.proofs.laws.nothing_comes_back.Goals as goal

pub returns : goal.returns
returns c = given_rightly
