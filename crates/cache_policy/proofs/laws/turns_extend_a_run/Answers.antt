use Rattle.cache_policy.proofs.Extending.{extends}
use Rattle.cache_policy.proofs.laws.turns_extend_a_run.Goals as goal

pub returns : goal.returns
returns g c = extends g.D.Desk.at g.D.Desk.turned g.met.D.Desk.promise
