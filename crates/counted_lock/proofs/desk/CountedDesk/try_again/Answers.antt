use Rattle.counted_lock.proofs.Desks.{later_try}
use Rattle.counted_lock.proofs.desk.CountedDesk.try_again.Goals as goal

pub returns-in_default-clause-tries : goal.returns-in_default-clause-tries
returns-in_default-clause-tries g c = later_try _ _ _ _ _ _ _ c.step.ensures c.requires c.attempt.ensures.tries

pub returns-in-Err-clause-tries : goal.returns-in-Err-clause-tries
returns-in-Err-clause-tries g c = later_try _ _ _ _ _ _ _ c.step.ensures c.requires c.in-Err.ensures.tries
