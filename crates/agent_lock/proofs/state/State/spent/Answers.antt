use Rattle.agent_lock.proofs.Stepping.{spent_is, totals_small}
use Rattle.agent_lock.proofs.state.State.spent.Goals as goal

pub returns-clause-spent : goal.returns-clause-spent
returns-clause-spent c = spent_is c.args.self.now c.requires (rw c.base.ensures.value at c.base.ensures.below) c.spent.result c.spent.ensures

pub returns-clause-small : goal.returns-clause-small
returns-clause-small c = totals_small c.args.self.now c.requires (rw c.base.ensures.value at c.base.ensures.below)
