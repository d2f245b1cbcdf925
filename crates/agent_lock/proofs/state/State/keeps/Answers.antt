use Rattle.agent_lock.proofs.Stepping.{is_locked}
use Rattle.agent_lock.proofs.state.State.keeps.Goals as goal

pub returns : goal.returns
returns c = is_locked c.args.self.now c.requires
