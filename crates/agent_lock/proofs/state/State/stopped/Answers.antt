use Rattle.std.proofs.Common.{◌∙◌}
use Rattle.agent_lock.proofs.Stepping.{stopped_is}
use Rattle.agent_lock.proofs.state.State.stopped.Goals as goal

pub returns : goal.returns
returns c = c.stopped.ensures ∙ stopped_is c.args.self.now c.requires
