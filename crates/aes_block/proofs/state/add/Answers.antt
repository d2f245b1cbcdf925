use Rattle.aes_block.proofs.WordBytes.{state_sum}
use Rattle.aes_block.proofs.state.add.Goals as goal

pub returns : goal.returns
returns c = state_sum c.args.state.now c.args.key.now c.told-state c.told-key
