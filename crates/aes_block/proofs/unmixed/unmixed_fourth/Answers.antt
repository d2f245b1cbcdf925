use Rattle.aes_block.proofs.UnmixedWords.{fourth_is}
use Rattle.aes_block.proofs.unmixed.unmixed_fourth.Goals as goal

pub returns : goal.returns
returns c = rw c.from.ensures (fourth_is c.args.byte c.ranges.byte.fits)
