use Rattle.aes_block.proofs.MixedWords.{fourth_is}
use Rattle.aes_block.proofs.mixed.mixed_fourth.Goals as goal

pub returns : goal.returns
returns c = rw c.from.ensures (fourth_is c.args.byte c.ranges.byte.fits)
