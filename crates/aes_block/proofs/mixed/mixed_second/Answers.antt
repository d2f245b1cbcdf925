use Rattle.aes_block.proofs.MixedWords.{second_is}
use Rattle.aes_block.proofs.mixed.mixed_second.Goals as goal

pub returns : goal.returns
returns c = rw c.from.ensures (second_is c.args.byte c.ranges.byte.fits)
