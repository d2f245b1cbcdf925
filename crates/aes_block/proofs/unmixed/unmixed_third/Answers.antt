use Rattle.aes_block.proofs.UnmixedWords.{third_is}
use Rattle.aes_block.proofs.unmixed.unmixed_third.Goals as goal

pub returns : goal.returns
returns c = rw c.from.ensures (third_is c.args.byte c.ranges.byte.fits)
