use Rattle.aes_block.proofs.UnmixedWords.{second_is}
use Rattle.aes_block.proofs.unmixed.unmixed_second.Goals as goal

pub returns : goal.returns
returns c = rw c.from.ensures (second_is c.args.byte c.ranges.byte.fits)
