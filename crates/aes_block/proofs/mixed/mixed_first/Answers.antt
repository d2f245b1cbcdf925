use Rattle.aes_block.proofs.MixedWords.{first_is}
use Rattle.aes_block.proofs.mixed.mixed_first.Goals as goal

pub returns : goal.returns
returns c = rw c.from.ensures (first_is c.args.byte c.ranges.byte.fits)
