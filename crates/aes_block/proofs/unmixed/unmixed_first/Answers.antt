use Rattle.aes_block.proofs.UnmixedWords.{first_is}
use Rattle.aes_block.proofs.unmixed.unmixed_first.Goals as goal

pub returns : goal.returns
returns c = rw c.from.ensures (first_is c.args.byte c.ranges.byte.fits)
