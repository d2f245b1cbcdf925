use Rattle.aes_block.proofs.Computed.{original_is}
use Rattle.aes_block.proofs.tables.original.Goals as goal

pub returns : goal.returns
returns c = rw c.from.ensures (original_is c.args.byte c.ranges.byte.fits)
