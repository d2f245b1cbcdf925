use Rattle.aes_block.proofs.Computed.{substitute_is}
use Rattle.aes_block.proofs.tables.substitute.Goals as goal

pub returns : goal.returns
returns c = rw c.from.ensures (substitute_is c.args.byte c.ranges.byte.fits)
