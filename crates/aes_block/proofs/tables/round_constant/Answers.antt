use Rattle.std.proofs.Common.{arith}
use Rattle.aes_block.proofs.Computed.{round_constant_is}
use Rattle.aes_block.proofs.tables.round_constant.Goals as goal

pub returns : goal.returns
returns c = round_constant_is _ (omega arith)
