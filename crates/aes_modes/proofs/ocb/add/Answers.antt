use Rattle.std.proofs.Common.{arith}
use Rattle.aes_block.proofs.XorLemmas.{added_more}
use Rattle.aes_modes.proofs.OcbSteps.{added_is_xor}
use Rattle.aes_modes.proofs.ocb.add.Goals as goal

pub loop-i-preserved : goal.loop-i-preserved
loop-i-preserved c = added_more _ _ _ _ (omega arith) c.loop-i.invariant

pub returns : goal.returns
returns c = added_is_xor _ _ _ _ c.loop-i.invariant (omega arith) (omega arith)
