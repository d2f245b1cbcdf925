use Rattle.std.proofs.Common.{arith, ◌∙◌, sym}
use Rattle.aes_block.proofs.XorLemmas.{added_more, xor_of_from}
use Rattle.aes_block.proofs.xor.Goals as goal

pub loop-i-preserved : goal.loop-i-preserved
loop-i-preserved g c = added_more _ _ _ _ (omega arith) c.loop-i.invariant

pub returns : goal.returns
returns g c = xor_of_from _ _ _ c.loop-i.invariant.len (c.told-left ∙ sym c.told-right) (λ k lt. c.loop-i.invariant.done k (omega arith))
