use Rattle.aes_block.proofs.XorLemmas.{Added}
use Rattle.aes_block.proofs.xor.Given as goal

abbrev pub invariant-loop-i : goal.invariant-loop-i
invariant-loop-i g l = Added l.left l.right l.sum l.i
