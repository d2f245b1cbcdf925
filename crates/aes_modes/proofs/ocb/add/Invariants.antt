use Rattle.aes_block.proofs.XorLemmas.{Added}
use Rattle.aes_modes.proofs.ocb.add.Given as goal

abbrev pub invariant-loop-i : goal.invariant-loop-i
invariant-loop-i l = Added l.fn.bytes l.block l.bytes l.i
