use Rattle.aes_modes.proofs.OcbSteps.{Hashing}
use Rattle.aes_modes.proofs.ocb.hash.Given as goal

abbrev pub invariant-loop-i : goal.invariant-loop-i
invariant-loop-i l = Hashing l.cipher l.offset l.sum l.blocks l.i
