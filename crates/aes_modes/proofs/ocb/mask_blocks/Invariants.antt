use Rattle.aes_modes.{specs.Masks.cipher_of, proofs.OcbSteps.Masking}
use Rattle.aes_modes.proofs.ocb.mask_blocks.Given as goal

abbrev pub invariant-loop-i : goal.invariant-loop-i
invariant-loop-i l = Masking (cipher_of l.direction l.cipher) l.cipher l.first l.offset l.bytes l.fn.bytes l.i
