use Rattle.aes_modes.proofs.Tags.{Seen}
use Rattle.aes_modes.proofs.ocb.are_equal.Given as goal

abbrev pub invariant-loop-byte : goal.invariant-loop-byte
invariant-loop-byte l = Seen l.byte-items l.differences l.byte-index
