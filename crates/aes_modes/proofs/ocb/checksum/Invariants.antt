use Rattle.std.proofs.Common.{◌≡◌, drop}
use Rattle.aes_modes.specs.Ocb.{sum_from, zeros}
use Rattle.aes_modes.proofs.ocb.checksum.Given as goal

abbrev pub invariant-loop-block : goal.invariant-loop-block
invariant-loop-block l = sum_from l.sum (drop l.block-index l.blocks) ≡ sum_from zeros l.blocks
