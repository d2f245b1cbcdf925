use Rattle.std.proofs.Common.{◌≡◌, ℕ, ◌+◌, ◌*◌, ◌<◌, get_or}
use Rattle.aes_modes.specs.Ocb.{eight_bits}
use Rattle.aes_modes.proofs.masks.block_from.Given as goal

abbrev pub invariant-loop-k : goal.invariant-loop-k
invariant-loop-k l = (j : ℕ) → j < l.k → get_or l.byte-items j 0 ≡ eight_bits l.bytes (l.bit + 8 * j)
