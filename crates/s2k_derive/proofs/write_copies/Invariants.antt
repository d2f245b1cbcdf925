use Rattle.std.proofs.Common.{◌≡◌, ℕ, ◌<◌, ◌++◌, get_or, length}
use Rattle.s2k_derive.proofs.Repeats.{at}
use Rattle.s2k_derive.proofs.write_copies.Given as goal

abbrev pub invariant-loop-i : goal.invariant-loop-i
invariant-loop-i l = (length l.copies ≡ 2048) × ((k : ℕ) → k < l.i → get_or l.copies k 0 ≡ at (l.salt ++ l.pass) k)
