use Rattle.std.proofs.Common.{arith}
use Rattle.s2k_derive.proofs.Repeats.{written}
use Rattle.s2k_derive.proofs.write_copies.Goals as goal

pub returns : goal.returns
returns c = written _ _ 2048 c.loop-i.invariant.0 (λ k lt. c.loop-i.invariant.1 k (omega arith))
