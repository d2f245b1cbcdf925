use Rattle.std.proofs.Common.{ap, length, arith}
use Rattle.secret_file.proofs.Within.{encrypted_within}
use Rattle.secret_file.proofs.locked.Locked.protection.Goals as goal

pub returns-clause-short : goal.returns-clause-short
returns-clause-short c = omega (arith, encrypted_within _ c.self.invariant.0 c.self.invariant.1, ap length c.as_slice.ensures.value)
