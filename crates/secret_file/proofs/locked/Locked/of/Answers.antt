use Rattle.std.proofs.Common.{inr, sym, ◌∙◌}
use Rattle.secret_file.proofs.locked.Locked.of.Goals as goal

pub returns-in-Err-clause-fault : goal.returns-in-Err-clause-fault
returns-in-Err-clause-fault c = inr (inr (sym c.is_clear.ensures.clear ∙ c.if-is_clear.false, rw c.private.ensures at c.in-Err.ensures.fault))
