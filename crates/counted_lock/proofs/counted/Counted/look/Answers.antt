use Rattle.std.proofs.Common.{refl}
use Rattle.counted_lock.proofs.Passing.{looks_on}
use Rattle.counted_lock.proofs.counted.Counted.look.Goals as goal

pub invariant_of-pass : goal.invariant_of-pass
invariant_of-pass g c = looks_on _ _ _ _ _ _ _ _ _ _ _ c.pass.invariant c.enter-cored.ensures.enters c.leave.ensures.gives refl c.stopped-pass-inside.ensures
