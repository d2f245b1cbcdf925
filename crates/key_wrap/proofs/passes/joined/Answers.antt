use Rattle.key_wrap.proofs.Steps.{two_halves}
use Rattle.key_wrap.proofs.passes.joined.Goals as goal

pub returns : goal.returns
returns c = rw (c.copy_from_slice.ensures.after, c.copy_from_slice-2.ensures.after) (two_halves _ _ c.told-left c.told-right)
