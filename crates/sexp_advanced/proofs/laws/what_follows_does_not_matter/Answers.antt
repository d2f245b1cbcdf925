use Rattle.sexp_advanced.proofs.Following.{following}
use Rattle.sexp_advanced.proofs.laws.what_follows_does_not_matter.Goals as goal

pub returns : goal.returns
returns c = following
