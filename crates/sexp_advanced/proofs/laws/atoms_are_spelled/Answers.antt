use Rattle.sexp_advanced.proofs.Spelled as spelled
use Rattle.sexp_advanced.proofs.laws.atoms_are_spelled.Goals as goal

pub returns : goal.returns
returns c = spelled.atoms_are_spelled
