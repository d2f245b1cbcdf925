use Rattle.sexp_advanced.proofs.Stays.{first_fault_stays}
use Rattle.sexp_advanced.proofs.laws.first_faults_stay.Goals as goal

pub returns : goal.returns
returns c = first_fault_stays
