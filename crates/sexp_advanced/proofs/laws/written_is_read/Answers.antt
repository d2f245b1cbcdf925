use Rattle.sexp_advanced.proofs.Again.{written_again}
use Rattle.sexp_advanced.proofs.laws.written_is_read.Goals as goal

pub returns : goal.returns
returns c = written_again
