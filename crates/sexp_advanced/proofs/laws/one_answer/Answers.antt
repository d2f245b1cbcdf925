use Rattle.sexp_advanced.proofs.OneAnswer as answers
use Rattle.sexp_advanced.proofs.laws.one_answer.Goals as goal

pub returns : goal.returns
returns c = answers.one_answer
