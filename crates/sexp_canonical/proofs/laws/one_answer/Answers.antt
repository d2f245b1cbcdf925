use Rattle.sexp_canonical.proofs.OneAnswer as answers
use Rattle.sexp_canonical.proofs.laws.one_answer.Goals as goal

pub returns : goal.returns
returns c = answers.one_answer
