use Rattle.secret_file.proofs.OneAnswer as answers
use Rattle.secret_file.proofs.laws.one_answer.Goals as goal

pub returns : goal.returns
returns c = answers.one_answer
