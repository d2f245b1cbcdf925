use Rattle.secret_file.proofs.OneAnswer as answers
use Rattle.secret_file.proofs.laws.unprotect_is_three_calls.Goals as goal

pub returns-clause-unlocked : goal.returns-clause-unlocked
returns-clause-unlocked c = answers.unlocked_answers

pub returns-clause-opened : goal.returns-clause-opened
returns-clause-opened c = answers.locked_answers
