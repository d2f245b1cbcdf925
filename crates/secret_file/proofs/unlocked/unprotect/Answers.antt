use Rattle.secret_file.proofs.OneAnswer.{opens, key_opens}
use Rattle.secret_file.proofs.unlocked.unprotect.Goals as goal

pub returns-clause-key : goal.returns-clause-key
returns-clause-key c = key_opens c.args.file.now c.args.pass.now c.answer_for_file.result c.answer_for_file.ensures.answer

pub returns-clause-opens : goal.returns-clause-opens
returns-clause-opens c = opens c.args.file.now c.args.pass.now c.answer_for_file.result c.answer_for_file.ensures.answer
