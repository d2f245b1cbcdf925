use Rattle.passphrase_words.proofs.Reading.{one_fault}
use Rattle.passphrase_words.proofs.laws.a_command_line_is_refused_one_way.Goals as goal

pub returns : goal.returns
returns c = λ words one other refused again. one_fault refused again
