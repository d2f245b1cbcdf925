use Rattle.passphrase_words.proofs.Reading.{one_way}
use Rattle.passphrase_words.proofs.laws.a_command_line_is_read_one_way.Goals as goal

pub returns : goal.returns
returns c = one_way
