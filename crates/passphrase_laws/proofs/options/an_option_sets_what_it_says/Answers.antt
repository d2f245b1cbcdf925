use Rattle.passphrase_laws.proofs.Passing.{says_terminal}
use Rattle.passphrase_laws.proofs.options.an_option_sets_what_it_says.Goals as goal

pub returns : goal.returns
returns c = says_terminal
