use Rattle.agent_origin.proofs.OuterPrompts.{option_unset_there}
use Rattle.agent_origin.proofs.laws.an_option_of_the_terminal_does_nothing_there.Goals as goal

pub returns : goal.returns
returns c = λ rules before after line events went allows sets exchanged. option_unset_there line allows sets exchanged
