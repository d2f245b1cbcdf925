use Rattle.agent_ask.proofs.OnlyAnswer.{only_asked}
use Rattle.agent_ask.proofs.laws.a_prompt_has_one_answer.Goals as goal

pub returns : goal.returns
returns g c spec plan test events first second one two = only_asked spec plan (g.T.Test.rule test) events first second one two
