use Rattle.agent_ask.proofs.OnlyAnswer.{only_agreed}
use Rattle.agent_ask.proofs.laws.a_consent_has_one_answer.Goals as goal

pub returns : goal.returns
returns c spec notify events first second one two = only_agreed spec notify events first second one two
