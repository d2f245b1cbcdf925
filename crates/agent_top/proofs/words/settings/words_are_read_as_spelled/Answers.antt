use Rattle.agent_top.proofs.Spelling.{spelled, only}
use Rattle.agent_top.proofs.words.settings.words_are_read_as_spelled.Goals as goal

pub returns-clause-spelled : goal.returns-clause-spelled
returns-clause-spelled c = spelled

pub returns-clause-only : goal.returns-clause-only
returns-clause-only c = only
