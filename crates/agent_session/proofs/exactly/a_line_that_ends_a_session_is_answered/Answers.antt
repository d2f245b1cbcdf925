use Rattle.std.proofs.Common.{refl}
use Rattle.agent_session.proofs.Decisions.ExactEnds.{end_told}
use Rattle.agent_session.proofs.exactly.a_line_that_ends_a_session_is_answered.Goals as goal

pub returns : goal.returns
returns c rules kept now line events exchange = end_told exchange refl
