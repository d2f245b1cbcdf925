use Rattle.agent_top.proofs.Loading.{session_keeps}
use Rattle.agent_top.proofs.load.serve_lines.Goals as goal

pub returns-clause-keeps : goal.returns-clause-keeps
returns-clause-keeps g c = session_keeps g.C.Clock.readings _ _ c.serve_session.ensures.serves.leads
