use Rattle.agent_top.proofs.Loading.{keeps_itself, keeps_on}
use Rattle.agent_top.proofs.load.serve_sessions.Goals as goal

pub loop-session-init : goal.loop-session-init
loop-session-init g c = record { free = c.requires.free; keeps = keeps_itself _ }

pub loop-session-preserved : goal.loop-session-preserved
loop-session-preserved g c = record { free = c.serve_lines.ensures.free; keeps = keeps_on _ _ _ c.loop-session.invariant.keeps c.serve_lines.ensures.keeps }
