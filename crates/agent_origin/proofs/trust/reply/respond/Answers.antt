use Rattle.std.proofs.Common.{refl}
use Rattle.{agent_ask.specs.Session.ActionReplies.{replied, refused}, assuan_server.proofs.{Clients.{said_so, line_so}, Saying.said}}
use Rattle.agent_origin.proofs.trust.reply.respond.Goals as goal

pub returns-in-Ok : goal.returns-in-Ok
returns-in-Ok g c = rw (c.in-Ok.is, c.unless_cut.ensures) (replied c.whole.result refl (said_so (said c.whole.ensures c.ok.ensures)))

pub returns-in-Err : goal.returns-in-Err
returns-in-Err g c = rw (c.in-Err.is, c.unless_cut-in-Err.ensures, c.went_after.ensures) (refused c.refuse.result (line_so _ _ _ _ c.refuse.ensures))
