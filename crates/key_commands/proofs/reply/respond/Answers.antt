use Rattle.{agent_ask.specs.Session.ActionReplies.{replied, refused}, assuan_server.proofs.Clients.{said_so, line_so}}
use Rattle.key_commands.proofs.reply.respond.Goals as goal

pub returns-in-Ok : goal.returns-in-Ok
returns-in-Ok g c = let said = c.write_reply.ensures in rw (c.in-Ok.is, c.unless_cut.ensures) (replied c.write_reply.result said.1 (said_so said.2))

pub returns-in-Err : goal.returns-in-Err
returns-in-Err g c = rw (c.in-Err.is, c.unless_cut-in-Err.ensures, c.went_after.ensures) (refused c.refuse.result (line_so _ _ _ _ c.refuse.ensures))
