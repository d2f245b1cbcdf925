use Rattle.std.proofs.Common.{Ok, take}
use Rattle.assuan_server.specs.Written.{WritesText}
use Rattle.agent_commands.proofs.Helping.{lines}
use Rattle.agent_commands.proofs.response.write_names.Given as goal

abbrev pub invariant-loop-name : goal.invariant-loop-name
invariant-loop-name g l = WritesText (lines l.fn.trusts (take l.name-index l.fn.rows)) l.fn.conn (Ok tt) l.conn
