use Rattle.std.proofs.Common.{length}
use Rattle.assuan_server.proofs.Writing.{IsWriting}
use Rattle.assuan_server.proofs.conn.Conn.data_lines.Given as goal

abbrev pub invariant-loop-rest : goal.invariant-loop-rest
invariant-loop-rest g l = IsWriting l.fn.bytes l.fn.self l.self l.rest l.sent

abbrev pub decreases-loop-rest : goal.decreases-loop-rest
decreases-loop-rest g l = length l.rest
