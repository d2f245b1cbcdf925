use Rattle.std.{proofs.Common.{[], Result, Err, subst}, specs.Prelude.ℕ}
use Rattle.{assuan_escape.specs.DataLines.data_text, assuan_text.specs.LineEnds.line_of}
use Rattle.assuan_server.{specs.Written.{WritesData, ok_text}, proofs.Writing.cut_within}
use Rattle.assuan_server.proofs.conn.Conn.last_data.Goals as goal

pub returns-in-Err : goal.returns-in-Err
returns-in-Err g c =
    let wrote : WritesData c.args.bytes.now c.args.self.now (Err c.in-Err.sent) c.data_lines.new.self =
    subst (λ (r : Result ℕ ℕ). WritesData c.args.bytes.now c.args.self.now r c.data_lines.new.self) c.in-Err.is c.data_lines.ensures in
    (wrote.pieces, wrote.are_data, cut_within (data_text wrote.pieces) (line_of (ok_text [])) c.args.self.now c.data_lines.new.self c.in-Err.sent wrote.written)
