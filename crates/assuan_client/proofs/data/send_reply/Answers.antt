use Rattle.std.specs.Prelude.{codes}
use Rattle.{agent_ports.proofs.Writing.{writes_then, writes_first}, assuan_escape.specs.DataLines.data_text, assuan_text.specs.LineEnds.line_of}
use Rattle.assuan_client.proofs.Sending.{put_failed}
use Rattle.assuan_client.proofs.data.send_reply.Goals as goal

pub returns-in_err-send_data-clause-put : goal.returns-in_err-send_data-clause-put
returns-in_err-send_data-clause-put g c =
    let cut = c.in_err-send_data.ensures.put in
    (cut.0, cut.1, put_failed c.from_residual.result c.from_residual.ensures.0 (writes_first (data_text cut.0) (line_of (codes "END")) cut.2))

pub returns-clause-put : goal.returns-clause-put
returns-clause-put g c =
    let went = c.in_ok-send_data.ensures.put in
    (went.0, went.1, writes_then (data_text went.0) (line_of (codes "END")) went.2 c.send_line.ensures.put)
