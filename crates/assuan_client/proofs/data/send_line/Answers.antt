use Rattle.std.proofs.Common.{ap, append-nil}
use Rattle.{agent_ports.proofs.Writing.writes_as, assuan_line.proofs.Sending.sent_whole, assuan_text.specs.LineEnds.line_of}
use Rattle.assuan_client.proofs.data.send_line.Goals as goal

pub returns-clause-put : goal.returns-clause-put
returns-clause-put g c = rw c.whole.ensures (writes_as (ap line_of (append-nil c.args.text.now)) (sent_whole c.write_text.result c.write_text.ensures.sent c.write_text.ensures.faults))
