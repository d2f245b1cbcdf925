use Rattle.std.proofs.Common.{[]}
use Rattle.assuan_server.{specs.Inquiries.inquire_text, proofs.Inquiring.gathered}
use Rattle.assuan_server.proofs.conn.Conn.gather.Goals as goal

pub returns-in-All-clause-gathered : goal.returns-in-All-clause-gathered
returns-in-All-clause-gathered g c = λ kept.
    let e = c.next_after.ensures in
    gathered (inquire_text c.args.word.now c.args.params.now) c.args.self.now c.ask.new.self c.next_after.new.self c.next_after.result (rw c.in-All.is at c.ask.ensures) (e.read [] kept) e.output e.link
