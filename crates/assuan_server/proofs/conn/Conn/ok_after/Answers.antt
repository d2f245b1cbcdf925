use Rattle.assuan_server.proofs.Writing.{cut_after}
use Rattle.assuan_server.proofs.conn.Conn.ok_after.Goals as goal

pub returns-in-Failed : goal.returns-in-Failed
returns-in-Failed g c = λ first before written counts.
    rw c.saturating_add.ensures
    (cut_after first _ before c.args.self.now c.ok.new.self c.args.count c.in-Failed.sent written counts c.in-Failed.ensures)
