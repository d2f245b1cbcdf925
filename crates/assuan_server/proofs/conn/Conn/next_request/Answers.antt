use Rattle.std.proofs.Common.{[]}
use Rattle.assuan_line.proofs.ReadingOn.{read_says_less}
use Rattle.assuan_server.proofs.conn.Conn.next_request.Goals as goal

pub returns : goal.returns
returns g c = record {
  read = read_says_less (λ bytes left on. (on.0, on.1)) (c.next_after.ensures.read [] tt);
  output = c.next_after.ensures.output;
  link = c.next_after.ensures.link;
}
