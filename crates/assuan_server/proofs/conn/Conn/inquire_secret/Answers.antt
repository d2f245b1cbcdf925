use Rattle.std.proofs.Common.{Err, ap}
use Rattle.assuan_server.proofs.conn.Conn.inquire_secret.Goals as goal

pub returns-in-Ok : goal.returns-in-Ok
returns-in-Ok g c = record { inquiry = λ written. c.in-Ok.ensures.inquiry (λ e. cc e); cut = λ is. absurd (cc is) }

pub returns-in-Err : goal.returns-in-Err
returns-in-Err g c = record {
  inquiry = λ written. rw c.into.ensures.named (c.in-Err.ensures.inquiry (λ e. written (c.into.ensures.cut.1 (cc e))));
  cut = λ is. c.in-Err.ensures.cut (ap Err (c.into.ensures.cut.0 is));
}
