use Rattle.std.proofs.Common.{ℕ, refl, ◌∙◌, subst}
use Rattle.assuan_server.{specs.{Asking.Inquire, Buffers.IsVecOf, Inquiries.{inquire_text, outcome_of, Answers}}, proofs.Inquiring.inquired}
use Rattle.assuan_server.proofs.conn.Conn.inquire.Goals as goal

pub returns-in-Ok-clause-asks : goal.returns-in-Ok-clause-asks
returns-in-Ok-clause-asks g c =
    let new = c.new.ensures in
    let buffer = c.gather.new.lines.buffer in
    record {
      inquiry = λ written.
          subst (λ (limit : ℕ). Inquire limit (inquire_text c.args.word.now c.args.params.now) (Answers (outcome_of c.collected.result)) c.args.self.now c.gather.new.self) (c.gather.ensures.limit ∙ new.limit)
          (inquired {keeps = IsVecOf buffer.limit buffer.bytes.items buffer.overflow} (rw c.in-Ok.is at c.gather.ensures.gathered (rw new.overflow new.bytes)) c.collected.ensures.answer);
      cut = λ is. absurd (c.collected.ensures.others is);
    }

pub returns-in-Err-clause-asks : goal.returns-in-Err-clause-asks
returns-in-Err-clause-asks g c = record { inquiry = λ written. absurd (written refl); cut = λ is. (rw c.in-Err.is at c.gather.ensures.cut).1 }
