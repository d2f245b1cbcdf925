use Rattle.std.proofs.{Common.{ℕ, refl, ◌∙◌, subst, arith}, lemmas.Result.err_from_is_err_and}
use Rattle.assuan_server.{specs.{Asking.Inquire, Buffers.IsCountOf, Inquiries.{inquire_text, drop_outcome, AnswersDropped}}, proofs.Inquiring.inquired}
use Rattle.assuan_server.proofs.conn.Conn.ask_dropped.Goals as goal

pub returns-in_err-took : goal.returns-in_err-took
returns-in_err-took g c =
    let p = err_from_is_err_and c.from_residual.result c.from_residual.ensures.1 in
    let not = c.in_err-took.ensures.cut in
    rw (p.1, p.2, not.0) (record { inquiry = λ written. absurd (written refl); cut = λ is. not.1 })

pub returns : goal.returns
returns g c =
    let new = c.new.ensures in
    let counter = c.gather.new.lines.buffer in
    record {
      inquiry = λ written.
          subst (λ (limit : ℕ). Inquire limit (inquire_text c.args.word.now c.args.params.now) (AnswersDropped (drop_outcome c.counted.result)) c.args.self.now c.gather.new.self)
          (c.in_ok-took.ensures.limit ∙ new.limit)
          (inquired {keeps = IsCountOf counter.limit counter.left counter.past} (c.in_ok-took.ensures.gathered (rw (new.past, new.left, new.limit) (omega arith))) c.counted.ensures.answer);
      cut = λ is. absurd (c.counted.ensures.others is);
    }
