use Rattle.std.proofs.{Common.refl, lemmas.Result.err_from_is_err_and}
use Rattle.assuan_server.{specs.Buffers.IsSecretOf, proofs.Inquiring.inquired}
use Rattle.assuan_server.proofs.conn.Conn.ask_secret.Goals as goal

pub returns-in_err-took : goal.returns-in_err-took
returns-in_err-took g c =
    let p = err_from_is_err_and c.from_residual.result c.from_residual.ensures.1 in
    let not = c.in_err-took.ensures.cut in
    rw (p.1, p.2, not.0) (record { inquiry = λ written. absurd (written refl); cut = λ is. not.1 })

pub returns : goal.returns
returns g c =
    let new = c.new.ensures in
    let buffer = c.gather.new.lines.buffer in
    record {
      inquiry = λ written. inquired {keeps = IsSecretOf buffer.bytes buffer.too_much} (c.in_ok-took.ensures.gathered (rw new.too_much new.bytes)) c.buffered-secret.ensures.answer;
      cut = λ is. absurd (c.buffered-secret.ensures.others is);
    }
