use Rattle.std.proofs.{Common.{refl, ◌++◌}, lemmas.Result.err_from_is_err_and}
use Rattle.assuan_server.{proofs.Saying.{said, said_then, said_first}, specs.Written.ok}
use Rattle.key_commands.proofs.reply.write_reply.Goals as goal

pub returns-in-Ok : goal.returns-in-Ok
returns-in-Ok g c = (ok, rw c.in-Ok.is refl, said c.whole.ensures c.ok.ensures)

pub returns-in_err-write-in-Status : goal.returns-in_err-write-in-Status
returns-in_err-write-in-Status g c =
    let p = err_from_is_err_and c.from_residual.result c.from_residual.ensures.1 in
    (c.in-Status.line ++ ok, rw c.in-Status.is refl, rw p.1 (said_first c.in-Status.line ok _ _ _ c.in_err-write-in-Status.ensures))

pub returns-in_ok-write-in-Status : goal.returns-in_ok-write-in-Status
returns-in_ok-write-in-Status g c =
    (c.in-Status.line ++ ok, rw c.in-Status.is refl, said_then c.in-Status.line ok _ c.write.new.conn _ _ c.in_ok-write-in-Status.ensures (said c.whole-in-Status.ensures c.ok-in-Status.ensures))

pub returns-in-Data : goal.returns-in-Data
returns-in-Data g c =
    let d = c.last_data-in-Data.ensures in
    (_, rw c.in-Data.is (record { pieces = d.0; are_data = rw c.as_slice.ensures at d.1; text_is = refl }), said c.whole-in-Data.ensures d.2)

pub returns-in-WrapKey : goal.returns-in-WrapKey
returns-in-WrapKey g c =
    let d = c.last_data.ensures in
    (_, rw c.in-WrapKey.is (record { pieces = d.0; are_data = rw c.bytes.ensures at d.1; text_is = refl }), said c.whole-in-WrapKey.ensures d.2)
