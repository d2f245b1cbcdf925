use Rattle.std.{proofs.Common.{sym, ◌∙◌, subst, arith}, specs.Prelude.codes}
use Rattle.assuan_line.specs.Lines.{IsLine}
use Rattle.assuan_server.{specs.Written.status_text, proofs.{NoteLines.limit_is_line, Saying.said}}
use Rattle.assuan_server.proofs.conn.Conn.tell_limit.Goals as goal

pub status-requires : goal.status-requires
status-requires g c =
    subst (λ digits. IsLine (status_text (codes "INQUIRE_MAXLEN") digits)) (sym (c.as_bytes.ensures.value ∙ c.format.ensures.text))
    (limit_is_line c.args.limit (omega arith) (rw c.format.ensures.text at c.format.ensures.short))

pub returns : goal.returns
returns g c = said c.whole.ensures (rw (c.as_bytes.ensures.value ∙ c.format.ensures.text) at c.status.ensures)
