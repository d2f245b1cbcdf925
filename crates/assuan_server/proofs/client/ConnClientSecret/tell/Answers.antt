use Rattle.std.{proofs.{Common.{sym, ◌∙◌, subst, arith}, lemmas.Fmt.decimal_nonempty}, specs.Prelude.codes}
use Rattle.assuan_line.specs.Lines.{IsLine}
use Rattle.assuan_server.{specs.Inquiries.inquire_text, proofs.{Clients.told, NoteLines.note_is_line}}
use Rattle.assuan_server.proofs.client.ConnClientSecret.tell.Goals as goal

pub ask_dropped-requires-clause-one_line : goal.ask_dropped-requires-clause-one_line
ask_dropped-requires-clause-one_line g c =
    subst (λ b. IsLine (inquire_text (codes "PINENTRY_LAUNCHED") b)) (sym (c.as_bytes-params.ensures.value ∙ c.format.ensures.text))
    (note_is_line c.args.pid (omega (arith, c.ranges.pid.fits)) (decimal_nonempty c.args.pid (omega (arith, c.ranges.pid.fits))) (rw c.format.ensures.text at c.format.ensures.short))

pub returns : goal.returns
returns g c = told c.requires c.ask_dropped.result (rw (c.as_bytes-params.ensures.value ∙ c.format.ensures.text) at c.ask_dropped.ensures)
