use Rattle.std.{proofs.Common.{◌++◌, ap, sym, ◌∙◌, append-nil}, specs.Prelude.codes}
use Rattle.{agent_ports.proofs.Writing.writes_as, assuan_text.specs.LineEnds.line_of}
use Rattle.pinentry_script.{specs.Responses.quality_inquiry, proofs.Saying.one_line}
use Rattle.pinentry_script.proofs.response.write_response.Goals as goal

pub returns-in-Inquire-clause-said : goal.returns-in-Inquire-clause-said
returns-in-Inquire-clause-said g c =
    let text = c.in-Inquire.text.now in
    rw c.in-Inquire.is
    (writes_as (ap (λ x. line_of (codes "INQUIRE QUALITY " ++ x)) (append-nil text) ∙ sym (one_line (quality_inquiry text))) c.say-in-Inquire.ensures.said)
