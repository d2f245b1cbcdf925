use Rattle.std.{proofs.Common.{sym, ap, ◌∙◌}, specs.List.list_all}
use Rattle.passphrase_words.{specs.Ids.is_id_byte, proofs.Sound.id_form}
use Rattle.passphrase_words.proofs.ids.has_id_form.Goals as goal

pub returns : goal.returns
returns c =
    id_form c.args.word.now c.has_id_bytes.result (sym c.is_empty.ensures ∙ c.if-is_empty.false) (sym c.eq.ensures ∙ c.if-eq.false)
    (sym c.begins_with_dash.ensures ∙ c.if-begins_with_dash.false) (c.has_id_bytes.ensures ∙ ap (list_all is_id_byte) c.as_bytes.ensures.value)
