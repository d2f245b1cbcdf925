use Rattle.std.{proofs.Common.{ℕ, List, [], ◌∷◌, length, refl, ap, ◌∙◌, arith}, specs.Prelude.codes}
use Rattle.assuan_text.specs.LineEnds.{has_lf}
use Rattle.passphrase_words.proofs.LineParts.{parts_line, id_no_lf, id_short}
use Rattle.passphrase_words.proofs.task.Task.probe.Goals as goal

pub line_of-requires : goal.line_of-requires
line_of-requires c =
    let t = c.args.self.now in
    let id = c.as_slice.ensures.value in
    let seconds = c.as_slice-2.ensures.value in
    parts_line (codes "PRESET_PASSPHRASE --inquire " ∷ c.as_slice.result.now ∷ codes " " ∷ c.as_slice-2.result.now ∷ [])
    (omega (arith, ap (λ (l : List ℕ). length l) id, ap (λ (l : List ℕ). length l) seconds, id_short t.id.items t.fits.id_is, c.seconds_word-seconds.ensures.short))
    (refl, (ap has_lf id ∙ id_no_lf t.id.items t.fits.id_is, (refl, (ap has_lf seconds ∙ c.seconds_word-seconds.ensures.whole, tt))))
