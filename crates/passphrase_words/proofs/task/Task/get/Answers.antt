use Rattle.std.{proofs.Common.{ℕ, List, [], ◌∷◌, length, refl, ap, ◌∙◌, arith}, specs.Prelude.codes}
use Rattle.assuan_text.specs.LineEnds.{has_lf}
use Rattle.passphrase_words.proofs.LineParts.{parts_line, id_no_lf, fits_short}
use Rattle.passphrase_words.proofs.task.Task.get.Goals as goal

pub line_of-requires : goal.line_of-requires
line_of-requires c =
    let t = c.args.self.now in
    let id = c.as_slice.ensures.value in
    let texts = c.as_slice-2.ensures.value in
    parts_line (codes "GET_PASSPHRASE " ∷ c.args.options.now ∷ c.as_slice.result.now ∷ codes " X " ∷ c.as_slice-2.result.now ∷ [])
    (omega (arith, c.requires.short, ap (λ (l : List ℕ). length l) id, ap (λ (l : List ℕ). length l) texts, fits_short t.id.items t.texts.items t.fits))
    (refl, (c.requires.whole, (ap has_lf id ∙ id_no_lf t.id.items t.fits.id_is, (refl, (ap has_lf texts ∙ t.fits.whole, tt)))))
