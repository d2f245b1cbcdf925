use Rattle.std.{proofs.Common.{ℕ, List, [], ◌∷◌, length, refl, ap, ◌∙◌, arith}, specs.Prelude.codes}
use Rattle.assuan_text.specs.LineEnds.{has_lf}
use Rattle.passphrase_words.proofs.LineParts.{parts_line, id_no_lf, id_short}
use Rattle.passphrase_words.proofs.task.Task.clear.Goals as goal

pub line_of-requires : goal.line_of-requires
line_of-requires c =
    let t = c.args.self.now in
    let id = c.as_slice.ensures.value in
    parts_line (codes "CLEAR_PASSPHRASE " ∷ c.as_slice.result.now ∷ [])
    (omega (arith, ap (λ (l : List ℕ). length l) id, id_short t.id.items t.fits.id_is))
    (refl, (ap has_lf id ∙ id_no_lf t.id.items t.fits.id_is, tt))
