use Rattle.std.{proofs.Common.{ℕ, List, [], ◌∷◌, length, refl, ap, ◌∙◌, arith}, specs.Prelude.codes}
use Rattle.assuan_text.specs.LineEnds.{has_lf}
use Rattle.passphrase_words.proofs.LineParts.{parts_line, id_no_lf, id_short, hex_no_lf}
use Rattle.passphrase_words.proofs.task.Task.preset.Goals as goal

pub line_of-line-requires : goal.line_of-line-requires
line_of-line-requires c =
    let t = c.args.self.now in
    let id = c.as_slice.ensures.value in
    let seconds = c.as_slice-2.ensures.value in
    let digits = c.bytes-2.ensures.value in
    parts_line (codes "PRESET_PASSPHRASE " ∷ c.as_slice.result.now ∷ codes " " ∷ c.as_slice-2.result.now ∷ codes " " ∷ c.bytes-2.result.now ∷ [])
    (omega (
      arith,
      ap (λ (l : List ℕ). length l) id,
      ap (λ (l : List ℕ). length l) seconds,
      ap (λ (l : List ℕ). length l) digits,
      id_short t.id.items t.fits.id_is,
      c.seconds_word-seconds.ensures.short,
      c.hex_of-digits.ensures.short,
    ))
    (refl, (ap has_lf id ∙ id_no_lf t.id.items t.fits.id_is, (refl, (ap has_lf seconds ∙ c.seconds_word-seconds.ensures.whole, (refl, (ap has_lf (digits ∙ c.hex_of-digits.ensures.digits) ∙ hex_no_lf c.bytes.result.now, tt))))))
