-- Values without an end of a line.
use Rattle.std.proofs.{Common.{◌≡◌, ◌+◌, ◌≤◌, ℕ, Bool, false, ◌||◌, ◌==◌, List, [], ◌∷◌, ◌++◌, length, refl, ◌∙◌, arith, length-append}, lemmas.{Bool.{or_parts, or_from}, List.Folds.list_any-append}}
use Rattle.assuan_text.specs.LineEnds.{has_lf, is_lf}
use Rattle.session_options.specs.Text.{has_line_end, ends_line}

no_feed : (byte : ℕ) (more : Bool) → (ends_line byte || more) ≡ false → (is_lf byte ≡ false) × (more ≡ false)
no_feed byte more none =
    let both = or_parts (ends_line byte) more none in
    ((or_parts (byte == 13) (byte == 10) both.0).1, both.1)

no_lf : (value : List ℕ) → has_line_end value ≡ false → has_lf value ≡ false
no_lf [] none = refl
no_lf (byte ∷ more) none =
    let parts = no_feed byte (has_line_end more) none in
    or_from (is_lf byte) (has_lf more) parts.0 (no_lf more parts.1)

pub fits_line : (word value : List ℕ) → length word + length value ≤ 1000 → has_lf word ≡ false → has_line_end value ≡ false → (length (word ++ value) ≤ 1000) × (has_lf (word ++ value) ≡ false)
fits_line word value short word_whole value_whole =
    (omega (arith, length-append word value), list_any-append is_lf word value ∙ rw (word_whole, no_lf value value_whole) refl)
