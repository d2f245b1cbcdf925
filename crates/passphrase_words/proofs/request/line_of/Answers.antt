use Rattle.std.proofs.{Common.{List, ℕ, [], length, ap, arith}, lemmas.List.Folds.length-flat_map-take}
use Rattle.passphrase_words.proofs.request.line_of.Goals as goal

pub unwrap-requires : goal.unwrap-requires
unwrap-requires c =
    c.try_extend_from_slice.ensures.within.1
    (omega (arith, ap (λ (x : List ℕ). length x) c.loop-part.invariant, c.requires.short, length-flat_map-take (λ part. part.now) c.args.parts.now c.loop-part.part-index (record { ref_ptr = (0, 0); now = [] }) c.loop-part-test.true))
