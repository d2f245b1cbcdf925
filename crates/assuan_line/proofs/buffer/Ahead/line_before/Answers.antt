use Rattle.std.proofs.Common.{◌∙◌, ap, sym, arith, List, ℕ}
use Rattle.assuan_text.specs.LineEnds.{has_lf, without_cr}
use Rattle.assuan_line.{specs.Stops.line_or_too_long, proofs.Slices.take_across}
use Rattle.assuan_line.proofs.buffer.Ahead.line_before.Goals as goal

pub line_across-requires : goal.line_across-requires
line_across-requires c =
    ap has_lf (sym (take_across c.as_slices.result.0.now c.as_slices.result.1.now _ c.args.end c.as_slices.ensures (omega arith))) ∙ c.requires.whole

pub returns : goal.returns
returns c =
    c.line_across.ensures
    ∙ ap (λ (l : List ℕ). line_or_too_long (without_cr l)) (sym (take_across c.as_slices.result.0.now c.as_slices.result.1.now _ c.args.end c.as_slices.ensures (omega arith)))
