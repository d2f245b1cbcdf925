use Rattle.std.{proofs.Common.{ap, sym, ◌∙◌}, specs.List.position}
use Rattle.assuan_text.specs.LineEnds.{is_lf}
use Rattle.assuan_line.proofs.Places.{position_in_front, position_behind, position_nowhere}
use Rattle.assuan_line.proofs.buffer.Ahead.line_feed.Goals as goal

pub returns-in-Some : goal.returns-in-Some
returns-in-Some c =
    sym (position_in_front is_lf c.as_slices.result.0.now c.as_slices.result.1.now c.in-Some.end (sym c.line_feed.ensures ∙ c.in-Some.is))
    ∙ ap (position is_lf) c.as_slices.ensures

pub returns-in_ok-end-in-None : goal.returns-in_ok-end-in-None
returns-in_ok-end-in-None c =
    sym (position_behind is_lf c.as_slices.result.0.now c.as_slices.result.1.now c.in_ok-end-in-None.end (sym c.line_feed.ensures ∙ c.in-None.is) (sym c.line_feed-in-None.ensures ∙ c.in_ok-end-in-None.was))
    ∙ ap (position is_lf) c.as_slices.ensures

pub returns-in_err-end-in-None : goal.returns-in_err-end-in-None
returns-in_err-end-in-None c =
    let nowhere = position_nowhere is_lf c.as_slices.result.0.now c.as_slices.result.1.now (sym c.line_feed.ensures ∙ c.in-None.is) (sym c.line_feed-in-None.ensures ∙ c.in_err-end-in-None.was) in
    let all = ap (position is_lf) c.as_slices.ensures in
    cc c.from_residual.ensures
