use Rattle.std.proofs.Common.{◌∷◌, ap, ◌∙◌}
use Rattle.assuan_line.{proofs.Parts.{lines_none, rest_none, lines_some, rest_some, line_tells, end_tells}, specs.Lines.{after_line, lines_of}}
use Rattle.assuan_line.proofs.reader.lines_come_in_order.Goals as goal

pub returns-clause-line : goal.returns-clause-line
returns-clause-line c = λ bytes line is.
    let known = line_tells bytes line is in
    (lines_some bytes known.0 ∙ ap (λ l. l ∷ lines_of (after_line bytes)) known.1, rest_some bytes known.0)

pub returns-clause-end : goal.returns-clause-end
returns-clause-end c = λ bytes is. (lines_none bytes (end_tells bytes is), rest_none bytes (end_tells bytes is))
