use Rattle.std.proofs.Common.{◌∙◌, sym}
use Rattle.assuan_escape.proofs.OnlyData.{only, pieces_of}
use Rattle.assuan_escape.proofs.data_lines.data_lines_are_the_only_ones.Goals as goal

pub returns-clause-some : goal.returns-clause-some
returns-clause-some c = pieces_of

pub returns-clause-only : goal.returns-clause-only
returns-clause-only c = λ bytes pieces others one other. only pieces others (one.joined ∙ sym other.joined) one.each other.each one.full other.full
