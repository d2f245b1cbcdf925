use Rattle.std.{proofs.Common.{refl, rules}, specs.Prelude.codes}
use Rattle.assuan_server.specs.Inquiries.{Cancelled, Unexpected, IsWord, can, foreign}
use Rattle.assuan_server.proofs.inquiry.end.end_of_line.Goals as goal

pub returns-then-eq_ignore_ascii_case : goal.returns-then-eq_ignore_ascii_case
returns-then-eq_ignore_ascii_case c =
    let word : IsWord (codes "can") c.args.line.now = search rules in
    record { outcome = Cancelled; named = refl; comes_to = λ limit bytes. can word }

pub returns-else-eq_ignore_ascii_case-2 : goal.returns-else-eq_ignore_ascii_case-2
returns-else-eq_ignore_ascii_case-2 c =
    let no_can : IsWord (codes "can") c.args.line.now → ⊥ = search rules in
    let no_end : IsWord (codes "end") c.args.line.now → ⊥ = search rules in
    record { outcome = Unexpected; named = refl; comes_to = λ limit bytes. foreign no_can no_end }
