use Rattle.std.proofs.{Common.arith, lemmas.Result.err_from_is_err_and}
use Rattle.assuan_server.{specs.Inquiries.IsData, proofs.Inquiring.{failed, was_written, dropped, beyond}}
use Rattle.assuan_server.proofs.inquiry.counted.Goals as goal

pub returns-in_err-end_of-clause-answer : goal.returns-in_err-end_of-clause-answer
returns-in_err-end_of-clause-answer c =
    let p = err_from_is_err_and c.from_residual.result c.from_residual.ensures.1 in
    rw (p.1, p.2) (failed c.in_err-end_of.ensures.failure IsData)

pub returns-in_err-end_of-clause-others : goal.returns-in_err-end_of-clause-others
returns-in_err-end_of-clause-others c =
    let p = err_from_is_err_and c.from_residual.result c.from_residual.ensures.1 in
    rw (p.1, p.2) (λ is. was_written c.in_err-end_of.ensures.failure (cc is))

pub returns-then-counter-clause-answer : goal.returns-then-counter-clause-answer
returns-then-counter-clause-answer c =
    let end = c.in_ok-end_of.ensures.end in
    beyond end.0 end.1 end.2 IsData (λ bytes kept. rw c.if-counter.true at kept)

pub returns-else-counter-clause-answer : goal.returns-else-counter-clause-answer
returns-else-counter-clause-answer c =
    let end = c.in_ok-end_of.ensures.end in
    dropped end.0 end.1 end.2 (λ bytes kept. omega (arith, rw c.if-counter.false at kept))
