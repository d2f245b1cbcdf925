use Rattle.std.proofs.lemmas.Result.{err_from_is_err_and}
use Rattle.assuan_server.{specs.Inquiries.IsAtEnd, proofs.Inquiring.{failed, was_written, with_data, beyond}}
use Rattle.assuan_server.proofs.inquiry.buffered.Goals as goal

pub returns-in_err-end_of-clause-answer : goal.returns-in_err-end_of-clause-answer
returns-in_err-end_of-clause-answer c =
    let p = err_from_is_err_and c.from_residual.result c.from_residual.ensures.1 in
    rw (p.1, p.2) (failed c.in_err-end_of.ensures.failure IsAtEnd)

pub returns-in_err-end_of-clause-others : goal.returns-in_err-end_of-clause-others
returns-in_err-end_of-clause-others c =
    let p = err_from_is_err_and c.from_residual.result c.from_residual.ensures.1 in
    rw (p.1, p.2) (λ is. was_written c.in_err-end_of.ensures.failure (cc is))

pub returns-in-Some-clause-answer : goal.returns-in-Some-clause-answer
returns-in-Some-clause-answer c =
    let end = c.in_ok-end_of.ensures.end in
    with_data end.0 end.1 end.2 c.in-Some.secret c.in-Some.ensures

pub returns-in-None-clause-answer : goal.returns-in-None-clause-answer
returns-in-None-clause-answer c =
    let end = c.in_ok-end_of.ensures.end in
    beyond end.0 end.1 end.2 IsAtEnd c.in-None.ensures
