use Rattle.std.specs.List.{flat_map}
use Rattle.passphrase_client.proofs.Saying.{printed_then, printed_first, failed_as}
use Rattle.passphrase_client.proofs.message.+put_all.Goals as goal

pub returns-in_err-put_printable : goal.returns-in_err-put_printable
returns-in_err-put_printable g t c =
    rw c.in-Some.ensures.cases.0
    (failed_as c.from_residual.result c.from_residual.ensures.0
    (printed_first c.in-Some.part.now.now (flat_map (λ part. part.now) c.in-Some.rest.now) c.in_err-put_printable.ensures))

pub returns : goal.returns
returns g t c = rw c.in-Some.ensures.cases.0 (printed_then c.in-Some.part.now.now (flat_map (λ part. part.now) c.in-Some.rest.now) c.in_ok-put_printable.ensures c.put_all.ensures)
