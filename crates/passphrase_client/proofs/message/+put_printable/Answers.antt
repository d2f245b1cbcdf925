use Rattle.passphrase_client.proofs.Saying.{parted_then, parted_first, failed_as}
use Rattle.passphrase_client.proofs.message.+put_printable.Goals as goal

pub returns-in_err-put : goal.returns-in_err-put
returns-in_err-put g t c =
    failed_as c.from_residual.result c.from_residual.ensures.0
    (parted_first 256 c.args.bytes.now c.in-Some.piece.now c.in-Some.rest.now c.in-Some.ensures.cases.1 c.in-Some.ensures.cases.2
    (rw (c.as_slice-2.ensures.value, c.printable_of-2.ensures) at c.in_err-put.ensures))

pub returns : goal.returns
returns g t c =
    parted_then 256 c.args.bytes.now c.in-Some.piece.now c.in-Some.rest.now c.in-Some.ensures.cases.1 c.in-Some.ensures.cases.2
    (rw (c.as_slice-2.ensures.value, c.printable_of-2.ensures) at c.in_ok-put.ensures) c.put_printable.ensures
