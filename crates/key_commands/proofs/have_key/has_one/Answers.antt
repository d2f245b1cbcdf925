use Rattle.std.proofs.lemmas.Result.{err_from_is_err_and}
use Rattle.key_commands.proofs.ListedKeys.{seeks_on, seeks_no_more, seeks_in_vain, seeks_none}
use Rattle.key_commands.proofs.have_key.has_one.Goals as goal

pub returns-in_err-has_file : goal.returns-in_err-has_file
returns-in_err-has_file g c =
    let p = err_from_is_err_and c.from_residual.result c.from_residual.ensures.1 in
    rw (p.1, p.2, c.bytes-bytes-items.ensures)
    (c.loop-bytes.invariant _ _ (seeks_in_vain c.bytes-bytes-items.result.now c.loop-bytes.bytes-index c.loop-bytes-test.true c.in_err-has_file.ensures))

pub returns-then-branch : goal.returns-then-branch
returns-then-branch g c =
    rw c.bytes-bytes-items.ensures
    (c.loop-bytes.invariant _ _ (seeks_no_more c.bytes-bytes-items.result.now c.loop-bytes.bytes-index c.loop-bytes-test.true (rw c.if-branch.true at c.in_ok-has_file.ensures)))

pub loop-bytes-preserved : goal.loop-bytes-preserved
loop-bytes-preserved g c = λ result after later.
    c.loop-bytes.invariant result after
    (seeks_on c.bytes-bytes-items.result.now c.loop-bytes.bytes-index c.loop-bytes-test.true (rw c.if-branch.false at c.in_ok-has_file.ensures) later)

pub returns : goal.returns
returns g c =
    rw c.bytes-bytes-items.ensures (c.loop-bytes.invariant _ _ (seeks_none c.bytes-bytes-items.result.now c.loop-bytes.bytes-index c.loop-bytes-test.false _))
