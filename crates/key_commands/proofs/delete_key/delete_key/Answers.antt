use Rattle.std.proofs.{Common.refl, lemmas.Result.err_from_is_err_and}
use Rattle.agent_ask.{specs.Session.{Actions.{returns as is_returned, refuses}, ActionReplies.stops_at}, proofs.ActionsDone.{action_then, action_stops, action_turned, action_still}}
use Rattle.key_commands.{proofs.{Doing.action_called, Partial.beside_keys, Requesting.replies_ok}, specs.Exchanges.DeleteKeyReplies}
use Rattle.key_commands.proofs.delete_key.delete_key.Goals as goal

pub returns-in_err-has_file-clause-carries : goal.returns-in_err-has_file-clause-carries
unfolding DeleteKeyReplies
returns-in_err-has_file-clause-carries g c = λ wraps side.
    let p = err_from_is_err_and c.from_residual.result c.from_residual.ensures.1 in
    rw (p.1, p.2, c.requires.none) (stops_at (action_stops (action_called c.requires.open c.in_err-has_file.ensures)))

pub returns-then-not-branch-clause-carries : goal.returns-then-not-branch-clause-carries
unfolding DeleteKeyReplies
returns-then-not-branch-clause-carries g c = λ wraps side.
    let absent = rw c.if-not-branch.true at c.in_ok-has_file.ensures in
    rw c.requires.none (stops_at (action_then (action_called c.requires.open absent) (action_stops (action_still c.requires.open refl refuses))))

pub returns-in_err-consent-clause-carries : goal.returns-in_err-consent-clause-carries
unfolding DeleteKeyReplies
returns-in_err-consent-clause-carries g c = λ wraps side.
    let p = err_from_is_err_and c.from_residual-in_err-consent.result c.from_residual-in_err-consent.ensures.1 in
    let there = rw c.if-not-branch.false at c.in_ok-has_file.ensures in
    let agreed = rw c.requires.none at c.in_err-consent.ensures.consents in
    rw (p.1, p.2) (stops_at (action_then (action_called c.requires.open there) (action_then (action_still c.requires.open refl is_returned) (action_stops (beside_keys agreed)))))

pub returns-in_err-remove_file-clause-carries : goal.returns-in_err-remove_file-clause-carries
unfolding DeleteKeyReplies
returns-in_err-remove_file-clause-carries g c = λ wraps side.
    let p = err_from_is_err_and c.from_residual-in_err-remove_file.result c.from_residual-in_err-remove_file.ensures.1 in
    let there = rw c.if-not-branch.false at c.in_ok-has_file.ensures in
    let agreed = rw c.requires.none at c.in_ok-consent.ensures.consents in
    rw (p.1, p.2)
    (stops_at (action_then (action_called c.requires.open there) (action_then (action_still c.requires.open refl is_returned) (action_then (beside_keys agreed)
    (action_stops (action_called agreed.fits.0 c.in_err-remove_file.ensures))))))

pub returns-in_err-clear_pass-clause-carries : goal.returns-in_err-clear_pass-clause-carries
unfolding DeleteKeyReplies
returns-in_err-clear_pass-clause-carries g c = λ wraps side.
    let p = err_from_is_err_and c.from_residual-in_err-clear_pass.result c.from_residual-in_err-clear_pass.ensures.1 in
    let there = rw c.if-not-branch.false at c.in_ok-has_file.ensures in
    let agreed = rw c.requires.none at c.in_ok-consent.ensures.consents in
    rw (p.1, p.2)
    (stops_at (action_then (action_called c.requires.open there) (action_then (action_still c.requires.open refl is_returned) (action_then (beside_keys agreed)
    (action_then (action_called agreed.fits.0 c.in_ok-remove_file.ensures) (action_stops (action_turned agreed.fits.0 c.in_err-clear_pass.ensures.turn)))))))

pub returns-clause-carries : goal.returns-clause-carries
unfolding DeleteKeyReplies
returns-clause-carries g c = λ wraps side.
    let there = rw c.if-not-branch.false at c.in_ok-has_file.ensures in
    let agreed = rw c.requires.none at c.in_ok-consent.ensures.consents in
    replies_ok (action_then (action_called c.requires.open there) (action_then (action_still c.requires.open refl is_returned) (action_then (beside_keys agreed)
    (action_then (action_called agreed.fits.0 c.in_ok-remove_file.ensures)
    (action_then (action_turned agreed.fits.0 c.in_ok-clear_pass.ensures.turn) (action_still agreed.fits.0 refl is_returned))))))
