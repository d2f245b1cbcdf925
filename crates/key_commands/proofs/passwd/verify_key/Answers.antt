use Rattle.std.proofs.{Common.refl, lemmas.Result.err_from_is_err_and}
use Rattle.agent_ask.{proofs.ActionsDone.{ticket_given, action_then, action_stops, action_still, action_turns}, specs.Session.{Actions.returns as is_returned, ActionReplies.stops_at}}
use Rattle.key_commands.{proofs.{Partial.beside_keys, Doing.action_called, Requesting.replies_ok}, specs.Exchanges.VerifyReplies}
use Rattle.key_commands.proofs.passwd.verify_key.Goals as goal

pub returns-in_err-file-clause-carries : goal.returns-in_err-file-clause-carries
unfolding VerifyReplies
returns-in_err-file-clause-carries g c = λ wraps dice.
    let p = err_from_is_err_and c.from_residual.result c.from_residual.ensures.1 in
    let file = c.in_err-file.ensures.reads in
    rw (p.1, p.2, c.requires.free)
    (stops_at (action_stops (action_called c.requires.open file)))

pub returns-in_err-opened-clause-carries : goal.returns-in_err-opened-clause-carries
unfolding VerifyReplies
returns-in_err-opened-clause-carries g c = λ wraps dice.
    let p = err_from_is_err_and c.from_residual-in_err-opened.result c.from_residual-in_err-opened.ensures.1 in
    let opened = rw c.requires.free at c.in_err-opened.ensures.does in
    rw (p.1, p.2)
    (stops_at (action_then (action_called c.requires.open c.in_ok-file.ensures.reads) (action_stops (beside_keys opened))))

pub returns-clause-carries : goal.returns-clause-carries
unfolding VerifyReplies
returns-clause-carries g c = λ wraps dice.
    let opened = rw c.requires.free at c.in_ok-opened.ensures.does in
    let going = c.in_ok-opened.ensures.does.fits.0 in
    rw c.close.ensures.none
    (replies_ok
    (action_then (action_called c.requires.open c.in_ok-file.ensures.reads) (action_then (beside_keys opened)
    (action_then (action_turns going (ticket_given c.close.ensures.given)) (action_still going refl is_returned)))))
