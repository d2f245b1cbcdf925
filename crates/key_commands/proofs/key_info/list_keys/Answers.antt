use Rattle.std.proofs.{Common.refl, lemmas.Result.err_from_is_err_and}
use Rattle.agent_ask.{specs.Session.{Actions.returns as is_returned, ActionReplies.stops_at}, proofs.ActionsDone.{action_then, action_stops, action_still}}
use Rattle.key_commands.{proofs.{Doing.action_called, Requesting.replies_ok}, specs.Exchanges.ListKeysReplies}
use Rattle.key_commands.proofs.key_info.list_keys.Goals as goal

pub returns-in_err-grips-clause-tells : goal.returns-in_err-grips-clause-tells
unfolding ListKeysReplies
returns-in_err-grips-clause-tells g c = λ rules options wraps side.
    let p = err_from_is_err_and c.from_residual.result c.from_residual.ensures.1 in
    rw (p.1, p.2) (stops_at (action_stops (action_called c.requires.open c.in_err-grips.ensures.refused)))

pub returns-in_err-write_infos-clause-tells : goal.returns-in_err-write_infos-clause-tells
unfolding ListKeysReplies
returns-in_err-write_infos-clause-tells g c = λ rules options wraps side.
    let p = err_from_is_err_and c.from_residual-in_err-write_infos.result c.from_residual-in_err-write_infos.ensures.1 in
    let written = rw (c.requires.none, c.deref.ensures.value) at (c.in_err-write_infos.ensures.writes side) in
    rw (p.1, p.2) (stops_at (action_then (action_called c.requires.open c.in_ok-grips.ensures.listed) (action_stops written)))

pub returns-clause-tells : goal.returns-clause-tells
unfolding ListKeysReplies
returns-clause-tells g c = λ rules options wraps side.
    let written = rw (c.requires.none, c.deref.ensures.value) at (c.in_ok-write_infos.ensures.writes side) in
    replies_ok (action_then (action_called c.requires.open c.in_ok-grips.ensures.listed) (action_then written (action_still written.fits.0 refl is_returned)))
