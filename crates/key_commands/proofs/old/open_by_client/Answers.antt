use Rattle.std.proofs.{Common.refl, lemmas.Result.err_from_is_err_and}
use Rattle.agent_ask.{specs.Session.Actions.{returns as is_returned, refuses}, proofs.ActionsDone.{action_then, action_stops, action_turned, action_still, beside_client, open_after}}
use Rattle.key_commands.{proofs.Doing.leaves_alone, specs.Passphrases.ClientOld}
use Rattle.key_commands.proofs.old.open_by_client.Goals as goal

pub returns-in_err-pass-clause-does : goal.returns-in_err-pass-clause-does
unfolding ClientOld
returns-in_err-pass-clause-does g c =
    let p = err_from_is_err_and c.from_residual.result c.from_residual.ensures.1 in
    rw (p.1, p.2) (action_stops (beside_client c.in_err-pass.ensures))

pub returns-in_err-opened-clause-does : goal.returns-in_err-opened-clause-does
unfolding ClientOld
returns-in_err-opened-clause-does g c =
    let p = err_from_is_err_and c.from_residual-in_err-opened.result c.from_residual-in_err-opened.ensures.1 in
    let going = open_after c.in_ok-pass.ensures in
    let tried = rw c.copy.ensures at c.in_err-opened.ensures.tries in
    rw (p.1, p.2)
    (action_then (beside_client c.in_ok-pass.ensures) (action_stops (leaves_alone going tried)))

pub returns-in_default-clause-does : goal.returns-in_default-clause-does
unfolding ClientOld
returns-in_default-clause-does g c =
    let going = open_after c.in_ok-pass.ensures in
    let tried = rw (c.copy.ensures, c.in_default.is) at c.in_ok-opened.ensures.tries in
    action_then (beside_client c.in_ok-pass.ensures) (action_then (leaves_alone going tried) (action_stops (action_still going refl refuses)))

pub returns-in_err-keep_pass-clause-does : goal.returns-in_err-keep_pass-clause-does
unfolding ClientOld
returns-in_err-keep_pass-clause-does g c =
    let p = err_from_is_err_and c.from_residual-in_err-keep_pass.result c.from_residual-in_err-keep_pass.ensures.1 in
    let going = open_after c.in_ok-pass.ensures in
    let tried = rw (c.copy.ensures, c.in-Some.is) at c.in_ok-opened.ensures.tries in
    rw (p.1, p.2)
    (action_then (beside_client c.in_ok-pass.ensures) (action_then (leaves_alone going tried) (action_then (action_still going refl is_returned)
    (action_stops (action_turned going c.in_err-keep_pass.ensures.turn)))))

pub returns-clause-does : goal.returns-clause-does
unfolding ClientOld
returns-clause-does g c =
    let going = open_after c.in_ok-pass.ensures in
    let tried = rw (c.copy.ensures, c.in-Some.is) at c.in_ok-opened.ensures.tries in
    action_then (beside_client c.in_ok-pass.ensures) (action_then (leaves_alone going tried) (action_then (action_still going refl is_returned)
    (action_then (action_turned going c.in_ok-keep_pass.ensures.turn) (action_still going refl is_returned))))
