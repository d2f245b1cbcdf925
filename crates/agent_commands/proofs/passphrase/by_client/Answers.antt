use Rattle.std.proofs.{Common.refl, lemmas.Result.err_from_is_err_and}
use Rattle.agent_ask.{specs.Session.Actions.returns, proofs.ActionsDone.{action_then, action_stops, action_still, beside_client, open_after, action_turns}}
use Rattle.agent_commands.proofs.passphrase.by_client.Goals as goal

pub returns-in_err-secret-clause-comes : goal.returns-in_err-secret-clause-comes
returns-in_err-secret-clause-comes g c =
    let p = err_from_is_err_and c.from_residual.result c.from_residual.ensures.1 in
    rw (p.1, p.2) (action_stops (beside_client c.in_err-secret.ensures))

pub returns-in_err-keep-clause-comes : goal.returns-in_err-keep-clause-comes
returns-in_err-keep-clause-comes g c =
    let p = err_from_is_err_and c.from_residual-in_err-keep.result c.from_residual-in_err-keep.ensures.1 in
    let going = open_after c.in_ok-secret.ensures in
    rw (p.1, p.2) (action_then (beside_client c.in_ok-secret.ensures) (action_stops (action_turns going c.in_err-keep.ensures.turn)))

pub returns-clause-comes : goal.returns-clause-comes
returns-clause-comes g c =
    let going = open_after c.in_ok-secret.ensures in
    rw c.own.ensures (action_then (beside_client c.in_ok-secret.ensures) (action_then (action_turns going c.in_ok-keep.ensures.turn) (action_still going refl returns)))
