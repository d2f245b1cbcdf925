use Rattle.std.proofs.{Common.None, lemmas.Result.err_from_is_err_and}
use Rattle.agent_ask.proofs.ActionsDone.{action_then, action_stops, beside_client, open_after}
use Rattle.key_commands.proofs.Doing.{leaves_alone}
use Rattle.key_commands.proofs.receiving.receive_key.Goals as goal

pub ask_key_data-requires : goal.ask_key_data-requires
ask_key_data-requires g c = open_after c.in_ok-tell_limit.ensures

pub returns-in_err-tell_limit-clause-receives : goal.returns-in_err-tell_limit-clause-receives
returns-in_err-tell_limit-clause-receives g c =
    let p = err_from_is_err_and c.from_residual.result c.from_residual.ensures.1 in
    rw (p.1, p.2) (λ held. action_stops (beside_client c.in_err-tell_limit.ensures))

pub returns-in_err-wrapped-clause-receives : goal.returns-in_err-wrapped-clause-receives
returns-in_err-wrapped-clause-receives g c =
    let p = err_from_is_err_and c.from_residual-in_err-wrapped.result c.from_residual-in_err-wrapped.ensures.1 in
    rw (p.1, p.2) (λ held. action_then (beside_client c.in_ok-tell_limit.ensures) (action_stops (c.in_err-wrapped.ensures held)))

pub returns-clause-receives : goal.returns-clause-receives
returns-clause-receives g c = λ held.
    let alone = rw c.as_slice.ensures at c.unwrap_key.ensures.unwraps in
    action_then (beside_client c.in_ok-tell_limit.ensures) (action_then (c.in_ok-wrapped.ensures held) (leaves_alone (c.in_ok-wrapped.ensures None).fits.0 alone))
