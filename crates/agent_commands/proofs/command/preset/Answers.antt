use Rattle.std.proofs.{Common.refl, lemmas.Result.err_from_is_err_and}
use Rattle.agent_ask.{specs.Session.Actions.{returns, refuses}, proofs.ActionsDone.{action_then, action_stops, action_still, action_turned, beside_client, open_after, cache_changed}}
use Rattle.agent_commands.proofs.command.preset.Goals as goal

pub returns-then-not-rules-clause-presets : goal.returns-then-not-rules-clause-presets
returns-then-not-rules-clause-presets g c =
    rw c.if-not-rules.true
    (action_stops (action_still c.requires refl refuses))

pub returns-in_err-secret-clause-presets : goal.returns-in_err-secret-clause-presets
returns-in_err-secret-clause-presets g c =
    let p = err_from_is_err_and c.from_residual.result c.from_residual.ensures.1 in
    rw (c.if-not-rules.false, p.1, p.2)
    (action_then (action_still c.requires refl returns) (action_stops (beside_client c.in_err-secret.ensures)))

pub returns-clause-presets : goal.returns-clause-presets
returns-clause-presets g c =
    let turn = cache_changed (rw c.copy.ensures at c.change.ensures.turn) in
    rw c.if-not-rules.false
    (action_then (action_still c.requires refl returns) (action_then (beside_client c.in_ok-secret.ensures) (action_turned (open_after c.in_ok-secret.ensures) turn)))
