use Rattle.std.proofs.{Common.refl, lemmas.Result.err_from_is_err_and}
use Rattle.agent_ask.{specs.Session.Actions.returns, proofs.ActionsDone.{action_then, action_stops, action_still, action_turns}}
use Rattle.agent_commands.proofs.passphrase.without_prompt.Goals as goal

pub returns-in_err-found-clause-comes : goal.returns-in_err-found-clause-comes
returns-in_err-found-clause-comes g c =
    let p = err_from_is_err_and c.from_residual.result c.from_residual.ensures.1 in
    rw (p.1, p.2) (action_stops (action_turns c.requires.open c.in_err-found.ensures.turn))

pub returns-in-Some-clause-comes : goal.returns-in-Some-clause-comes
returns-in-Some-clause-comes g c =
    action_then (action_turns c.requires.open (rw c.in-Some.is at c.in_ok-found.ensures.turn)) (action_still c.requires.open refl returns)

pub returns-in-None-clause-comes : goal.returns-in-None-clause-comes
returns-in-None-clause-comes g c =
    action_then (action_turns c.requires.open (rw c.in-None.is at c.in_ok-found.ensures.turn)) c.uncached.ensures.comes
