use Rattle.std.proofs.{Common.refl, lemmas.Result.err_from_is_err_and}
use Rattle.agent_ask.{specs.Session.Actions.{returns, refuses}, proofs.ActionsDone.{turns_then, turns_stop}}
use Rattle.agent_commands.proofs.passphrase.by_cache.Goals as goal

pub returns-in_err-found-clause-turn : goal.returns-in_err-found-clause-turn
returns-in_err-found-clause-turn g c =
    let p = err_from_is_err_and c.from_residual.result c.from_residual.ensures.1 in
    rw (p.1, p.2) (turns_stop c.in_err-found.ensures.turn)

pub returns-in-Some-clause-turn : goal.returns-in-Some-clause-turn
returns-in-Some-clause-turn g c = turns_then (rw c.in-Some.is at c.in_ok-found.ensures.turn) returns refl

pub returns-in-None-clause-turn : goal.returns-in-None-clause-turn
returns-in-None-clause-turn g c = turns_then (rw c.in-None.is at c.in_ok-found.ensures.turn) refuses refl
