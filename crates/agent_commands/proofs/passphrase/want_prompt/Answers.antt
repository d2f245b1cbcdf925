use Rattle.std.proofs.{Common.refl, lemmas.Result.err_from_is_err_and}
use Rattle.agent_ask.{specs.Session.Actions.returns, proofs.ActionsDone.{ticket_taken, turn_then, turn_stops, cache_asked, seated_by_asking}}
use Rattle.agent_commands.proofs.passphrase.want_prompt.Goals as goal

pub returns-in-Some-clause-turn : goal.returns-in-Some-clause-turn
returns-in-Some-clause-turn g c = rw c.in-Some.is (cache_asked (rw c.copy.ensures at c.ask_cache.ensures.turn))

pub returns-in-Some-clause-seated : goal.returns-in-Some-clause-seated
returns-in-Some-clause-seated g c = λ none. seated_by_asking (rw none at c.ask_cache.ensures.turn)

pub returns-in_err-hold_seat-in-None-clause-turn : goal.returns-in_err-hold_seat-in-None-clause-turn
returns-in_err-hold_seat-in-None-clause-turn g c =
    let p = err_from_is_err_and c.from_residual.result c.from_residual.ensures.1 in
    rw (c.in-None.is, c.requires.none, p.1, p.2) (turn_stops (ticket_taken c.in_err-hold_seat-in-None.ensures.taken))

pub returns-in_ok-hold_seat-in-None-clause-turn : goal.returns-in_ok-hold_seat-in-None-clause-turn
returns-in_ok-hold_seat-in-None-clause-turn g c =
    rw (c.in-None.is, c.requires.none) (turn_then (ticket_taken c.in_ok-hold_seat-in-None.ensures.taken) returns refl)
