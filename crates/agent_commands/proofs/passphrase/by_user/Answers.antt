use Rattle.std.proofs.{Common.refl, lemmas.Result.err_from_is_err_and}
use Rattle.agent_ask.{specs.Session.Actions.returns, proofs.ActionsDone.{action_then, action_stops, action_still, action_turned, action_turns, ticket_given}}
use Rattle.agent_commands.proofs.Carrying.{beside_prompter}
use Rattle.agent_commands.proofs.passphrase.by_user.Goals as goal

pub prompt-requires-clause-seated : goal.prompt-requires-clause-seated
prompt-requires-clause-seated g c = c.in_ok-found.ensures.seated (rw c.in_default.is refl)

pub returns-in_err-found-clause-comes : goal.returns-in_err-found-clause-comes
returns-in_err-found-clause-comes g c =
    let p = err_from_is_err_and c.from_residual.result c.from_residual.ensures.1 in
    rw (p.1, p.2)
    (action_stops (action_turned c.requires.open c.in_err-found.ensures.turn))

pub returns-in-Some-clause-comes : goal.returns-in-Some-clause-comes
returns-in-Some-clause-comes g c =
    rw c.own.ensures (action_then (action_turned c.requires.open (rw c.in-Some.is at c.in_ok-found.ensures.turn)) (action_still c.requires.open refl returns))

pub returns-in_err-pin-clause-comes : goal.returns-in_err-pin-clause-comes
returns-in_err-pin-clause-comes g c =
    let p = err_from_is_err_and c.from_residual-in_err-pin.result c.from_residual-in_err-pin.ensures.1 in
    rw (p.1, p.2)
    (action_then (action_turned c.requires.open (rw c.in_default.is at c.in_ok-found.ensures.turn)) (action_stops (beside_prompter g.D.Desk.turned g.P.Prompter.prompted c.want_prompt.new.desk c.in_err-pin.ensures.prompts)))

pub returns-clause-comes : goal.returns-clause-comes
returns-clause-comes g c =
    rw (c.own-2.ensures, c.close.ensures.none)
    (action_then (action_turned c.requires.open (rw c.in_default.is at c.in_ok-found.ensures.turn))
    (action_then (beside_prompter g.D.Desk.turned g.P.Prompter.prompted c.want_prompt.new.desk c.in_ok-pin.ensures.prompts)
    (action_then (action_turns c.in_ok-pin.ensures.prompts.fits.0 (ticket_given (rw c.copy.ensures at c.close.ensures.given)))
    (action_still c.in_ok-pin.ensures.prompts.fits.0 refl returns))))
