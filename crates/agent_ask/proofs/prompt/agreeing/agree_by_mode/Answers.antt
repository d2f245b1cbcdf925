use Rattle.std.proofs.lemmas.Result.{err_from_is_err_and}
use Rattle.agent_ask.{specs.Session.ActionStates.{DoesPrompts, prompts}, proofs.{ConsentActions.agrees, ActionsAtClient.action_prompted, ActionsDone.{seated_in, unseated_in}}}
use Rattle.agent_ask.proofs.prompt.agreeing.agree_by_mode.Goals as goal

pub returns-in_err-seat_by_mode-clause-agrees : goal.returns-in_err-seat_by_mode-clause-agrees
returns-in_err-seat_by_mode-clause-agrees g c =
    let p = err_from_is_err_and c.from_residual.result c.from_residual.ensures.1 in
    rw (p.1, p.2, c.requires.none) (unseated_in _ c.requires.open (rw c.mode.ensures at c.in_err-seat_by_mode.ensures.seats))

pub returns-clause-agrees : goal.returns-clause-agrees
returns-clause-agrees g c =
    let asked = c.agree.ensures.asked in
    rw c.requires.none
    (seated_in _ c.requires.open (rw c.mode.ensures at c.in_ok-seat_by_mode.ensures.seats)
    (rw (← c.ticket.ensures)
    (action_prompted g.C.Client.views g.D.Desk.turned c.seat_by_mode.new.desk (DoesPrompts g.P.Prompter.prompted) (λ same. same) (λ before after event does. prompts does) asked.lead
    (λ events in_session. agrees c.ticket.result.now c.agree.result asked.are in_session) c.agree.ensures.left)))
