use Rattle.std.proofs.lemmas.Result.{err_from_is_err_and}
use Rattle.{agent_ask.proofs.ActionsDone.{seated_in, unseated_in}, agent_origin.proofs.TrustDone.beside_desk}
use Rattle.agent_origin.proofs.trust.marking.ask.Goals as goal

pub returns-in_err-seat_by_mode-clause-asks : goal.returns-in_err-seat_by_mode-clause-asks
returns-in_err-seat_by_mode-clause-asks g c = λ keys dice.
    let p = err_from_is_err_and c.from_residual.result c.from_residual.ensures.1 in
    rw (p.1, p.2) (unseated_in _ c.requires.open (rw c.mode.ensures at c.in_err-seat_by_mode.ensures.seats))

pub returns-clause-asks : goal.returns-clause-asks
returns-clause-asks g c = λ keys dice.
    seated_in _ c.requires.open (rw c.mode.ensures at c.in_ok-seat_by_mode.ensures.seats)
    (rw (← c.ticket.ensures) (beside_desk g.D.Desk.turned g.P.Prompter.prompted c.seat_by_mode.new.desk c.mark_consented.ensures.marks keys dice))
