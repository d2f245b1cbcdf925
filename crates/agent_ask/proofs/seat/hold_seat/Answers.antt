use Rattle.std.proofs.lemmas.Result.{err_from_is_err_and}
use Rattle.agent_ask.specs.Seats.{taken, refused}
use Rattle.agent_ask.proofs.seat.hold_seat.Goals as goal

pub returns-in_err-ticket-clause-taken : goal.returns-in_err-ticket-clause-taken
returns-in_err-ticket-clause-taken g c =
    let p = err_from_is_err_and c.from_residual.result c.from_residual.ensures.1 in
    rw (p.1, p.2, c.requires.none) (refused c.in_err-ticket.ensures.refused)

pub returns-clause-taken : goal.returns-clause-taken
returns-clause-taken g c = rw c.put.ensures (taken c.in_ok-ticket.ensures.taken)
