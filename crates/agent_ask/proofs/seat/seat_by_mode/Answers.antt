use Rattle.std.proofs.Common.{inl, inr}
use Rattle.agent_ask.specs.Seats.{asks, cancels, errs, loops}
use Rattle.agent_ask.proofs.seat.seat_by_mode.Goals as goal

pub returns-in-Ask-clause-seats : goal.returns-in-Ask-clause-seats
returns-in-Ask-clause-seats g c = rw c.in-Ask.is (asks c.hold_seat.ensures.taken)

pub returns-in-Cancel-clause-seats : goal.returns-in-Cancel-clause-seats
returns-in-Cancel-clause-seats g c = rw (c.in-Cancel.is, c.requires.none) cancels

pub returns-in-Error-clause-seats : goal.returns-in-Error-clause-seats
returns-in-Error-clause-seats g c = elim c.in-Error.is [ inl error ↦ rw (error, c.requires.none) errs | inr loopback ↦ rw (loopback, c.requires.none) loops ]
