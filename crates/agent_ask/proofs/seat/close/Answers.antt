use Rattle.std.proofs.Common.{◌≡◌, Some, None, sym, ◌∙◌}
use Rattle.agent_ask.specs.Seats.{unheld, given}
use Rattle.agent_ask.proofs.seat.close.Goals as goal

pub returns-in-Some-clause-given : goal.returns-in-Some-clause-given
returns-in-Some-clause-given g c =
    let held : c.args.held.now ≡ Some c.in-Some.ticket = sym c.take.ensures.taken ∙ c.in-Some.is in
    let turned = c.give_back.ensures.turned in
    rw held (given turned.0 turned.1 turned.2)

pub returns-in_default-clause-given : goal.returns-in_default-clause-given
returns-in_default-clause-given g c =
    let held : c.args.held.now ≡ None = sym c.take.ensures.taken ∙ c.in_default.is in
    rw held unheld
