use Rattle.cache_policy.specs.Turns.{Done, Stopping, Refused}
use Rattle.agent_ask.specs.{Interrupts.{stopping, refused}, Seats.{changed, unchanged}}
use Rattle.agent_ask.proofs.seat.turns.change.Goals as goal

pub returns-in-Ok-Done-clause-turn : goal.returns-in-Ok-Done-clause-turn
returns-in-Ok-Done-clause-turn g c =
    let turned = rw c.in-Ok-Done.field-0-is at c.in-Ok-Done.ensures.turned in
    record { turn = Done; turned_so = turned; fits = (g.met.D.Desk.promise _ _ _ _ turned).fits; gives = changed }

pub returns-in-Ok-Stopping-clause-turn : goal.returns-in-Ok-Stopping-clause-turn
returns-in-Ok-Stopping-clause-turn g c =
    let turned = rw c.in-Ok-Stopping.field-0-is at c.in-Ok-Stopping.ensures.turned in
    record { turn = Stopping; turned_so = turned; fits = (g.met.D.Desk.promise _ _ _ _ turned).fits; gives = unchanged stopping }

pub returns-in-Err-clause-turn : goal.returns-in-Err-clause-turn
returns-in-Err-clause-turn g c =
    let turned = c.in-Err.ensures.turned in
    rw c.without_memory.ensures (record { turn = Refused; turned_so = turned; fits = (g.met.D.Desk.promise _ _ _ _ turned).fits; gives = unchanged refused })
