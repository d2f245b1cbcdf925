use Rattle.std.proofs.Common.{refl}
use Rattle.cache_policy.specs.Turns.{Open, Stopping, Late, Refused}
use Rattle.agent_ask.specs.{Interrupts.{stopping, late, refused}, Seats.{opened, interrupted}}
use Rattle.agent_ask.proofs.seat.take_seat.Goals as goal

pub returns-in-Ok-Open-clause-taken : goal.returns-in-Ok-Open-clause-taken
returns-in-Ok-Open-clause-taken g c =
    record { turn = Open c.in-Ok-Open.ticket; turned_so = rw c.in-Ok-Open.field-0-is at c.in-Ok-Open.ensures.turned; fits = tt; gives = opened }

pub returns-in-Ok-Stopping-clause-refused : goal.returns-in-Ok-Stopping-clause-refused
returns-in-Ok-Stopping-clause-refused g c =
    record { turn = Stopping; turned_so = rw c.in-Ok-Stopping.field-0-is at c.in-Ok-Stopping.ensures.turned; fits = tt; gives = interrupted stopping }

pub returns-in-Ok-Late-clause-refused : goal.returns-in-Ok-Late-clause-refused
returns-in-Ok-Late-clause-refused g c = record { turn = Late; turned_so = rw c.in-Ok-Late.field-0-is at c.in-Ok-Late.ensures.turned; fits = refl; gives = interrupted late }

pub returns-in-Err-clause-refused : goal.returns-in-Err-clause-refused
returns-in-Err-clause-refused g c = rw c.without_memory.ensures (record { turn = Refused; turned_so = c.in-Err.ensures.turned; fits = tt; gives = interrupted refused })
