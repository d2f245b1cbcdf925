use Rattle.std.proofs.Common.{◌≡◌, None}
use Rattle.cache_policy.specs.Turns.{Given, Empty, Open, Stopping, Late, Refused}
use Rattle.agent_ask.{specs.{Interrupts.{stopping, late, refused}, Seats.{found, none_found, prompt_opened, not_answered}}, proofs.ActionsDone.wants_prompt}
use Rattle.agent_ask.proofs.seat.turns.ask_cache.Goals as goal

pub returns-in-Ok-Given-clause-turn : goal.returns-in-Ok-Given-clause-turn
returns-in-Ok-Given-clause-turn g c =
    let turned = rw c.in-Ok-Given.field-0-is at c.in-Ok-Given.ensures.turned in
    rw (c.copy.ensures, c.secret.ensures) (record { turn = Given c.in-Ok-Given.grant; turned_so = turned; fits = (g.met.D.Desk.promise _ _ _ _ turned).fits; gives = found })

pub returns-in-Ok-Empty-clause-turn : goal.returns-in-Ok-Empty-clause-turn
returns-in-Ok-Empty-clause-turn g c =
    let turned = rw c.in-Ok-Empty.field-0-is at c.in-Ok-Empty.ensures.turned in
    record { turn = Empty; turned_so = turned; fits = (g.met.D.Desk.promise _ _ _ _ turned).fits; gives = none_found }

pub returns-in-Ok-Open-clause-turn : goal.returns-in-Ok-Open-clause-turn
returns-in-Ok-Open-clause-turn g c =
    let turned = rw c.in-Ok-Open.field-0-is at c.in-Ok-Open.ensures.turned in
    let fits = (g.met.D.Desk.promise _ _ _ _ turned).fits in
    let none : c.args.held.now ≡ None = c.requires.free (wants_prompt c.args.id c.args.mode c.args.way c.in-Ok-Open.ticket fits) in
    rw (c.put.ensures, none) (record { turn = Open c.in-Ok-Open.ticket; turned_so = turned; fits = fits; gives = prompt_opened })

pub returns-in-Ok-Open-clause-quiet : goal.returns-in-Ok-Open-clause-quiet
returns-in-Ok-Open-clause-quiet g c = λ is.
    let turned = rw c.in-Ok-Open.field-0-is at c.in-Ok-Open.ensures.turned in
    let opens = wants_prompt c.args.id c.args.mode c.args.way c.in-Ok-Open.ticket (g.met.D.Desk.promise _ _ _ _ turned).fits in
    cc (is, opens)

pub returns-in-Ok-Stopping-clause-turn : goal.returns-in-Ok-Stopping-clause-turn
returns-in-Ok-Stopping-clause-turn g c =
    let turned = rw c.in-Ok-Stopping.field-0-is at c.in-Ok-Stopping.ensures.turned in
    record { turn = Stopping; turned_so = turned; fits = (g.met.D.Desk.promise _ _ _ _ turned).fits; gives = not_answered stopping }

pub returns-in-Ok-Late-clause-turn : goal.returns-in-Ok-Late-clause-turn
returns-in-Ok-Late-clause-turn g c =
    let turned = rw c.in-Ok-Late.field-0-is at c.in-Ok-Late.ensures.turned in
    record { turn = Late; turned_so = turned; fits = (g.met.D.Desk.promise _ _ _ _ turned).fits; gives = not_answered late }

pub returns-in-Err-clause-turn : goal.returns-in-Err-clause-turn
returns-in-Err-clause-turn g c =
    let turned = c.in-Err.ensures.turned in
    rw c.without_memory.ensures (record { turn = Refused; turned_so = turned; fits = (g.met.D.Desk.promise _ _ _ _ turned).fits; gives = not_answered refused })
