use Rattle.std.proofs.Common.{rules, ◌∙◌, sym}
use Rattle.counted_lock.proofs.{Keeps.{draws, looks}, Turning.in_hand}
use Rattle.counted_lock.proofs.steps.enter.Goals as goal

pub fetch_add-number-requires : goal.fetch_add-number-requires
fetch_add-number-requires g c = (search rules, search rules, draws _ _ _ _ c.requires.idle)

pub load-serving-requires : goal.load-serving-requires
load-serving-requires g c = (search rules, search rules, looks _ _ _ _ c.loop.invariant.draws.waiting)

pub exchange-requires : goal.exchange-requires
exchange-requires g c = (search rules, (_, in_hand _ _ (c.load-serving.ensures.2.0 (c.if-serving-number.true ∙ sym c.loop.invariant.draws.number_is))))
