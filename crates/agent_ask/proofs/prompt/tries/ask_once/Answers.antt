use Rattle.std.proofs.{Common.{rules, ◌≡◌, [], ◌∷◌, Err, refl, sym}, lemmas.Result.err_from_is_err_and}
use Rattle.agent_ports.specs.Leads.{none, one}
use Rattle.agent_ask.{specs.{Doing.{called, out_of_memory}, Events.{GetPin, Called, OutOfMemory}, Prompts.{MeetsCheck, typed, ended, weak, bad, untested, accepted}}, proofs.Making.{called_once, made_then, typed_is}}
use Rattle.agent_ask.proofs.prompt.tries.ask_once.Goals as goal

pub returns-in_err-pin-clause-tried : goal.returns-in_err-pin-clause-tried
returns-in_err-pin-clause-tried g c =
    let p = err_from_is_err_and c.from_residual.result c.from_residual.ensures.1 in
    rw (p.1, p.2) (called_once (GetPin c.args.error.now c.getpin.result) _ c.getpin.ensures
    (record { tests = []; done = ended c.getpin.result (sym {a = Err c.in_err-pin.field-0.0} c.in_err-pin.ensures); tested_so = none }))

pub returns-then-not-meets_check-clause-tried : goal.returns-then-not-meets_check-clause-tried
returns-then-not-meets_check-clause-tried g c =
    called_once (GetPin c.args.error.now c.getpin.result) _ c.getpin.ensures
    (rw (typed_is c.getpin.result c.in_ok-pin.pin c.in_ok-pin.ensures) (record { tests = []; done = weak {pin = c.in_ok-pin.pin} (search rules); tested_so = none }))

pub returns-in-Yes-clause-tried : goal.returns-in-Yes-clause-tried
returns-in-Yes-clause-tried g c =
    let met : MeetsCheck c.args.plan.now.check c.in_ok-pin.pin = search rules in
    let right = (g.met.T.Test.promise _ _ _ _ c.in-Yes.ensures).judges in
    let typed_pin = typed_is c.getpin.result c.in_ok-pin.pin c.in_ok-pin.ensures in
    made_then _ (λ events more first repeats. rw first (record { tests = _; done = accepted met right repeats; tested_so = one c.in-Yes.ensures none }))
    (called_once (GetPin c.args.error.now c.getpin.result) (λ events. events ≡ typed c.args.error.now c.in_ok-pin.pin ∷ []) c.getpin.ensures (rw typed_pin refl))
    c.ask_repeats.ensures.repeated

pub returns-in-No-clause-tried : goal.returns-in-No-clause-tried
returns-in-No-clause-tried g c =
    let met : MeetsCheck c.args.plan.now.check c.in_ok-pin.pin = search rules in
    called_once (GetPin c.args.error.now c.getpin.result) _ c.getpin.ensures
    (rw (typed_is c.getpin.result c.in_ok-pin.pin c.in_ok-pin.ensures)
    (record { tests = _; done = bad met (g.met.T.Test.promise _ _ _ _ c.in-No.ensures).judges; tested_so = one c.in-No.ensures none }))

pub returns-in-NoMemory-clause-tried : goal.returns-in-NoMemory-clause-tried
returns-in-NoMemory-clause-tried g c =
    let met : MeetsCheck c.args.plan.now.check c.in_ok-pin.pin = search rules in
    record {
      events = Called (GetPin c.args.error.now c.getpin.result) ∷ OutOfMemory ∷ [];
      are = rw (typed_is c.getpin.result c.in_ok-pin.pin c.in_ok-pin.ensures) (record { tests = _; done = untested met; tested_so = one c.in-NoMemory.ensures none });
      lead = one (called c.getpin.ensures) (one out_of_memory none);
    }
