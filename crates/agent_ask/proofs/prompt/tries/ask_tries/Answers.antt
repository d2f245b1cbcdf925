use Rattle.std.proofs.Common.{rules, ◌≡◌, [], ◌++◌, Ok, Err, append_assoc, append-nil, sym, arith}
use Rattle.agent_ports.specs.Leads.{none}
use Rattle.agent_ask.{specs.Prompts.{IsTry, try_text, good, over, again, bad}, proofs.Trying.{tested_then, same_rule, try_as}}
use Rattle.agent_ask.proofs.prompt.tries.ask_tries.Goals as goal

pub loop-number-init : goal.loop-number-init
loop-number-init g c = (c.requires, record { events = []; are = record { tests = []; done = λ more later end tries. tries; tested_so = none }; lead = none })

pub returns-in-Ok : goal.returns-in-Ok
returns-in-Ok g c =
    let same = same_rule g.met.T.Test.promise c.loop-number.invariant.1.are.tested_so in
    let text : c.deref.result.now ≡ try_text c.args.plan.now c.loop-number.failure c.loop-number.number = search rules in
    tested_then {Second = λ events tests. IsTry c.args.plan.now (g.T.Test.rule c.loop-number.test) c.deref.result.now events tests (Ok c.in-Ok.pin)} _
    (λ events more tests later so_far tried. so_far more later _ (good (omega arith) (rw (sym text) (try_as same tried)))) c.loop-number.invariant.1 c.in-Ok.ensures.tried

pub returns-in-Err-Over : goal.returns-in-Err-Over
returns-in-Err-Over g c =
    let same = same_rule g.met.T.Test.promise c.loop-number.invariant.1.are.tested_so in
    let text : c.deref.result.now ≡ try_text c.args.plan.now c.loop-number.failure c.loop-number.number = search rules in
    tested_then {Second = λ events tests. IsTry c.args.plan.now (g.T.Test.rule c.loop-number.test) c.deref.result.now events tests (Err c.in-Err-Over.field-0)} _
    (λ events more tests later so_far tried. so_far more later _ (over (omega arith) (rw (sym text, sym c.in-Err-Over.field-0-is) (try_as same tried)))) c.loop-number.invariant.1
    c.in-Err-Over.ensures.tried

pub loop-number-preserved : goal.loop-number-preserved
loop-number-preserved g c =
    let same = same_rule g.met.T.Test.promise c.loop-number.invariant.1.are.tested_so in
    let text : c.deref.result.now ≡ try_text c.args.plan.now c.loop-number.failure c.loop-number.number = search rules in (
      search rules,
      tested_then {Second = λ events tests. IsTry c.args.plan.now (g.T.Test.rule c.loop-number.test) c.deref.result.now events tests (Err c.in-Err-Failed.field-0)} _
          (λ events more tests made so_far tried others later end tries.
          rw (append_assoc events more others, append_assoc tests made later)
          (so_far (more ++ others) (made ++ later) end (again (omega arith) (rw (sym text, sym c.in-Err-Failed.field-0-is) (try_as same tried)) tries)))
          c.loop-number.invariant.1 c.in-Err-Failed.ensures.tried,
    )

pub returns : goal.returns
returns g c =
    let so_far = c.loop-number.invariant.1 in
    record {
      events = so_far.events;
      are = record {
        tests = so_far.are.tests;
        done = rw (sym (append-nil so_far.events), sym (append-nil so_far.are.tests)) (so_far.are.done [] [] _ (bad (omega arith)));
        tested_so = so_far.are.tested_so;
      };
      lead = so_far.lead;
    }
