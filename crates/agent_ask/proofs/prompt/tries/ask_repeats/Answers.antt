use Rattle.std.proofs.{Common.{rules, ◌≡◌, Err, sym, arith}, lemmas.Result.err_from_is_err_and}
use Rattle.agent_ports.{specs.Leads.{none, one}, proofs.Leading.leads_then}
use Rattle.agent_ask.{specs.{Doing.called, Events.GetPin, Prompts.{repeated, repeat_text, same, differs, ended}}, proofs.Making.{called_later, typed_is, repeated_more}}
use Rattle.agent_ask.specs.declared.prompt.prompter.Outcome.TheVariants as outcome
use Rattle.agent_ask.proofs.prompt.tries.ask_repeats.Goals as goal

pub loop-init : goal.loop-init
loop-init g c = (c.requires, none)

pub returns-in_err-again-clause-repeated : goal.returns-in_err-again-clause-repeated
returns-in_err-again-clause-repeated g c =
    let p = err_from_is_err_and c.from_residual.result c.from_residual.ensures.1 in
    rw (p.1, p.2)
    (called_later _ (GetPin repeat_text c.getpin.result) _ c.loop.invariant.1 c.getpin.ensures (ended c.getpin.result c.loop-test.true (sym {a = Err c.in_err-again.field-0.0} c.in_err-again.ensures)))

pub returns-then-not-is_same-clause-repeated : goal.returns-then-not-is_same-clause-repeated
returns-then-not-is_same-clause-repeated g c =
    called_later _ (GetPin repeat_text c.getpin.result) _ c.loop.invariant.1 c.getpin.ensures
    (rw (typed_is c.getpin.result c.in_ok-again.again c.in_ok-again.ensures) (differs {other = c.in_ok-again.again} c.loop-test.true (search rules)))

pub loop-preserved : goal.loop-preserved
loop-preserved g c =
    let typed_pin = typed_is c.getpin.result c.in_ok-again.again c.in_ok-again.ensures in
    let same : c.in_ok-again.again ≡ c.args.pin = search rules in
    let done : g.P.Prompter.prompted c.loop.prompter (GetPin repeat_text (outcome.Pin c.args.pin)) c.getpin.new.self =
    rw (sym same, sym typed_pin) c.getpin.ensures in
    ((g.met.P.Prompter.promise _ _ _ done).ready, rw (sym (repeated_more c.loop.counter c.args.pin)) (leads_then c.loop.invariant.1 (one (called done) none)))

pub returns-clause-repeated : goal.returns-clause-repeated
returns-clause-repeated g c =
    let all : c.loop.counter ≡ c.args.repeat = omega (arith, c.loop-test.false, c.loop.auto.counter-end) in
    record { events = repeated c.args.repeat c.args.pin; are = same; lead = rw (sym all) c.loop.invariant.1 }
