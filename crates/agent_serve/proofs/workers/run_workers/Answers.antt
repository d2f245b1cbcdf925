use Rattle.std.{proofs.Common.{arith, ap}, specs.Option.option_copied}
use Rattle.agent_serve.proofs.{Pairs.paired_of, Works.{stay_of, without_extra, with_extra}}
use Rattle.agent_serve.proofs.workers.run_workers.Goals as goal

pub run_each-requires-after_bounds : goal.run_each-requires-after_bounds
run_each-requires-after_bounds g c κs within =
    let all = paired_of c.args.counted.now c.args.passes.items c.args.ears.items c.requires.own (omega (arith, c.requires.ears, c.args.passes.ok, c.args.ears.ok)) in
    (all, all)

pub run_each-requires-2-after_bounds : goal.run_each-requires-2-after_bounds
run_each-requires-2-after_bounds g c κs within =
    let all = paired_of c.args.counted.now c.args.passes.items c.args.ears.items c.requires.own (omega (arith, c.requires.ears, c.args.passes.ok, c.args.ears.ok)) in
    (all, all)

all_at_home : goal.returns-in_default-clause-each
all_at_home g c =
    without_extra _ c.args.rules.now c.args.listener.now (option_copied c.args.extra) c.args.passes.items c.args.ears.items c.run_each.result.0.items c.run_each.result.1.items (ap (λ e. option_copied e) c.in_default.is)
    c.run_each.ensures.each

pub returns-in_default-clause-own : goal.returns-in_default-clause-own
returns-in_default-clause-own g c =
    stay_of _ c.args.rules.now c.args.counted.now c.args.listener.now _ c.args.passes.items c.run_each.result.0.items c.args.ears.items c.run_each.result.1.items c.requires.own (all_at_home g c)

pub returns-in_default-clause-each : goal.returns-in_default-clause-each
returns-in_default-clause-each g c = all_at_home g c

last_at_extra : goal.returns-clause-each
last_at_extra g c =
    with_extra _ c.args.rules.now c.args.listener.now (option_copied c.args.extra) c.in-Some.extra.now c.args.passes.items c.args.ears.items c.run_each-2.result.0.items c.run_each-2.result.1.items
    (ap (λ e. option_copied e) c.in-Some.is) c.run_each-2.ensures.each

pub returns-clause-own : goal.returns-clause-own
returns-clause-own g c =
    stay_of _ c.args.rules.now c.args.counted.now c.args.listener.now _ c.args.passes.items c.run_each-2.result.0.items c.args.ears.items c.run_each-2.result.1.items c.requires.own (last_at_extra g c)

pub returns-clause-each : goal.returns-clause-each
returns-clause-each g c = last_at_extra g c
