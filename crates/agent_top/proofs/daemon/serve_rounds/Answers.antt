use Rattle.std.proofs.Common.{inl, inr, refl, subst, arith}
use Rattle.agent_top.{specs.Daemon.AnyFailed, proofs.Rounds.port_round}
use Rattle.agent_top.proofs.daemon.serve_rounds.Goals as goal

pub loop-init : goal.loop-init
loop-init g c = record { own = c.requires.own; passes = refl; ears = refl; rounds = inl (refl, refl) }

pub returns-then-sees_a_stop-clause-rounds : goal.returns-then-sees_a_stop-clause-rounds
returns-then-sees_a_stop-clause-rounds g c =
    port_round _ _ c.args.passes.items c.args.ears.items c.loop.passes.items c.loop.ears.items c.run_workers.result.0.items c.run_workers.result.1.items c.sees_a_stop.new.passes.items
    c.loop.invariant.rounds c.run_workers.ensures.each c.sees_a_stop.ensures.looks

pub returns-then-any_failed-clause-rounds : goal.returns-then-any_failed-clause-rounds
returns-then-any_failed-clause-rounds g c =
    port_round _ _ c.args.passes.items c.args.ears.items c.loop.passes.items c.loop.ears.items c.run_workers.result.0.items c.run_workers.result.1.items c.sees_a_stop.new.passes.items
    c.loop.invariant.rounds c.run_workers.ensures.each c.sees_a_stop.ensures.looks

pub loop-preserved : goal.loop-preserved
loop-preserved g c = record {
  own = c.sees_a_stop.ensures.own;
  passes = omega (arith, c.sees_a_stop.ensures.all, c.run_workers.ensures.all.0, c.loop.invariant.passes);
  ears = omega (arith, c.run_workers.ensures.all.1, c.loop.invariant.ears);
  rounds = inr (
    port_round _ _ c.args.passes.items c.args.ears.items c.loop.passes.items c.loop.ears.items c.run_workers.result.0.items c.run_workers.result.1.items c.sees_a_stop.new.passes.items
        c.loop.invariant.rounds c.run_workers.ensures.each c.sees_a_stop.ensures.looks,
    record {
      unstopped = c.sees_a_stop.ensures.unstopped c.if-sees_a_stop.false;
      unfailed = subst (λ ears. ¬ AnyFailed g.H.Ear.Ear.faults ears) c.deref.ensures.value (c.any_failed.ensures.unfailed c.if-any_failed.false);
    },
  );
}
