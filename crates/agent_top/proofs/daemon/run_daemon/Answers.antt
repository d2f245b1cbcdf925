use Rattle.std.proofs.Common.{refl, ap, subst, ◌∙◌, arith}
use Rattle.agent_top.{proofs.{Rounds.{by_extra, ears_stay_own}, Running.listens_rose}, specs.{Daemon.{AreEarsOf, summed, no_listener, no_memory}, Top.exit_number}}
use Rattle.agent_top.proofs.daemon.run_daemon.Goals as goal

pub returns-in_default-clause-runs : goal.returns-in_default-clause-runs
returns-in_default-clause-runs g c = rw c.number.ensures no_memory

pub returns-in_default-with_capacity-clause-runs : goal.returns-in_default-with_capacity-clause-runs
returns-in_default-with_capacity-clause-runs g c = rw c.number-in_default-with_capacity.ensures no_memory

pub returns-in_default-listeners-clause-runs : goal.returns-in_default-listeners-clause-runs
returns-in_default-listeners-clause-runs g c = rw c.number-in_default-listeners.ensures (no_listener (c.in_default-listeners.ensures.failed refl))

pub returns-clause-runs : goal.returns-clause-runs
returns-clause-runs g c =
    let r = c.serve_rounds-passes.result in
    let rounds = by_extra _ c.args.rules.now c.in-Some.listener _ c.in-Some.extra c.in-Ok.passes.items c.with_ears-ears.result.items r.0.items r.1.items c.as_ref-ported.ensures.value
    (rw c.in-Some.ensures.homedir at c.serve_rounds-passes.ensures.rounds) in
    summed (record {
      counted = c.in-Ok.counted;
      limits = c.in-Ok.ensures.about.0 ∙ c.limits_of.ensures;
      workers = c.in-Ok.ensures.about.1 ∙ c.workers_of.ensures.number;
      passes = r.0.items;
      all = omega (arith, c.serve_rounds-passes.ensures.all.0, c.in-Ok.ensures.all, c.in-Ok.ensures.about.1, r.0.ok);
      began = c.in-Ok.passes.items;
      new = c.in-Ok.ensures.new;
      listener = c.in-Some.listener;
      is_home = c.in-Some.ensures.home;
      extra = c.in-Some.extra;
      is_extra = c.in-Some.ensures.extra.0;
      extra_as = c.in-Some.ensures.extra.1;
      early = c.with_ears-ears.result.items;
      ears = r.1.items;
      new_ears = c.with_ears-ears.ensures.new;
      rounds = rounds;
      over = c.serve_rounds-passes.ensures.end;
      own_ears = ears_stay_own _ c.args.rules.now c.in-Some.listener c.in-Some.extra c.in-Ok.passes.items c.with_ears-ears.result.items r.0.items r.1.items rounds
          (subst (λ e. AreEarsOf g.H.Listener.Listener.hears c.in-Some.listener e c.with_ears-ears.result.items) c.as_ref-ported.ensures.value c.with_ears-ears.ensures.own);
      heard = omega (arith, c.in-Some.ensures.listens, c.give_ears_back.ensures.heard);
      tally = c.close-tally.result;
      closed = c.close-tally.ensures;
      sent = c.write_summary-sent.result;
      written = c.write_summary-sent.ensures.written;
      number_is = c.number-2.ensures ∙ ap exit_number c.status_after.ensures;
      cut = c.write_summary-sent.ensures.cut;
      unstopped = listens_rose g.H.Ear.Ear.faults r.1.items c.in-Ok.counted r.0.items c.close-tally.result _ _ _ c.close-tally.ensures c.serve_rounds-passes.ensures.end
          c.give_ears_back.ensures.rose c.in-Some.ensures.listens;
      listens_stay = omega (arith, c.in-Some.ensures.listens, c.give_ears_back.ensures.listens);
      faults_stay = c.write_summary-sent.ensures.faults;
    })
