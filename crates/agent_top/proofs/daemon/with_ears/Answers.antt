use Rattle.std.{proofs.Common.{ap, subst, sym}, specs.Option.option_copied}
use Rattle.agent_top.{specs.Daemon.AreEarsOf, proofs.Ears.{all_at_home, last_at_extra}}
use Rattle.agent_top.proofs.daemon.with_ears.Goals as goal

pub returns-in-Some-clause-own : goal.returns-in-Some-clause-own
returns-in-Some-clause-own g c =
    subst (AreEarsOf g.H.Listener.Listener.hears c.args.listener.now (option_copied c.args.extra)) (sym c.push_reserved-in-Some.ensures.items)
    (last_at_extra g.H.Listener.Listener.hears c.args.listener.now (option_copied c.args.extra) c.in-Some.extra.now c.loop.room.items c.ear-in-Some.result (ap (λ e. option_copied e) c.in-Some.is) c.loop.invariant.own
    c.ear-in-Some.ensures.own)

pub returns-in_default-clause-own : goal.returns-in_default-clause-own
returns-in_default-clause-own g c =
    all_at_home g.H.Listener.Listener.hears c.args.listener.now (option_copied c.args.extra) c.loop.room.items (ap (λ e. option_copied e) c.in_default.is) c.loop.invariant.own
