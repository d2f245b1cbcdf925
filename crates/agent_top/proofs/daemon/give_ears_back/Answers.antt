use Rattle.std.proofs.Common.{◌∙◌, subst}
use Rattle.agent_top.proofs.Ears.{GaveBack, gave_one}
use Rattle.agent_top.proofs.daemon.give_ears_back.Goals as goal

pub loop-ear-preserved : goal.loop-ear-preserved
loop-ear-preserved g c = (
  gave_one g.H.Ear.Ear.faults c.args.ears.items c.pop.new.self.items c.in-Some.ear _ _ _
      (subst (λ left. GaveBack g.H.Ear.Ear.faults c.args.ears.items (g.H.Host.listens c.args.host.now) left (g.H.Host.listens c.loop-ear.host)) c.in-Some.ensures.items c.loop-ear.invariant.0)
      c.ear_back.ensures.rose c.ear_back.ensures.listens,
  c.ear_back.ensures.server ∙ c.loop-ear.invariant.1,
  c.ear_back.ensures.process ∙ c.loop-ear.invariant.2,
  c.ear_back.ensures.homedir ∙ c.loop-ear.invariant.3,
)
