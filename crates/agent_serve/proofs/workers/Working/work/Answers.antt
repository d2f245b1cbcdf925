use Rattle.std.{proofs.Common.{refl, sym, arith, ◌∙◌}, specs.Option.option_copied}
use Rattle.agent_serve.{specs.Working.{none, one_more, numbers_spent, post_at}, proofs.Works.{next_stays, ends_without_link}}
use Rattle.agent_serve.proofs.workers.Working.work.Goals as goal

pub loop-init : goal.loop-init
loop-init g c = record { serves = none; own = refl; faults = omega arith; own_ear = λ own. own }

pub loop-preserved : goal.loop-preserved
loop-preserved g c = record {
  serves = one_more c.loop.invariant.serves c.in-Link.ensures.answers c.serve-pass.ensures.serves;
  own = next_stays _ c.args.self.now.rules.now c.serve-pass.ensures.serves ∙ c.loop.invariant.own;
  faults = omega (arith, c.loop.invariant.faults, c.in-Link.ensures.faults, c.serve-pass.ensures.faults);
  own_ear = λ own. c.serve-pass.ensures.own _ (c.in-Link.ensures.own (c.loop.invariant.own_ear own));
}

pub returns-then-sessions : goal.returns-then-sessions
returns-then-sessions g c = record {
  last = c.loop.ear;
  serves = c.loop.invariant.serves;
  ends = numbers_spent (sym c.sessions.ensures ∙ c.if-sessions.true);
  unfallen = c.loop.invariant.faults;
  own_ear = c.loop.invariant.own_ear;
}

pub returns-in-Failed : goal.returns-in-Failed
returns-in-Failed g c = record {
  last = c.loop.ear;
  serves = c.loop.invariant.serves;
  ends = ends_without_link _ c.args.self.now.rules.now (λ arrival. arrival.link) (post_at c.args.self.now.door c.args.self.now.listener.now (option_copied c.args.self.now.other)) c.args.ear c.loop.ear c.loop.pass c.next_at.new.ear
      c.next_at.result c.in-Failed.is c.next_at.ensures.answers c.next_at.ensures.stopped c.next_at.ensures.failed c.loop.invariant.faults;
  unfallen = omega (arith, c.loop.invariant.faults, c.next_at.ensures.faults);
  own_ear = λ own. c.next_at.ensures.own (c.loop.invariant.own_ear own);
}
