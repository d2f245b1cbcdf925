use Rattle.std.{specs.{Prelude.List, List.AllByRecursion}, proofs.Common.{sym, ◌∙◌, subst}}
use Rattle.agent_ports.specs.{Leads.{Leads, none, one}, declared.session.SessionId.SessionId}
use Rattle.agent_core.{specs.{declared.foreign.Foreign.Foreign, Foreigners.IsForeign, Solos.{seen, PlaysStep}}, proofs.{Playing.plays_session, Scripts.none_left}}
use Rattle.agent_core.proofs.solo.Solo.play.Goals as goal

pub play_step-requires : goal.play_step-requires
play_step-requires g c =
    let rest = subst (AllByRecursion (IsForeign c.args.self.now.session)) c.in-Some.ensures.steps.0 c.loop-foreign.invariant.foreign in
    subst (λ (s : SessionId). IsForeign s c.in-Some.foreign) (sym c.loop-foreign.invariant.session) rest.0

pub loop-foreign-preserved : goal.loop-foreign-preserved
loop-foreign-preserved g c =
    let rest = subst (AllByRecursion (IsForeign c.args.self.now.session)) c.in-Some.ensures.steps.0 c.loop-foreign.invariant.foreign in
    record {
      steps = λ after leads.
          c.loop-foreign.invariant.steps after
          (subst (λ (list : List Foreign). Leads PlaysStep (seen g.C.Clock.readings c.loop-foreign.self) list after) (sym c.in-Some.ensures.steps.0)
          (one c.play_step.ensures.step leads));
      foreign = rest.1;
      session = plays_session _ c.in-Some.foreign _ c.play_step.ensures.step ∙ c.loop-foreign.invariant.session;
      lent = c.play_step.ensures.lent ∙ c.loop-foreign.invariant.lent;
    }

pub returns-clause-steps : goal.returns-clause-steps
returns-clause-steps g c =
    c.loop-foreign.invariant.steps _
    (subst (λ (list : List Foreign). Leads PlaysStep (seen g.C.Clock.readings c.loop-foreign.self) list (seen g.C.Clock.readings c.loop-foreign.self))
    (sym (none_left c.loop-foreign.foreign-iterator.rest.items c.loop-foreign.foreign-iterator.rest.len c.loop-foreign.foreign-iterator.rest.ok.0 c.in-None.ensures.steps.0)) none)
