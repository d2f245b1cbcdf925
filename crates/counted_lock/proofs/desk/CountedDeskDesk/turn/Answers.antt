use Rattle.std.proofs.Common.{◌≡◌, None, Ok, ap, sym, subst, ◌∙◌}
use Rattle.{cache_policy.specs.{declared.step.Reply.Reply, Turns.turn_of}, agent_core.{specs.{Openings.opening_step, Stepped.IsSettled}, proofs.{Knowing.not_stand, Taken.first_asked}}}
use Rattle.counted_lock.{specs.Turns.AtCountedDesk, proofs.Desks.{refused_is, first_turn, first_wait, later_turn, later_wait}}
use Rattle.counted_lock.proofs.desk.CountedDeskDesk.turn.Goals as goal

pub returns-in_err-reply-clause-turned : goal.returns-in_err-reply-clause-turned
returns-in_err-reply-clause-turned g c =
    let by = subst (λ (z : AtCountedDesk g.row.C.Denot). z.session.pass ≡ z.pass.number) c.self.view_is c.self.invariant.by in
    let last = refused_is c.from_residual.result c.from_residual.ensures.0 in
    first_turn _ _ c.args.step _ _ _ by c.requires.first c.attempt.ensures.tries (ap turn_of c.in_err-reply.was ∙ sym last) (subst IsSettled (sym last) tt)

pub returns-in_default : goal.returns-in_default
returns-in_default g c =
    let by = subst (λ (z : AtCountedDesk g.row.C.Denot). z.session.pass ≡ z.pass.number) c.self.view_is c.self.invariant.by in
    record {
      turned = first_turn _ _ c.args.step _ _ _ by c.requires.first c.attempt.ensures.tries (ap turn_of c.in_ok-reply.was) (not_stand c.in_ok-reply.reply c.in_default.not-Stand);
      refused = tt;
    }

pub loop-init : goal.loop-init
loop-init g c =
    let stand = ap turn_of c.in_ok-reply.was ∙ ap (λ (r : Reply). turn_of (Ok r)) c.in-Stand.is in
    let waits = first_wait _ _ c.args.step _ _ _ c.requires.first c.attempt.ensures.tries stand in
    record { own = waits.0; waited = waits.1 }

pub returns-in_err-reply-2-clause-turned : goal.returns-in_err-reply-2-clause-turned
returns-in_err-reply-2-clause-turned g c =
    let by = subst (λ (z : AtCountedDesk g.row.C.Denot). z.session.pass ≡ z.pass.number) c.self.view_is c.self.invariant.by in
    let last = refused_is c.from_residual-in_err-reply-2.result c.from_residual-in_err-reply-2.ensures.0 in
    let same : opening_step c.in-Some.opening None ≡ c.args.step = c.in-Some.ensures.same ∙ first_asked c.args.step c.requires.first in
    later_turn _ _ c.args.step c.in-Some.opening _ _ _ _ _ by same c.loop.invariant.waited c.try_again.ensures.tries (ap turn_of c.in_err-reply-2.was ∙ sym last) (subst IsSettled (sym last) tt)

pub loop-preserved : goal.loop-preserved
loop-preserved g c =
    let same : opening_step c.in-Some.opening None ≡ c.args.step = c.in-Some.ensures.same ∙ first_asked c.args.step c.requires.first in
    let stand = ap turn_of c.in_ok-reply-2.was ∙ ap (λ (r : Reply). turn_of (Ok r)) c.in-Stand-2.is in
    let waits = later_wait _ _ c.args.step c.in-Some.opening c.loop.stood _ _ _ _ same c.loop.invariant.waited c.try_again.ensures.tries stand in
    record { own = waits.0; waited = waits.1 }

pub returns-in_default-2 : goal.returns-in_default-2
returns-in_default-2 g c =
    let by = subst (λ (z : AtCountedDesk g.row.C.Denot). z.session.pass ≡ z.pass.number) c.self.view_is c.self.invariant.by in
    let same : opening_step c.in-Some.opening None ≡ c.args.step = c.in-Some.ensures.same ∙ first_asked c.args.step c.requires.first in
    record {
      turned = later_turn _ _ c.args.step c.in-Some.opening _ _ _ _ _ by same c.loop.invariant.waited c.try_again.ensures.tries (ap turn_of c.in_ok-reply-2.was)
          (not_stand c.in_ok-reply-2.reply c.in_default-2.not-Stand);
      refused = tt;
    }
