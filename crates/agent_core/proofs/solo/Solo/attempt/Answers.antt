use Rattle.std.{specs.Prelude.{◌≡◌, Some, IfSome, Option, ℕ}, proofs.Common.{sym, subst}}
use Rattle.cache_policy.specs.Turns.{asked_step, mark_step, closes}
use Rattle.agent_core.{proofs.{Taken.closes_taken, Seating.{moves, own_outs, own_seated}}, specs.{Seating.Seated, Solos.SoloState, Stepped.turn_of_stepped}}
use Rattle.agent_core.proofs.solo.Solo.attempt.Given as given
use Rattle.agent_core.proofs.solo.Solo.attempt.Goals as goal

pub step-outcome-requires : goal.step-outcome-requires
step-outcome-requires g c = record {
  own = own_outs c.self.inside.known.run c.self.inside.out c.self.inside.holder (closes (mark_step c.self.inside.session c.args.step))
      (subst (λ (closed : Option ℕ). IfSome closed (λ number. c.self.inside.out ≡ Some number)) (sym (closes_taken c.self.inside.session c.args.step))
      (subst (λ (s : SoloState _). IfSome (closes (asked_step c.args.step)) (λ number. s.out ≡ Some number)) (sym c.self.view_is) c.requires.own))
      c.self.invariant.seated;
}

seated : (g : given.Over) (c : goal.After-self-1 g) → Seated c.step-outcome.new.self.run c.out_after-self-inside.result c.self.inside.holder
seated g c =
    subst (λ (o : Option ℕ). Seated c.step-outcome.new.self.run o c.self.inside.holder)
    (sym (c.out_after-self-inside.ensures (mark_step c.self.inside.session c.args.step) (c.is_close-gives_back.ensures c.self.inside.session)))
    (own_seated c.self.inside.known.run c.step-outcome.new.self.run (mark_step c.self.inside.session c.args.step) c.self.inside.out c.self.inside.holder c.self.invariant.seated
    (turn_of_stepped c.step-outcome.result)
    (moves _ _ _ _ _ (mark_step c.self.inside.session c.args.step) _ c.step-outcome.ensures.was_legal c.step-outcome.ensures.takes)
    c.step-outcome.ensures.fits
    (subst (λ (closed : Option ℕ). IfSome closed (λ number. c.self.inside.out ≡ Some number)) (sym (closes_taken c.self.inside.session c.args.step))
    (subst (λ (s : SoloState _). IfSome (closes (asked_step c.args.step)) (λ number. s.out ≡ Some number)) (sym c.self.view_is) c.requires.own)))

pub invariant_of-self : goal.invariant_of-self
invariant_of-self g c = record {
  seated = seated g c;
  script_is = c.self.invariant.script_is;
  holder_is = c.self.invariant.holder_is;
}

pub returns-clause-seated : goal.returns-clause-seated
returns-clause-seated g c = seated g c
