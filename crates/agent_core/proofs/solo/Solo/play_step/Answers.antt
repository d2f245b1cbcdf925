use Rattle.std.{specs.Prelude.{◌≡◌, false, Option, IfSome}, proofs.Common.{sym, ◌∙◌, subst}}
use Rattle.cache_policy.specs.{declared.{life.Limits.Limits, mark.MarkStep.MarkStep}, Legal.IsLegalRun, Turns.{mark_step, closes}, Waits.is_session}
use Rattle.agent_core.{specs.{declared.holder.Holder.Holder, Foreigners.holder_after, Seating.Seated, SoloInside.{lists_of, IsSolo}, Solos.{AtSolo, SoloState, PlaysStep}, Stepped.turn_of_stepped}, proofs.Seating.{moves, their_seated}}
use Rattle.agent_core.proofs.{Playing.{told_closes, their_outs, holder_opened, holder_shut, holder_foreign, plays_step, opened_nobody, none_held}, solo.Solo.play_step.Goals.After-into_ticket}
use Rattle.agent_core.proofs.solo.Solo.play_step.Given as given
use Rattle.agent_core.proofs.solo.Solo.play_step.Goals as goal

pub step-outcome-requires : goal.step-outcome-requires
step-outcome-requires g c = record {
  own = their_outs c.self.inside.known.run c.self.inside.out c.self.inside.holder (closes (mark_step c.args.foreign.session c.in-Some.step))
      (told_closes c.self.inside.holder c.args.foreign.session c.args.foreign.step (mark_step c.args.foreign.session c.in-Some.step) (sym c.in-Some.ensures.step)) c.self.invariant.seated;
}

pub unreachable-requires : goal.unreachable-requires
unreachable-requires g c =
    none_held _ c.self.inside.holder c.told_step.new.holder c.replace.result c.in-Some-replace.field-0
    (opened_nobody c.self.inside.known.run c.step-outcome.new.self.run (mark_step c.args.foreign.session c.in-Some.step) (turn_of_stepped c.step-outcome.result) c.in-Some-into_ticket.ticket
    c.self.inside.out c.self.inside.holder
    (moves _ _ _ _ _ (mark_step c.args.foreign.session c.in-Some.step) _ c.step-outcome.ensures.was_legal c.step-outcome.ensures.takes) c.in-Some-into_ticket.ensures c.self.invariant.seated)
    c.in-Some.ensures.taken c.replace.ensures.value c.in-Some-replace.is

-- what the step leaves, where this is the holder after it
module _ (g : given.Over) (c : After-into_ticket g) (holder : Option Holder)
    (now : holder ≡ holder_after c.self.inside.holder c.args.foreign.session (mark_step c.args.foreign.session c.in-Some.step) (turn_of_stepped c.step-outcome.result)) where
  abbrev before : AtSolo
  before = record {
    limits = c.self.inside.known.limits;
    session = c.self.inside.session;
    run = c.self.inside.known.run;
    out = c.self.inside.out;
    holder = c.self.inside.holder;
    script = lists_of c.self.inside.script.items;
    clock = g.C.Clock.readings c.self.inside.clock.clock;
  }

  abbrev asked : MarkStep
  asked = mark_step c.args.foreign.session c.in-Some.step

  other : is_session c.self.inside.session c.args.foreign.session ≡ false
  other = subst (λ (s : SoloState _). is_session s.session c.args.foreign.session ≡ false) (sym c.self.view_is) c.requires

  seated : Seated c.step-outcome.new.self.run c.self.inside.out holder
  seated =
      subst (λ (h : Option Holder). Seated c.step-outcome.new.self.run c.self.inside.out h) (sym now)
      (their_seated c.self.inside.known.run c.step-outcome.new.self.run asked c.self.inside.out c.self.inside.holder c.self.invariant.seated
      c.args.foreign.session (turn_of_stepped c.step-outcome.result)
      (moves _ _ _ _ _ asked _ c.step-outcome.ensures.was_legal c.step-outcome.ensures.takes) c.step-outcome.ensures.fits
      (told_closes c.self.inside.holder c.args.foreign.session c.args.foreign.step asked (sym c.in-Some.ensures.step)))

  kept : IsSolo c.self.inside.session c.step-outcome.new.self.run c.self.inside.out holder (lists_of c.self.inside.script.items)
  kept = record {
    seated = seated;
    script_is = c.self.invariant.script_is;
    holder_is = subst (λ (h : Option Holder). IfSome h (λ h. is_session c.self.inside.session h.session ≡ false)) (sym now)
        (holder_foreign c.self.inside.session c.args.foreign.session c.self.inside.holder asked (turn_of_stepped c.step-outcome.result) other c.self.invariant.holder_is);
  }

  plays : PlaysStep before c.args.foreign
      (record before { limits = c.step-outcome.new.self.limits; run = c.step-outcome.new.self.run; clock = g.C.Clock.readings c.now-reading.new.self.clock; holder = holder })
  plays =
      plays_step before c.args.foreign asked (turn_of_stepped c.step-outcome.result)
      c.step-outcome.new.self.limits c.step-outcome.new.self.run (g.C.Clock.readings c.now-reading.new.self.clock) holder other c.in-Some.ensures.step
      (record {
        reading = c.now-reading.result;
        read = c.now-reading.ensures.read;
        takes = c.step-outcome.ensures.takes;
        fits = c.step-outcome.ensures.fits;
        was_legal = c.step-outcome.ensures.was_legal;
        legal = subst (λ (l : Limits). IsLegalRun l c.step-outcome.new.self.run) c.step-outcome.ensures.limits c.step-outcome.ensures.legal;
      }) c.step-outcome.ensures.limits now

-- a ticket was given
now-opened : (g : given.Over) (c : goal.In-None g) → c.replace.new.self
    ≡ holder_after c.self.inside.holder c.args.foreign.session (mark_step c.args.foreign.session c.in-Some.step) (turn_of_stepped c.step-outcome.result)
now-opened g c = c.replace.ensures.after ∙ holder_opened c.self.inside.holder c.args.foreign.session (mark_step c.args.foreign.session c.in-Some.step) (turn_of_stepped c.step-outcome.result) _ c.in-Some-into_ticket.ensures

pub invariant_of-self-in-None : goal.invariant_of-self-in-None
invariant_of-self-in-None g c = kept g (goal.at.invariant_of-self-in-None g c).After-into_ticket _ (now-opened g c)

pub returns-in-None-clause-step : goal.returns-in-None-clause-step
returns-in-None-clause-step g c = rw (sym c.self.view_is) (plays g (goal.at.returns-in-None-clause-step g c).After-into_ticket _ (now-opened g c))

pub returns-in-None-clause-seated : goal.returns-in-None-clause-seated
returns-in-None-clause-seated g c = seated g (goal.at.returns-in-None-clause-seated g c).After-into_ticket _ (now-opened g c)

-- none was
now-shut : (g : given.Over) (c : goal.In_default-into_ticket g) → c.told_step.new.holder
    ≡ holder_after c.self.inside.holder c.args.foreign.session (mark_step c.args.foreign.session c.in-Some.step) (turn_of_stepped c.step-outcome.result)
now-shut g c =
    c.in-Some.ensures.taken
    ∙ holder_shut c.self.inside.holder c.args.foreign.session (mark_step c.args.foreign.session c.in-Some.step) (turn_of_stepped c.step-outcome.result)
    (λ number is. c.in_default-into_ticket.not-Some number (c.into_ticket.ensures ∙ sym is))

pub invariant_of-self-in_default-into_ticket : goal.invariant_of-self-in_default-into_ticket
invariant_of-self-in_default-into_ticket g c = kept g (goal.at.invariant_of-self-in_default-into_ticket g c).After-into_ticket _ (now-shut g c)

pub returns-in_default-into_ticket-clause-step : goal.returns-in_default-into_ticket-clause-step
returns-in_default-into_ticket-clause-step g c = rw (sym c.self.view_is) (plays g (goal.at.returns-in_default-into_ticket-clause-step g c).After-into_ticket _ (now-shut g c))

pub returns-in_default-into_ticket-clause-seated : goal.returns-in_default-into_ticket-clause-seated
returns-in_default-into_ticket-clause-seated g c = seated g (goal.at.returns-in_default-into_ticket-clause-seated g c).After-into_ticket _ (now-shut g c)
