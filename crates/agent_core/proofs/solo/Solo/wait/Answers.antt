use Rattle.std.{specs.Prelude.{◌≡◌, List, length, IfErr}, proofs.Common.{ap, sym, ◌∙◌, subst, arith}}
use Rattle.cache_policy.specs.{declared.step.Step.Step, Turns.Stand}
use Rattle.agent_core.specs.{declared.foreign.Foreign.Foreign, Openings.without_wait, Solos.{AtSolo, seen, ClosesHolder, again, goes, gives_back}, Stepped.IsSettled}
use Rattle.agent_core.proofs.{Promise.{goes_next, stands_held, own_script, next_script, end_script, closed_none, closed_out, closed_session, never_stands, not_stood, own_tried, stood_again, own_turn}, Taken.opening_again}
use Rattle.agent_core.proofs.solo.Solo.wait.Goals as goal

pub attempt-requires-clause-free : goal.attempt-requires-clause-free
attempt-requires-clause-free g c = λ _. (goes_next _ _ _ c.play_next.ensures.next).out ∙ c.loop-self.invariant.free

pub loop-self-smaller : goal.loop-self-smaller
loop-self-smaller g c =
    let next = next_script _ _ c.loop-self-test.ensures.next in
    let same = ap (λ (l : List (List Foreign)). length l) (own_script _ _ (Stand c.in-Stood.again) _ c.in-Stood.ensures.step) in
    omega (arith, next, same)

pub loop-self-preserved : goal.loop-self-preserved
loop-self-preserved g c =
    let next = goes_next _ _ _ c.play_next.ensures.next in
    let mine = c.requires.own ∙ sym (next.session ∙ c.loop-self.invariant.session) in
    let step = own_tried _ _ c.args.opening c.args.first c.loop-self.wait c.step.result (Stand c.in-Stood.again) c.in-Stood.ensures.step c.step.ensures
    c.loop-self.invariant.wait mine in
    let held = stands_held _ _ c.in-Stood.again _ step (next.out ∙ c.loop-self.invariant.free) c.in-Stood.ensures.seated in
    record {
      waits = λ turn after waits. c.loop-self.invariant.waits turn after (again c.loop-self-test.ensures.next step waits);
      wait = stood_again _ c.args.opening c.args.first c.in-Stood.again _ step mine;
      session = ap (λ (s : AtSolo). s.session) step.same ∙ (next.session ∙ c.loop-self.invariant.session);
      free = held.0;
      held = held.1;
      lent = c.attempt.ensures.lent ∙ (c.play_next.ensures.lent ∙ c.loop-self.invariant.lent);
    }

pub returns-in_default : goal.returns-in_default
returns-in_default g c =
    let next = goes_next _ _ _ c.play_next.ensures.next in
    let mine = c.requires.own ∙ sym (next.session ∙ c.loop-self.invariant.session) in
    let step = own_tried _ _ c.args.opening c.args.first c.loop-self.wait c.step.result _ c.attempt.ensures.step c.step.ensures c.loop-self.invariant.wait mine in
    record {
      waits = c.loop-self.invariant.waits _ _ (goes c.loop-self-test.ensures.next (own_turn _ _ _ _ _ (sym c.settled.ensures.turn) step));
      refused = subst (λ (s : Step). IfErr c.settled.result (λ refused. refused.step ≡ s))
          (ap without_wait c.step.ensures ∙ opening_again c.args.opening _) (c.settled.ensures.back c.step.result c.attempt.ensures.back);
      settled = subst IsSettled (sym c.settled.ensures.turn) (not_stood c.step.result c.attempt.result c.attempt.ensures.back c.in_default.not-Stood);
      lent = c.attempt.ensures.lent ∙ (c.play_next.ensures.lent ∙ c.loop-self.invariant.lent);
    }

pub settled-requires-2 : goal.settled-requires-2
settled-requires-2 g c =
    let ended = end_script _ _ c.loop-self-test.ensures.next in
    never_stands (seen g.C.Clock.readings c.close_holder.new.self) _ _ _ c.attempt-2.ensures.step
    (closed_out _ _ c.close_holder.ensures.closes ∙ (ap (λ (s : AtSolo). s.out) ended.1 ∙ c.loop-self.invariant.free))
    (closed_none _ _ c.close_holder.ensures.closes) c.attempt-2.ensures.seated

pub returns-clause-waits : goal.returns-clause-waits
returns-clause-waits g c =
    let ended = end_script _ _ c.loop-self-test.ensures.next in
    let mine = c.requires.own
    ∙ sym (closed_session _ _ c.close_holder.ensures.closes ∙ (ap (λ (s : AtSolo). s.session) ended.1 ∙ c.loop-self.invariant.session)) in
    let step = own_tried _ _ c.args.opening c.args.first c.loop-self.wait c.step-2.result _ c.attempt-2.ensures.step c.step-2.ensures c.loop-self.invariant.wait mine in
    c.loop-self.invariant.waits _ _
    (gives_back ended.0 (subst (λ (s : AtSolo). ClosesHolder s (seen g.C.Clock.readings c.close_holder.new.self)) ended.1 c.close_holder.ensures.closes)
    (own_turn _ _ _ _ _ (sym c.settled-2.ensures.turn) step))

pub returns-clause-refused : goal.returns-clause-refused
returns-clause-refused g c =
    subst (λ (s : Step). IfErr c.settled-2.result (λ refused. refused.step ≡ s))
    (ap without_wait c.step-2.ensures ∙ opening_again c.args.opening _) (c.settled-2.ensures.back c.step-2.result c.attempt-2.ensures.back)

pub returns-clause-settled : goal.returns-clause-settled
returns-clause-settled g c =
    let ended = end_script _ _ c.loop-self-test.ensures.next in
    subst IsSettled (sym c.settled-2.ensures.turn)
    (never_stands (seen g.C.Clock.readings c.close_holder.new.self) _ _ _ c.attempt-2.ensures.step
    (closed_out _ _ c.close_holder.ensures.closes ∙ (ap (λ (s : AtSolo). s.out) ended.1 ∙ c.loop-self.invariant.free))
    (closed_none _ _ c.close_holder.ensures.closes) c.attempt-2.ensures.seated)
