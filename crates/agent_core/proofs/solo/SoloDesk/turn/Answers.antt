use Rattle.std.{specs.Prelude.{◌≡◌, ℕ, Option, Some, None, IfSome, IfErr}, proofs.Common.{sym, ◌∙◌, subst}}
use Rattle.cache_policy.specs.{declared.step.Step.Step, Turns.{Stand, asked_step, closes, with_since, turn_of}}
use Rattle.agent_core.{specs.{Openings.opening_step, Solos.{seen, Waits, at_once, waiting}, Stepped.IsSettled}, proofs.Promise.{goes_next, goes_wait, stands_held, stood_opens, stood_own, own_first, own_turn, turns_by_own_step, not_stood}}
use Rattle.agent_core.proofs.Taken.{asked_first, first_asked}
use Rattle.agent_core.proofs.solo.SoloDesk.turn.Goals as goal

pub attempt-requires-clause-free : goal.attempt-requires-clause-free
attempt-requires-clause-free g c = λ opens. (goes_next _ _ _ c.play_next.ensures.next).out ∙ c.requires.free opens

pub attempt-requires-clause-own : goal.attempt-requires-clause-own
attempt-requires-clause-own g c =
    subst (λ (o : Option ℕ). IfSome (closes (asked_step c.args.step)) (λ number. o ≡ Some number)) (sym (goes_next _ _ _ c.play_next.ensures.next).out) c.requires.own

pub wait-requires-clause-own : goal.wait-requires-clause-own
wait-requires-clause-own g c =
    stood_own _ _ c.in-Stood.wait _ c.in-Stood.ensures.step
    ∙ sym (goes_wait (asked_step c.args.step) _ c.in-Stood.wait _ (own_first _ _ c.args.step (Stand c.in-Stood.wait) c.in-Stood.ensures.step c.requires.first)).session

pub wait-requires-clause-free : goal.wait-requires-clause-free
wait-requires-clause-free g c =
    let step = own_first _ _ c.args.step (Stand c.in-Stood.wait) c.in-Stood.ensures.step c.requires.first in
    let opens = stood_opens (asked_step c.args.step) _ c.in-Stood.wait _ step in
    let out = (goes_next _ _ _ c.play_next.ensures.next).out ∙ c.requires.free opens in
    (stands_held _ (asked_step c.args.step) c.in-Stood.wait _ step out c.in-Stood.ensures.seated).0

pub wait-requires-clause-held : goal.wait-requires-clause-held
wait-requires-clause-held g c =
    let step = own_first _ _ c.args.step (Stand c.in-Stood.wait) c.in-Stood.ensures.step c.requires.first in
    let opens = stood_opens (asked_step c.args.step) _ c.in-Stood.wait _ step in
    let out = (goes_next _ _ _ c.play_next.ensures.next).out ∙ c.requires.free opens in
    (stands_held _ (asked_step c.args.step) c.in-Stood.wait _ step out c.in-Stood.ensures.seated).1

pub returns-in-Stood-clause-turned : goal.returns-in-Stood-clause-turned
returns-in-Stood-clause-turned g c =
    let step = own_first _ _ c.args.step (Stand c.in-Stood.wait) c.in-Stood.ensures.step c.requires.first in
    let asked : opening_step c.in-Stood.opening None ≡ c.args.step = c.in-Stood.ensures.back ∙ first_asked c.args.step c.requires.first in
    record {
      turns = turns_by_own_step (asked_step c.args.step) _ c.play_next.result _ _ _ (asked_first c.args.step) c.play_next.ensures.next
          (waiting step
          (subst (λ (s : Step). Waits (with_since (Some c.in-Stood.wait.since) (asked_step s)) (seen g.C.Clock.readings c.attempt.new.self) (turn_of c.wait.result)
          (seen g.C.Clock.readings c.wait.new.self)) asked c.wait.ensures.waits)) c.wait.ensures.settled;
      lent = c.wait.ensures.lent ∙ (c.attempt.ensures.lent ∙ c.play_next.ensures.lent);
    }

pub returns-in-Stood-clause-refused : goal.returns-in-Stood-clause-refused
returns-in-Stood-clause-refused g c =
    subst (λ (s : Step). IfErr c.wait.result (λ refused. refused.step ≡ s)) (c.in-Stood.ensures.back ∙ first_asked c.args.step c.requires.first) c.wait.ensures.refused

pub returns-in_default : goal.returns-in_default
returns-in_default g c =
    let settled = subst IsSettled (sym c.settled.ensures.turn) (not_stood c.args.step c.attempt.result c.attempt.ensures.back c.in_default.not-Stood) in
    record {
      turned = record {
        turns = turns_by_own_step (asked_step c.args.step) _ c.play_next.result _ _ _ (asked_first c.args.step) c.play_next.ensures.next
            (at_once (own_turn _ _ _ _ _ (sym c.settled.ensures.turn) (own_first _ _ c.args.step _ c.attempt.ensures.step c.requires.first))) settled;
        lent = c.attempt.ensures.lent ∙ c.play_next.ensures.lent;
      };
      refused = subst (λ (s : Step). IfErr c.settled.result (λ refused. refused.step ≡ s)) (first_asked c.args.step c.requires.first)
          (c.settled.ensures.back c.args.step c.attempt.ensures.back);
    }
