use Rattle.std.proofs.Common.{ℕ, ap, sym, ◌∙◌, subst}
use Rattle.{agent_ports.specs.declared.session.SessionId.SessionId, cache_policy.specs.{declared.{step.Step.Step, tally.Tally.Tally}, Turns.{mark_step, turn_of}}}
use Rattle.counted_lock.{specs.{declared.turn.Tried.Tried, Claims.own, Settling.{Stepped, Settles}, Taking.TakesTurn}, proofs.Taking.{stepped, takes_turn}}
use Rattle.counted_lock.proofs.turn.take_turn.Goals as goal

pub settle-made-requires-clause-step : goal.settle-made-requires-clause-step
settle-made-requires-clause-step g c =
    let seen = own c.enter-cored.new.place.me in
    subst (λ (z : SessionId × Step). Stepped seen.limits seen.seen (mark_step z.0 z.1) (turn_of c.step-answer.result) c.of-trial.result c.step-answer.new.self)
    (λ i. (sym c.of-trial.ensures.session i, sym c.of-asked.ensures i))
    (stepped _ _ c.enter-cored.result _ c.of-trial.result _ _ _ _ c.enter-cored.ensures.enters c.of-trial.ensures.session c.of-trial.ensures.reading c.of-trial.ensures.tally c.of-trial.ensures.trial
    c.step-answer.ensures.step c.step-answer.ensures.limits)

pub returns-clause-takes : goal.returns-clause-takes
returns-clause-takes g c =
    let settles = subst (λ (z : SessionId × Step). Settles c.of-trial.result (mark_step z.0 z.1) (turn_of c.step-answer.result) c.step-answer.new.self c.settle-made.result c.enter-cored.new.place.me
    c.settle-made.new.place.me) (λ i. (c.of-trial.ensures.session i, c.of-asked.ensures i)) c.settle-made.ensures.settles in
    let tried : Tried = record { answer = c.step-answer.result; made = c.is_some.result; front = c.unwrap_or-cored.result.marks; stopped = c.stopped-stopped.result } in
    subst (λ (z : SessionId × ℕ). TakesTurn z.0 z.1 (mark_step c.args.session c.args.step) c.args.place.now.me tried c.leave.new.place.me)
    (λ i. (c.of-trial.ensures.session i, (c.of-trial.ensures.reading ∙ sym c.now-reading.ensures.last) i))
    (takes_turn _ _ _ _ c.enter-cored.result _ c.of-trial.result _ c.settle-made.result tried c.enter-cored.ensures.enters c.step-answer.ensures.limits settles c.leave.ensures.gives
    c.is_some.ensures (ap (λ (t : Tally). t.marks) c.unwrap_or-cored.ensures) c.stopped-stopped.ensures)
