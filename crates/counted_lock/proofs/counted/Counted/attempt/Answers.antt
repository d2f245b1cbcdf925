use Rattle.std.proofs.{Common.{rules, arith, ◌≡◌, ◌<◌, ap, sym, subst}, lemmas.Grind.common_steps}
use Rattle.{atomic_table.specs.Seated.TableId, cache_policy.specs.Turns.{mark_step, turn_of}}
use Rattle.counted_lock.{specs.{Passes.AtPass, Trying.Tries}, proofs.Passing.{calls_few, passes_on, at_pass, tries}}
use Rattle.counted_lock.proofs.counted.Counted.attempt.Goals as goal

pub raised-pass-inside-requires : goal.raised-pass-inside-requires
raised-pass-inside-requires g c = calls_few _ _ _ _ _ _ c.pass.invariant

pub invariant_of-pass : goal.invariant_of-pass
invariant_of-pass g c =
    let by : c.args.session.pass ≡ c.pass.inside.number = first_of (search rules, cc, grind (arith, common_steps)) in
    let below : c.args.session.count < c.pass.inside.sessions = first_of (search rules, grind (arith, common_steps)) in
    passes_on _ _ _ c.take_turn-answer.result _ _ _ _ _ _ _ _ c.pass.invariant by below c.take_turn-answer.ensures.takes c.raised-pass-inside.ensures

pub returns-clause-tries : goal.returns-clause-tries
returns-clause-tries g c =
    let by : c.args.session.pass ≡ c.pass.inside.number = first_of (search rules, cc, grind (arith, common_steps)) in
    let was : at_pass c.pass.inside.place.table_id c.pass.inside.number c.pass.inside.sessions c.pass.inside.place.me ≡ c.args.pass.now = first_of (search rules, cc) in
    subst (λ (z : AtPass × AtPass). Tries c.args.session (g.C.Clock.readings c.args.clock.now) (g.C.Clock.readings c.take_turn-answer.new.clock) (mark_step c.args.session c.args.step) z.0
    (turn_of c.take_turn-answer.result.answer) z.1)
    (λ i. (was i, ap (λ (t : TableId). at_pass t c.pass.inside.number c.pass.inside.sessions c.take_turn-answer.new.place.me) (sym c.take_turn-answer.ensures.own) i))
    (tries c.pass.inside.place.table_id _ _ _ _ _ _ _ _ _ _ _ _ c.pass.invariant by c.take_turn-answer.ensures.read c.take_turn-answer.ensures.takes)
