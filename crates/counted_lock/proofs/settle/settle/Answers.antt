use Rattle.std.proofs.Common.{rules, ◌≡◌, ℕ, [], ◌∷◌, ◌++◌, None, Some, Result, Ok, ap, sym, ◌∙◌, subst}
use Rattle.{cache_policy.specs.{declared.{step.{Reply.Reply, Refused.Refused}, tally.Tally.Tally}, Turns.{Turn, Stand, Refused as RefusedTurn, mark_step, turn_of}}, agent_core.specs.{Cores.mark_of, Recording.reply_of}}
use Rattle.agent_core.proofs.Knowing.{not_stand, not_refused}
use Rattle.counted_lock.{specs.{Logs.IsLegalLog, Plays.Counts, Claims.own, Settling.{Stepped, Settles}}, proofs.Settling.{settles_none, settles_made, adds_refused, adds_stood, adds_spent, adds_made, tally_fits, legal_made}}
use Rattle.counted_lock.proofs.settle.settle.Goals as goal

pub returns-then-trial : goal.returns-then-trial
returns-then-trial c = record { own = search rules; settles = settles_none _ _ _ _ _ c.requires.works (adds_spent _ _ _ _ _ _ c.requires.step c.if-trial.true) }

pub counted-tally-requires : goal.counted-tally-requires
counted-tally-requires c = tally_fits _ _ _ _ _ _ c.requires.step

pub returns-in-Err-clause-settles : goal.returns-in-Err-clause-settles
returns-in-Err-clause-settles c =
    let limits = (own c.args.place.now.me).limits in
    let asked = mark_step c.args.trial.now.session c.args.asked.now.value in
    let turn : turn_of c.args.answer.now ≡ RefusedTurn = ap turn_of c.in-Err.is in
    subst (λ (t : Turn). Settles c.args.trial.now asked t c.args.core.now None c.args.place.now.me c.args.place.now.me) (sym turn)
    (settles_none _ _ _ _ _ c.requires.works
    (adds_refused _ _ _ _ _ (subst (λ (t : Turn). Stepped limits (own c.args.place.now.me).seen asked t c.args.trial.now c.args.core.now) turn c.requires.step)))

pub returns-in-Stand-clause-settles : goal.returns-in-Stand-clause-settles
returns-in-Stand-clause-settles c =
    let limits = (own c.args.place.now.me).limits in
    let asked = mark_step c.args.trial.now.session c.args.asked.now.value in
    let turn : turn_of c.args.answer.now ≡ Stand c.in-Stand.field-0 = ap turn_of c.in-Ok.is ∙ ap (λ (r : Reply). turn_of (Ok r)) c.in-Stand.is in
    subst (λ (t : Turn). Settles c.args.trial.now asked t c.args.core.now None c.args.place.now.me c.args.place.now.me) (sym turn)
    (settles_none _ _ _ _ _ c.requires.works
    (adds_stood _ _ _ _ _ _ (subst (λ (t : Turn). Stepped limits (own c.args.place.now.me).seen asked t c.args.trial.now c.args.core.now) turn c.requires.step)))

pub count-requires-clause-legal : goal.count-requires-clause-legal
count-requires-clause-legal c =
    let limits = (own c.args.place.now.me).limits in
    let seen = (own c.args.place.now.me).seen in
    let asked = mark_step c.args.trial.now.session c.args.asked.now.value in
    let turn : Turn = turn_of (Ok c.in-Ok.reply) in
    let step = subst (λ (a : Result Reply Refused). Stepped limits seen asked (turn_of a) c.args.trial.now c.args.core.now) c.in-Ok.is c.requires.step in
    let adds = adds_made limits seen asked turn c.args.trial.now c.args.core.now step (not_stand c.in-Ok.reply c.in_default.not-Stand) (not_refused c.in-Ok.reply)
    (λ e. let on = step.trial_is.spent_is.1 e in let off = c.if-trial.false in cc) in
    subst (λ (t : ℕ). IsLegalLog limits (seen ++ mark_of c.args.trial.now.session asked (reply_of turn) t ∷ [])) (sym c.moment.ensures)
    (legal_made limits seen asked turn c.args.trial.now c.args.core.now step _ _ adds)

pub returns-else-trial : goal.returns-else-trial
returns-else-trial c =
    let limits = (own c.args.place.now.me).limits in
    let seen = (own c.args.place.now.me).seen in
    let asked = mark_step c.args.trial.now.session c.args.asked.now.value in
    let turn : Turn = turn_of (Ok c.in-Ok.reply) in
    let step = subst (λ (a : Result Reply Refused). Stepped limits seen asked (turn_of a) c.args.trial.now c.args.core.now) c.in-Ok.is c.requires.step in
    let adds = adds_made limits seen asked turn c.args.trial.now c.args.core.now step (not_stand c.in-Ok.reply c.in_default.not-Stand) (not_refused c.in-Ok.reply)
    (λ e. let on = step.trial_is.spent_is.1 e in let off = c.if-trial.false in cc) in
    let counts = subst (λ (t : ℕ). Counts (mark_of c.args.trial.now.session asked (reply_of turn) t) c.args.place.now.me c.count.new.place.me) c.moment.ensures c.count.ensures.counts in
    record {
      own = search rules;
      settles = subst (λ (a : Result Reply Refused). Settles c.args.trial.now asked (turn_of a) c.args.core.now (Some c.counted-tally.result) c.args.place.now.me c.count.new.place.me) (sym c.in-Ok.is)
          (subst (λ (t : Tally). Settles c.args.trial.now asked turn c.args.core.now (Some t) c.args.place.now.me c.count.new.place.me) (sym c.counted-tally.ensures)
          (settles_made _ _ _ _ _ _ _ _ adds counts c.requires.works));
    }
