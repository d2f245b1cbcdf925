use Rattle.std.proofs.{Common.{◌≡◌, Some, None, true, false, refl, ap, sym, ◌∙◌}, lemmas.Result.err_from_is_err_and}
use Rattle.{agent_ask.{specs.Session.Actions.{returns, refuses}, proofs.ActionsDone.{action_then, action_stops}}, trust_list.specs.Trust.trust}
use Rattle.agent_origin.{specs.TrustExchanges.{asked_in, Marked}, proofs.TrustDone.{file_left, said_done, beside_all}}
use Rattle.agent_origin.proofs.trust.marking.mark_trusted.Goals as goal

pub returns-in_err-file-clause-marks : goal.returns-in_err-file-clause-marks
unfolding Marked
returns-in_err-file-clause-marks g c = λ keys dice.
    let p = err_from_is_err_and c.from_residual.result c.from_residual.ensures.1 in
    rw (p.1, p.2, c.requires.none)
    (action_stops
    (beside_all g.D.Desk.turned g.P.Prompter.prompted c.args.conn.now c.args.desk.now c.args.prompter.now _ c.requires.open c.in_err-file.ensures.refused keys dice))

pub returns-in-Some-true-clause-marks : goal.returns-in-Some-true-clause-marks
unfolding Marked
returns-in-Some-true-clause-marks g c =
    let m = c.args.marking.now in
    let is : trust c.in_ok-file.file.items m.fingerprint.now.0 ≡ Some true = rw c.deref.ensures.value at (sym c.trusted.ensures ∙ (c.in-Some-true.is ∙ ap (λ b. Some b) c.in-Some-true.field-0-test)) in
    rw c.requires.none
    (beside_all g.D.Desk.turned g.P.Prompter.prompted c.args.conn.now c.args.desk.now c.args.prompter.now _ c.requires.open
    (said_done m.fingerprint.now (λ file. asked_in m.rules.now m.options.now m.fingerprint.now m.purpose m.name.now.items m.options.now.mode) c.in_ok-file.ensures.read (Some true) is
    (file_left refl _ (λ held. returns))))

pub returns-in-Some-false-clause-marks : goal.returns-in-Some-false-clause-marks
unfolding Marked
returns-in-Some-false-clause-marks g c =
    let m = c.args.marking.now in
    let is : trust c.in_ok-file.file.items m.fingerprint.now.0 ≡ Some false = rw c.deref.ensures.value at (sym c.trusted.ensures ∙ (c.in-Some-false.is ∙ ap (λ b. Some b) c.in-Some-false.field-0-test)) in
    rw c.requires.none
    (beside_all g.D.Desk.turned g.P.Prompter.prompted c.args.conn.now c.args.desk.now c.args.prompter.now _ c.requires.open
    (said_done m.fingerprint.now (λ file. asked_in m.rules.now m.options.now m.fingerprint.now m.purpose m.name.now.items m.options.now.mode) c.in_ok-file.ensures.read (Some false) is
    (file_left refl _ (λ held. refuses))))

pub returns-clause-marks : goal.returns-clause-marks
unfolding Marked
returns-clause-marks g c = λ keys dice.
    let m = c.args.marking.now in
    let is : trust c.in_ok-file.file.items m.fingerprint.now.0 ≡ None = rw c.deref.ensures.value at (sym c.trusted.ensures ∙ c.in-None.is) in
    action_then
    (beside_all g.D.Desk.turned g.P.Prompter.prompted c.args.conn.now c.args.desk.now c.args.prompter.now None c.requires.open c.in_ok-file.ensures.read keys dice)
    (rw is (c.ask.ensures.asks keys dice))
