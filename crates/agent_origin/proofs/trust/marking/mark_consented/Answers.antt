use Rattle.std.proofs.{Common.Some, lemmas.Result.err_from_is_err_and}
use Rattle.agent_ask.{specs.Session.ActionStates.NoTurn, proofs.ActionsDone.{action_then, action_stops}}
use Rattle.agent_origin.{specs.TrustExchanges.Consented, proofs.TrustDone.{agreed_done, beside_all}}
use Rattle.agent_origin.proofs.trust.marking.mark_consented.Goals as goal

pub returns-in_err-agree-clause-marks : goal.returns-in_err-agree-clause-marks
unfolding Consented
returns-in_err-agree-clause-marks g c = λ keys dice.
    let p = err_from_is_err_and c.from_residual.result c.from_residual.ensures.1 in
    let first = rw c.trust_question-trusts.ensures at c.in_err-agree.ensures.asked in
    rw (p.1, p.2)
    (action_stops
    (agreed_done c.args.ticket.now (g.T.TrustFile.trust c.args.trust.now) first c.in_err-agree.ensures.left keys dice))

pub returns-in_err-agree-2-clause-marks : goal.returns-in_err-agree-2-clause-marks
unfolding Consented
returns-in_err-agree-2-clause-marks g c = λ keys dice.
    let p = err_from_is_err_and c.from_residual-in_err-agree-2.result c.from_residual-in_err-agree-2.ensures.1 in
    let first = rw c.trust_question-trusts.ensures at c.in_ok-agree.ensures.asked in
    let second = rw c.fingerprint_question-is_right.ensures at c.in_err-agree-2.ensures.asked in
    rw (p.1, p.2)
    (action_then
    (agreed_done c.args.ticket.now (g.T.TrustFile.trust c.args.trust.now) first c.in_ok-agree.ensures.left keys dice)
    (action_stops
    (agreed_done c.args.ticket.now (g.T.TrustFile.trust c.args.trust.now) second c.in_err-agree-2.ensures.left keys dice)))

pub returns-clause-marks : goal.returns-clause-marks
unfolding Consented
returns-clause-marks g c = λ keys dice.
    let first = rw c.trust_question-trusts.ensures at c.in_ok-agree.ensures.asked in
    let second = rw c.fingerprint_question-is_right.ensures at c.in_ok-agree-2.ensures.asked in
    action_then
    (agreed_done c.args.ticket.now (g.T.TrustFile.trust c.args.trust.now) first c.in_ok-agree.ensures.left keys dice)
    (action_then
    (agreed_done c.args.ticket.now (g.T.TrustFile.trust c.args.trust.now) second c.in_ok-agree-2.ensures.left keys dice)
    (beside_all NoTurn g.P.Prompter.prompted c.agree-2.new.client tt c.agree-2.new.prompter (Some c.args.ticket.now) c.in_ok-agree-2.ensures.left
    c.store_unsaid.ensures keys dice))
