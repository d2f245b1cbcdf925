use Rattle.std.proofs.{Common.refl, lemmas.Result.err_from_is_err_and}
use Rattle.agent_ask.{specs.Session.{Actions.returns as is_returned, ActionReplies.{comes_to, stops_at}}, proofs.ActionsDone.{action_then, action_stops, action_turned, action_still}}
use Rattle.key_commands.{proofs.Doing.action_called, specs.{Exchanges.KeyInfoReplies, declared.reply.Reply.TheVariants.Status}}
use Rattle.key_commands.proofs.key_info.key_info.Goals as goal

pub returns-in_err-file-clause-tells : goal.returns-in_err-file-clause-tells
unfolding KeyInfoReplies
returns-in_err-file-clause-tells g c = λ rules options wraps conn side going.
    let p = err_from_is_err_and c.from_residual.result c.from_residual.ensures.1 in
    rw (p.1, p.2) (stops_at (action_stops (action_called going c.in_err-file.ensures.reads)))

pub returns-in_err-cached-clause-tells : goal.returns-in_err-cached-clause-tells
unfolding KeyInfoReplies
returns-in_err-cached-clause-tells g c = λ rules options wraps conn side going.
    let p = err_from_is_err_and c.from_residual-in_err-cached.result c.from_residual-in_err-cached.ensures.1 in
    let turn = rw c.requires.none at c.in_err-cached.ensures.turn in
    rw (p.1, p.2) (stops_at (action_then (action_called going c.in_ok-file.ensures.reads) (action_stops (action_stops (action_turned going turn)))))

pub returns-clause-tells : goal.returns-clause-tells
unfolding KeyInfoReplies
returns-clause-tells g c = λ rules options wraps conn side going.
    let turn = rw c.requires.none at c.in_ok-cached.ensures.turn in
    comes_to {answer = Status c.info_line-line.result} (λ text is. action_then (action_called going c.in_ok-file.ensures.reads)
    (action_then (action_then (action_turned going turn) (action_still going refl is_returned)) (rw (is, c.info_line-line.ensures, c.is_clear.ensures.clear) (action_still going refl is_returned))))
