use Rattle.std.proofs.{Common.refl, lemmas.Result.err_from_is_err_and}
use Rattle.agent_ask.{specs.Session.{Actions.returns as is_returned, ActionReplies.{comes_to, stops_at}}, proofs.ActionsDone.{action_then, action_stops, action_still}}
use Rattle.key_commands.{proofs.Doing.action_draws, specs.{Exchanges.KeyWrapReplies, KeyActions.tells, declared.reply.Reply.TheVariants.WrapKey}}
use Rattle.key_commands.proofs.keywrap_key.wrapping_key.Goals as goal

pub returns-in_err-key : goal.returns-in_err-key
unfolding KeyWrapReplies
returns-in_err-key g c = λ rules options conn keys going.
    let p = err_from_is_err_and c.from_residual.result c.from_residual.ensures.1 in
    rw (p.1, p.2) (stops_at (action_stops (action_draws going c.in_err-key.ensures)))

pub returns : goal.returns
unfolding KeyWrapReplies
returns g c = λ rules options conn keys going.
    rw (c.keep.ensures, c.copy.ensures)
    (comes_to {answer = WrapKey c.in_ok-key.key} (λ text is. action_then (action_draws going c.in_ok-key.ensures)
    (action_then (action_still going refl (tells is)) (action_still going refl is_returned))))
