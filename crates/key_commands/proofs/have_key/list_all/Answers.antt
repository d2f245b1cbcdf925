use Rattle.std.proofs.{Common.refl, lemmas.Result.err_from_is_err_and}
use Rattle.agent_ask.{specs.Session.{Actions.returns as is_returned, ActionReplies.{comes_to, stops_at}}, proofs.ActionsDone.{action_then, action_stops, action_still}}
use Rattle.key_commands.{proofs.Doing.{action_called, action_alone}, specs.{Exchanges.ListGripsReplies, KeyActions.tells, declared.reply.Reply.TheVariants.Data}}
use Rattle.key_commands.proofs.have_key.list_all.Goals as goal

pub returns-in_err-grips : goal.returns-in_err-grips
unfolding ListGripsReplies
returns-in_err-grips g c = λ rules options wraps conn dice going.
    let p = err_from_is_err_and c.from_residual.result c.from_residual.ensures.1 in
    rw (p.1, p.2) (stops_at (action_stops (action_called going c.in_err-grips.ensures.refused)))

pub returns-in_err-bytes : goal.returns-in_err-bytes
unfolding ListGripsReplies
returns-in_err-bytes g c = λ rules options wraps conn dice going.
    let p = err_from_is_err_and c.from_residual-in_err-bytes.result c.from_residual-in_err-bytes.ensures.1 in
    let joins = rw c.deref.ensures.value at c.in_err-bytes.ensures in
    rw (p.1, p.2) (stops_at (action_then (action_called going c.in_ok-grips.ensures.listed) (action_stops (action_alone going joins))))

pub returns : goal.returns
unfolding ListGripsReplies
returns g c = λ rules options wraps conn dice going.
    let joins = rw c.deref.ensures.value at c.in_ok-bytes.ensures in
    comes_to {answer = Data c.in_ok-bytes.bytes} (λ text is. action_then (action_called going c.in_ok-grips.ensures.listed)
    (action_then (action_alone going joins) (action_then (action_still going refl (tells is)) (action_still going refl is_returned))))
