use Rattle.std.proofs.{Common.{None, refl, sym}, lemmas.Result.err_from_is_err_and}
use Rattle.{session_client.specs.declared.code.Code.TheVariants.Parameter, agent_ask.proofs.{ActionsDone.{ticket_given, action_then, action_stops, action_still, action_turns}, ActionValues.{needed_there, needed_missing}}}
use Rattle.agent_ask.specs.Session.{Actions.returns as is_returned, ActionReplies.{comes_to, stops_at}}
use Rattle.key_commands.{proofs.{Partial.beside_keys, Doing.{action_called, action_alone}}, specs.{Exchanges.ExportKeyReplies, KeyActions.tells, declared.reply.Reply.TheVariants.Data}}
use Rattle.key_commands.proofs.export_key.export_key.Goals as goal

pub returns-in_default-clause-carries : goal.returns-in_default-clause-carries
unfolding ExportKeyReplies
returns-in_default-clause-carries g c = λ dice.
    rw c.requires.free
    (stops_at (action_stops (action_still c.requires.open refl (needed_missing _ Parameter None c.args.wraps.now.export (sym c.in_default.ensures)))))

pub returns-in_err-file-clause-carries : goal.returns-in_err-file-clause-carries
unfolding ExportKeyReplies
returns-in_err-file-clause-carries g c = λ dice.
    let p = err_from_is_err_and c.from_residual.result c.from_residual.ensures.1 in
    let file = c.in_err-file.ensures.reads in
    rw (p.1, p.2, c.requires.free)
    (stops_at (action_then (action_still c.requires.open refl (needed_there _ Parameter None c.args.wraps.now.export (sym c.in-Some.ensures)))
    (action_stops (action_called c.requires.open file))))

pub returns-in_err-key-clause-carries : goal.returns-in_err-key-clause-carries
unfolding ExportKeyReplies
returns-in_err-key-clause-carries g c = λ dice.
    let p = err_from_is_err_and c.from_residual-in_err-key.result c.from_residual-in_err-key.ensures.1 in
    let opened = rw c.requires.free at c.in_err-key.ensures.does in
    rw (p.1, p.2)
    (stops_at (action_then (action_still c.requires.open refl (needed_there _ Parameter None c.args.wraps.now.export (sym c.in-Some.ensures)))
    (action_then (action_called c.requires.open c.in_ok-file.ensures.reads) (action_stops (beside_keys opened)))))

pub returns-in_err-wrapped-clause-carries : goal.returns-in_err-wrapped-clause-carries
unfolding ExportKeyReplies
returns-in_err-wrapped-clause-carries g c = λ dice.
    let p = err_from_is_err_and c.from_residual-in_err-wrapped.result c.from_residual-in_err-wrapped.ensures.1 in
    let opened = rw c.requires.free at c.in_ok-key.ensures.does in
    let going = c.in_ok-key.ensures.does.fits.0 in
    rw (p.1, p.2, c.close.ensures.none)
    (stops_at (action_then (action_still c.requires.open refl (needed_there _ Parameter None c.args.wraps.now.export (sym c.in-Some.ensures)))
    (action_then (action_called c.requires.open c.in_ok-file.ensures.reads) (action_then (beside_keys opened) (action_then (action_turns going (ticket_given c.close.ensures.given))
    (action_stops (action_alone going c.in_err-wrapped.ensures)))))))

pub returns-clause-carries : goal.returns-clause-carries
unfolding ExportKeyReplies
returns-clause-carries g c = λ dice.
    let opened = rw c.requires.free at c.in_ok-key.ensures.does in
    let going = c.in_ok-key.ensures.does.fits.0 in
    rw c.close.ensures.none
    (comes_to {answer = Data c.in_ok-wrapped.wrapped} (λ text is.
    action_then (action_still c.requires.open refl (needed_there _ Parameter None c.args.wraps.now.export (sym c.in-Some.ensures)))
    (action_then (action_called c.requires.open c.in_ok-file.ensures.reads) (action_then (beside_keys opened) (action_then (action_turns going (ticket_given c.close.ensures.given))
    (action_then (action_alone going c.in_ok-wrapped.ensures) (action_then (action_still going refl (tells is)) (action_still going refl is_returned))))))))
