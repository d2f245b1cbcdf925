use Rattle.std.proofs.lemmas.Result.{err_from_is_err_and}
use Rattle.agent_ask.proofs.ActionsDone.{action_then, action_stops, action_turns}
use Rattle.key_commands.{specs.Exchanges.RewritesFile, proofs.Doing.{action_called, action_drawn, action_alone}}
use Rattle.key_commands.proofs.passwd.rewrite_file.Goals as goal

pub returns-in_err-drawn-clause-does : goal.returns-in_err-drawn-clause-does
unfolding RewritesFile
returns-in_err-drawn-clause-does g c = λ conn going.
    let p = err_from_is_err_and c.from_residual.result c.from_residual.ensures.1 in
    let drawn = c.in_err-drawn.ensures in
    rw (p.1, p.2)
    (action_stops (action_drawn going drawn))

pub returns-in_err-list-clause-does : goal.returns-in_err-list-clause-does
unfolding RewritesFile
returns-in_err-list-clause-does g c = λ conn going.
    let p = err_from_is_err_and c.from_residual-in_err-list.result c.from_residual-in_err-list.ensures.1 in
    let protects = rw (c.salt_and_iv.ensures.salt, c.salt_and_iv.ensures.iv, c.bytes.ensures, c.s2k_count-count.ensures.count) at c.in_err-list.ensures.protects in
    rw (p.1, p.2)
    (action_then (action_drawn going c.in_ok-drawn.ensures) (action_stops (action_alone going protects)))

pub returns-in_err-new-clause-does : goal.returns-in_err-new-clause-does
unfolding RewritesFile
returns-in_err-new-clause-does g c = λ conn going.
    let p = err_from_is_err_and c.from_residual-in_err-new.result c.from_residual-in_err-new.ensures.1 in
    let protects = rw (c.salt_and_iv.ensures.salt, c.salt_and_iv.ensures.iv, c.bytes.ensures, c.s2k_count-count.ensures.count) at c.in_ok-list.ensures.protects in
    rw (p.1, p.2)
    (action_then (action_drawn going c.in_ok-drawn.ensures) (action_then (action_alone going protects) (action_stops (action_alone going c.in_err-new.ensures.rewrites))))

pub returns-in_err-replace_file-clause-does : goal.returns-in_err-replace_file-clause-does
unfolding RewritesFile
returns-in_err-replace_file-clause-does g c = λ conn going.
    let p = err_from_is_err_and c.from_residual-in_err-replace_file.result c.from_residual-in_err-replace_file.ensures.1 in
    let protects = rw (c.salt_and_iv.ensures.salt, c.salt_and_iv.ensures.iv, c.bytes.ensures, c.s2k_count-count.ensures.count) at c.in_ok-list.ensures.protects in
    let replaces = rw c.as_slice.ensures at c.in_err-replace_file.ensures in
    rw (p.1, p.2)
    (action_then (action_drawn going c.in_ok-drawn.ensures) (action_then (action_alone going protects) (action_then (action_alone going c.in_ok-new.ensures.rewrites)
    (action_stops (action_called going replaces)))))

pub returns-clause-does : goal.returns-clause-does
unfolding RewritesFile
returns-clause-does g c = λ conn going.
    let protects = rw (c.salt_and_iv.ensures.salt, c.salt_and_iv.ensures.iv, c.bytes.ensures, c.s2k_count-count.ensures.count) at c.in_ok-list.ensures.protects in
    let replaces = rw c.as_slice.ensures at c.in_ok-replace_file.ensures in
    action_then (action_drawn going c.in_ok-drawn.ensures) (action_then (action_alone going protects) (action_then (action_alone going c.in_ok-new.ensures.rewrites)
    (action_then (action_called going replaces) (action_turns going c.keep_new.ensures.turn))))
