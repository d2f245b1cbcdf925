use Rattle.std.proofs.{Common.refl, lemmas.Result.err_from_is_err_and}
use Rattle.agent_ask.{specs.Session.Actions.returns as is_returned, proofs.ActionsDone.{action_then, action_stops, action_turned, action_still, action_turns}}
use Rattle.key_commands.proofs.Doing.{action_alone, action_called, action_drawn}
use Rattle.key_commands.proofs.import_key.store_key.Goals as goal

pub returns-in_err-drawn-clause-stores : goal.returns-in_err-drawn-clause-stores
returns-in_err-drawn-clause-stores g c = λ conn going.
    let p = err_from_is_err_and c.from_residual.result c.from_residual.ensures.1 in
    rw (p.1, p.2) (action_stops (action_drawn going c.in_err-drawn.ensures))

pub returns-in_err-file-clause-stores : goal.returns-in_err-file-clause-stores
returns-in_err-file-clause-stores g c = λ conn going.
    let p = err_from_is_err_and c.from_residual-in_err-file.result c.from_residual-in_err-file.ensures.1 in
    let protected = rw (c.split_draw.ensures.salt, c.split_draw.ensures.iv, c.bytes.ensures, c.s2k_count-count.ensures.count) at c.in_err-file.ensures.protects in
    rw (p.1, p.2) (action_then (action_drawn going c.in_ok-drawn.ensures) (action_stops (action_alone going protected)))

pub returns-in_err-keep_by_nonce-clause-stores : goal.returns-in_err-keep_by_nonce-clause-stores
returns-in_err-keep_by_nonce-clause-stores g c = λ conn going.
    let p = err_from_is_err_and c.from_residual-in_err-keep_by_nonce.result c.from_residual-in_err-keep_by_nonce.ensures.1 in
    let protected = rw (c.split_draw.ensures.salt, c.split_draw.ensures.iv, c.bytes.ensures, c.s2k_count-count.ensures.count) at c.in_ok-file.ensures.protects in
    let cached = rw (c.split_draw.ensures.nonce, c.bytes.ensures) at c.in_err-keep_by_nonce.ensures.turn in
    rw (p.1, p.2) (action_then (action_drawn going c.in_ok-drawn.ensures) (action_then (action_alone going protected) (action_stops (action_turned going cached))))

pub returns-in_err-replace_file-clause-stores : goal.returns-in_err-replace_file-clause-stores
returns-in_err-replace_file-clause-stores g c = λ conn going.
    let p = err_from_is_err_and c.from_residual-in_err-replace_file.result c.from_residual-in_err-replace_file.ensures.1 in
    let protected = rw (c.split_draw.ensures.salt, c.split_draw.ensures.iv, c.bytes.ensures, c.s2k_count-count.ensures.count) at c.in_ok-file.ensures.protects in
    let cached = rw (c.split_draw.ensures.nonce, c.bytes.ensures) at c.in_ok-keep_by_nonce.ensures.turn in
    let replaced = rw c.as_slice.ensures at c.in_err-replace_file.ensures in
    rw (p.1, p.2) (action_then (action_drawn going c.in_ok-drawn.ensures) (action_then (action_alone going protected) (action_then (action_turned going cached)
    (action_stops (action_called going replaced)))))

pub returns-in_err-keep_new-clause-stores : goal.returns-in_err-keep_new-clause-stores
returns-in_err-keep_new-clause-stores g c = λ conn going.
    let p = err_from_is_err_and c.from_residual-in_err-keep_new.result c.from_residual-in_err-keep_new.ensures.1 in
    let protected = rw (c.split_draw.ensures.salt, c.split_draw.ensures.iv, c.bytes.ensures, c.s2k_count-count.ensures.count) at c.in_ok-file.ensures.protects in
    let cached = rw (c.split_draw.ensures.nonce, c.bytes.ensures) at c.in_ok-keep_by_nonce.ensures.turn in
    let replaced = rw c.as_slice.ensures at c.in_ok-replace_file.ensures in
    rw (p.1, p.2) (action_then (action_drawn going c.in_ok-drawn.ensures) (action_then (action_alone going protected) (action_then (action_turned going cached)
    (action_then (action_called going replaced) (action_stops (action_turns going c.in_err-keep_new.ensures.turn))))))

pub returns-clause-stores : goal.returns-clause-stores
returns-clause-stores g c = λ conn going.
    let protected = rw (c.split_draw.ensures.salt, c.split_draw.ensures.iv, c.bytes.ensures, c.s2k_count-count.ensures.count) at c.in_ok-file.ensures.protects in
    let cached = rw (c.split_draw.ensures.nonce, c.bytes.ensures) at c.in_ok-keep_by_nonce.ensures.turn in
    let replaced = rw c.as_slice.ensures at c.in_ok-replace_file.ensures in
    rw (c.split_draw.ensures.nonce, c.bytes.ensures) (action_then (action_drawn going c.in_ok-drawn.ensures) (action_then (action_alone going protected)
    (action_then (action_turned going cached) (action_then (action_called going replaced)
    (action_then (action_turns going c.in_ok-keep_new.ensures.turn) (action_still going refl is_returned))))))
