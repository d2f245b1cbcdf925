use Rattle.std.proofs.{Common.refl, lemmas.Result.err_from_is_err_and}
use Rattle.agent_ask.{proofs.ActionsDone.{action_then, action_stops, action_still, action_turns}, specs.Session.{Actions.returns as is_returned, ActionReplies.stops_at}}
use Rattle.key_commands.{proofs.{Partial.{beside_keys, with_prompter}, Doing.{action_alone, action_called}, Requesting.replies_ok}, specs.Exchanges.PasswdReplies}
use Rattle.key_commands.proofs.passwd.change_passphrase.Goals as goal

pub found_or_new-requires-clause-open : goal.found_or_new-requires-clause-open
found_or_new-requires-clause-open g c = c.in_ok-opened.ensures.does.fits.0

pub returns-in_err-file-clause-carries : goal.returns-in_err-file-clause-carries
unfolding PasswdReplies
returns-in_err-file-clause-carries g c = λ wraps.
    let p = err_from_is_err_and c.from_residual.result c.from_residual.ensures.1 in
    rw (p.1, p.2, c.requires.free) (stops_at (action_stops (action_called c.requires.open c.in_err-file.ensures.reads)))

pub returns-in_err-opened-clause-carries : goal.returns-in_err-opened-clause-carries
unfolding PasswdReplies
returns-in_err-opened-clause-carries g c = λ wraps.
    let p = err_from_is_err_and c.from_residual-in_err-opened.result c.from_residual-in_err-opened.ensures.1 in
    let opened = rw c.requires.free at c.in_err-opened.ensures.does in
    rw (p.1, p.2) (stops_at (action_then (action_called c.requires.open c.in_ok-file.ensures.reads) (action_stops (beside_keys opened))))

pub returns-in_err-check_len-clause-carries : goal.returns-in_err-check_len-clause-carries
unfolding PasswdReplies
returns-in_err-check_len-clause-carries g c = λ wraps.
    let p = err_from_is_err_and c.from_residual-in_err-check_len.result c.from_residual-in_err-check_len.ensures.1 in
    let opened = rw c.requires.free at c.in_ok-opened.ensures.does in
    let short = action_alone opened.fits.0 c.in_err-check_len.ensures.short in
    rw (p.1, p.2) (stops_at (action_then (action_called c.requires.open c.in_ok-file.ensures.reads) (action_then (beside_keys opened) (action_stops (action_stops short)))))

pub returns-in_err-found-clause-carries : goal.returns-in_err-found-clause-carries
unfolding PasswdReplies
returns-in_err-found-clause-carries g c = λ wraps.
    let p = err_from_is_err_and c.from_residual-in_err-found.result c.from_residual-in_err-found.ensures.1 in
    let opened = rw c.requires.free at c.in_ok-opened.ensures.does in
    let going = opened.fits.0 in
    rw (p.1, p.2) (stops_at (action_then (action_called c.requires.open c.in_ok-file.ensures.reads) (action_then (beside_keys opened)
    (action_stops (action_then (action_alone going c.in_ok-check_len.ensures.short) (action_stops (action_stops (action_turns going c.in_err-found.ensures.turn))))))))

pub returns-in_err-pass-clause-carries : goal.returns-in_err-pass-clause-carries
unfolding PasswdReplies
returns-in_err-pass-clause-carries g c = λ wraps.
    let p = err_from_is_err_and c.from_residual-in_err-pass.result c.from_residual-in_err-pass.ensures.1 in
    let opened = rw c.requires.free at c.in_ok-opened.ensures.does in
    let going = opened.fits.0 in
    rw (p.1, p.2) (stops_at (action_then (action_called c.requires.open c.in_ok-file.ensures.reads) (action_then (beside_keys opened)
    (action_stops (action_then (action_alone going c.in_ok-check_len.ensures.short) (action_stops (action_then (action_turns going c.in_ok-found.ensures.turn) (beside_keys c.in_err-pass.ensures.does))))))))

pub returns-in_err-rewrite_file-clause-carries : goal.returns-in_err-rewrite_file-clause-carries
unfolding PasswdReplies
returns-in_err-rewrite_file-clause-carries g c = λ wraps.
    let p = err_from_is_err_and c.from_residual-in_err-rewrite_file.result c.from_residual-in_err-rewrite_file.ensures.1 in
    let opened = rw c.requires.free at c.in_ok-opened.ensures.does in
    let going = opened.fits.0 in
    let passed = c.in_ok-pass.ensures.does in
    let rewritten = rw c.as_slice-bytes.ensures at c.in_err-rewrite_file.ensures.does _ passed.fits.0 in
    rw (p.1, p.2) (stops_at (action_then (action_called c.requires.open c.in_ok-file.ensures.reads) (action_then (beside_keys opened)
    (action_stops (action_then (action_alone going c.in_ok-check_len.ensures.short)
    (action_then (action_then (action_turns going c.in_ok-found.ensures.turn) (beside_keys passed)) (with_prompter rewritten)))))))

pub returns-clause-carries : goal.returns-clause-carries
unfolding PasswdReplies
returns-clause-carries g c = λ wraps.
    let opened = rw c.requires.free at c.in_ok-opened.ensures.does in
    let going = opened.fits.0 in
    let passed = c.in_ok-pass.ensures.does in
    let rewritten = rw c.as_slice-bytes.ensures at c.in_ok-rewrite_file.ensures.does _ passed.fits.0 in
    replies_ok (action_then (action_called c.requires.open c.in_ok-file.ensures.reads) (action_then (beside_keys opened)
    (action_then (action_then (action_alone going c.in_ok-check_len.ensures.short)
    (action_then (action_then (action_turns going c.in_ok-found.ensures.turn) (beside_keys passed)) (with_prompter rewritten))) (action_still passed.fits.0 refl is_returned))))
