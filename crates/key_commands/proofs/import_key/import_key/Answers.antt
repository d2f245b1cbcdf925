use Rattle.std.proofs.{Common.{None, refl}, lemmas.Result.err_from_is_err_and}
use Rattle.{session_client.specs.declared.code.Code.TheVariants.Parameter, agent_ask.specs.Session.{Actions.returns as is_returned, ActionReplies.{comes_to, stops_at}}}
use Rattle.agent_ask.proofs.{ActionsDone.{action_then, action_stops, action_still, action_turns}, ActionValues.{needed_there, needed_missing}}
use Rattle.key_commands.{proofs.{Doing.{action_alone, action_called}, Partial.{beside_memory, beside_keys, with_prompter}}, specs.{Exchanges.ImportKeyReplies, declared.reply.Reply.TheVariants.Status}}
use Rattle.key_commands.proofs.import_key.import_key.Goals as goal

pub found_or_new-requires-clause-open : goal.found_or_new-requires-clause-open
found_or_new-requires-clause-open g c = (c.in_ok-key.ensures.receives None).fits.0

pub returns-in_default-clause-carries : goal.returns-in_default-clause-carries
unfolding ImportKeyReplies
returns-in_default-clause-carries g c =
    rw c.requires.free (stops_at (action_stops (action_still c.requires.open refl (needed_missing _ Parameter None c.args.wraps.now.import c.in_default.is))))

pub returns-in_err-key-clause-carries : goal.returns-in_err-key-clause-carries
unfolding ImportKeyReplies
returns-in_err-key-clause-carries g c =
    let p = err_from_is_err_and c.from_residual.result c.from_residual.ensures.1 in
    let received = rw c.bytes.ensures at c.in_err-key.ensures.receives in
    rw (p.1, p.2, c.requires.free) (stops_at (action_then (action_still c.requires.open refl (needed_there _ Parameter None c.args.wraps.now.import c.in-Some.is))
    (action_stops (beside_keys (beside_memory received)))))

pub returns-in_err-grip-clause-carries : goal.returns-in_err-grip-clause-carries
unfolding ImportKeyReplies
returns-in_err-grip-clause-carries g c =
    let p = err_from_is_err_and c.from_residual-in_err-grip.result c.from_residual-in_err-grip.ensures.1 in
    let received = rw c.bytes.ensures at c.in_ok-key.ensures.receives in
    rw (p.1, p.2, c.requires.free) (stops_at (action_then (action_still c.requires.open refl (needed_there _ Parameter None c.args.wraps.now.import c.in-Some.is))
    (action_then (beside_keys (beside_memory received)) (action_stops (action_alone (received None).fits.0 c.in_err-grip.ensures)))))

pub returns-in_err-check_free-clause-carries : goal.returns-in_err-check_free-clause-carries
unfolding ImportKeyReplies
returns-in_err-check_free-clause-carries g c =
    let p = err_from_is_err_and c.from_residual-in_err-check_free.result c.from_residual-in_err-check_free.ensures.1 in
    let received = rw c.bytes.ensures at c.in_ok-key.ensures.receives in
    rw (p.1, p.2, c.requires.free) (stops_at (action_then (action_still c.requires.open refl (needed_there _ Parameter None c.args.wraps.now.import c.in-Some.is))
    (action_then (beside_keys (beside_memory received)) (action_then (action_alone (received None).fits.0 c.in_ok-grip.ensures)
    (action_stops (action_called (received None).fits.0 c.in_err-check_free.ensures))))))

pub returns-in_err-found-clause-carries : goal.returns-in_err-found-clause-carries
unfolding ImportKeyReplies
returns-in_err-found-clause-carries g c =
    let p = err_from_is_err_and c.from_residual-in_err-found.result c.from_residual-in_err-found.ensures.1 in
    let received = rw c.bytes.ensures at c.in_ok-key.ensures.receives in
    let looked = rw c.requires.free at c.in_err-found.ensures.turn in
    rw (p.1, p.2, c.requires.free) (stops_at (action_then (action_still c.requires.open refl (needed_there _ Parameter None c.args.wraps.now.import c.in-Some.is))
    (action_then (beside_keys (beside_memory received)) (action_then (action_alone (received None).fits.0 c.in_ok-grip.ensures)
    (action_then (action_called (received None).fits.0 c.in_ok-check_free.ensures) (action_stops (action_stops (action_turns (received None).fits.0 looked))))))))

pub returns-in_err-pass-clause-carries : goal.returns-in_err-pass-clause-carries
unfolding ImportKeyReplies
returns-in_err-pass-clause-carries g c =
    let p = err_from_is_err_and c.from_residual-in_err-pass.result c.from_residual-in_err-pass.ensures.1 in
    let received = rw c.bytes.ensures at c.in_ok-key.ensures.receives in
    let looked = rw c.requires.free at c.in_ok-found.ensures.turn in
    let passed = rw c.requires.free at c.in_err-pass.ensures.does in
    rw (p.1, p.2) (stops_at (action_then (action_still c.requires.open refl (needed_there _ Parameter None c.args.wraps.now.import c.in-Some.is))
    (action_then (beside_keys (beside_memory received)) (action_then (action_alone (received None).fits.0 c.in_ok-grip.ensures)
    (action_then (action_called (received None).fits.0 c.in_ok-check_free.ensures) (action_stops (action_then (action_turns (received None).fits.0 looked) (beside_keys passed))))))))

pub returns-in_err-cache_nonce-clause-carries : goal.returns-in_err-cache_nonce-clause-carries
unfolding ImportKeyReplies
returns-in_err-cache_nonce-clause-carries g c =
    let p = err_from_is_err_and c.from_residual-in_err-cache_nonce.result c.from_residual-in_err-cache_nonce.ensures.1 in
    let received = rw c.bytes.ensures at c.in_ok-key.ensures.receives in
    let looked = rw c.requires.free at c.in_ok-found.ensures.turn in
    let passed = rw c.requires.free at c.in_ok-pass.ensures.does in
    rw (p.1, p.2) (stops_at (action_then (action_still c.requires.open refl (needed_there _ Parameter None c.args.wraps.now.import c.in-Some.is))
    (action_then (beside_keys (beside_memory received)) (action_then (action_alone (received None).fits.0 c.in_ok-grip.ensures)
    (action_then (action_called (received None).fits.0 c.in_ok-check_free.ensures) (action_then (action_then (action_turns (received None).fits.0 looked) (beside_keys passed))
    (action_stops (with_prompter (c.in_err-cache_nonce.ensures.stores _ passed.fits.0)))))))))

pub returns-clause-carries : goal.returns-clause-carries
unfolding ImportKeyReplies
returns-clause-carries g c =
    let received = rw c.bytes.ensures at c.in_ok-key.ensures.receives in
    let looked = rw c.requires.free at c.in_ok-found.ensures.turn in
    let passed = rw c.requires.free at c.in_ok-pass.ensures.does in
    comes_to {answer = Status c.nonce_line.result} (λ text is. action_then (action_still c.requires.open refl (needed_there _ Parameter None c.args.wraps.now.import c.in-Some.is))
    (action_then (beside_keys (beside_memory received)) (action_then (action_alone (received None).fits.0 c.in_ok-grip.ensures)
    (action_then (action_called (received None).fits.0 c.in_ok-check_free.ensures) (action_then (action_then (action_turns (received None).fits.0 looked) (beside_keys passed))
    (action_then (with_prompter (c.in_ok-cache_nonce.ensures.stores _ passed.fits.0)) (rw (is, c.nonce_line.ensures) (action_still passed.fits.0 refl is_returned))))))))
