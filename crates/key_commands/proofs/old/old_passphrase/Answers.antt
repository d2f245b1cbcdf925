use Rattle.std.proofs.{Common.{sym, refl, ◌∙◌}, lemmas.Result.err_from_is_err_and}
use Rattle.agent_ask.{specs.Session.Actions.returns as is_returned, proofs.ActionsDone.{action_then, action_stops, action_turned, action_still, action_turns, cache_asked}}
use Rattle.key_commands.{proofs.{Doing.leaves_alone, Requesting.clear_old}, specs.Passphrases.OpensLocked}
use Rattle.key_commands.proofs.old.old_passphrase.Goals as goal

pub returns-then-is_clear-clause-does : goal.returns-then-is_clear-clause-does
returns-then-is_clear-clause-does g c =
    action_still c.requires.open refl (clear_old c.args.asking.now.rules.now c.args.asking.now.options.now c.args.asking.now.grip.now c.args.key c.args.held.now c.args.nonce.now _ (sym c.is_clear.ensures.clear ∙ c.if-is_clear.true))

pub returns-in_err-locked-clause-does : goal.returns-in_err-locked-clause-does
returns-in_err-locked-clause-does g c =
    let p = err_from_is_err_and c.from_residual.result c.from_residual.ensures.1 in
    rw (sym c.is_clear.ensures.clear ∙ c.if-is_clear.false, p.1, p.2)
    (action_stops (leaves_alone c.requires.open c.in_err-locked.ensures))

pub returns-in_err-found-clause-does : goal.returns-in_err-found-clause-does
unfolding OpensLocked
returns-in_err-found-clause-does g c =
    let p = err_from_is_err_and c.from_residual-in_err-found.result c.from_residual-in_err-found.ensures.1 in
    rw (sym c.is_clear.ensures.clear ∙ c.if-is_clear.false, p.1, p.2)
    (action_then (leaves_alone c.requires.open c.in_ok-locked.ensures) (action_stops (action_turns c.requires.open c.in_err-found.ensures.turn)))

pub returns-in_err-opened-clause-does : goal.returns-in_err-opened-clause-does
unfolding OpensLocked
returns-in_err-opened-clause-does g c =
    let p = err_from_is_err_and c.from_residual-in_err-opened.result c.from_residual-in_err-opened.ensures.1 in
    rw (sym c.is_clear.ensures.clear ∙ c.if-is_clear.false, p.1, p.2)
    (action_then (leaves_alone c.requires.open c.in_ok-locked.ensures) (action_then (action_turns c.requires.open c.in_ok-found.ensures.turn) (action_stops (leaves_alone c.requires.open c.in_err-opened.ensures.tries))))

pub returns-in-Some-clause-does : goal.returns-in-Some-clause-does
unfolding OpensLocked
returns-in-Some-clause-does g c =
    let tried = rw c.in-Some.is at c.in_ok-opened.ensures.tries in
    rw (sym c.is_clear.ensures.clear ∙ c.if-is_clear.false)
    (action_then (leaves_alone c.requires.open c.in_ok-locked.ensures) (action_then (action_turns c.requires.open c.in_ok-found.ensures.turn)
    (action_then (leaves_alone c.requires.open tried) (action_still c.requires.open refl is_returned))))

pub returns-in_err-cached-clause-does : goal.returns-in_err-cached-clause-does
unfolding OpensLocked
returns-in_err-cached-clause-does g c =
    let p = err_from_is_err_and c.from_residual-in_err-cached.result c.from_residual-in_err-cached.ensures.1 in
    let tried = rw c.in_default.is at c.in_ok-opened.ensures.tries in
    let asked = rw (c.key_id.ensures, c.way_of-way.ensures, c.mode.ensures) at c.in_err-cached.ensures.turn in
    rw (sym c.is_clear.ensures.clear ∙ c.if-is_clear.false, p.1, p.2)
    (action_then (leaves_alone c.requires.open c.in_ok-locked.ensures) (action_then (action_turns c.requires.open c.in_ok-found.ensures.turn)
    (action_then (leaves_alone c.requires.open tried) (action_stops (action_turned c.requires.open (cache_asked asked))))))

pub returns-in_err-opened-2-clause-does : goal.returns-in_err-opened-2-clause-does
unfolding OpensLocked
returns-in_err-opened-2-clause-does g c =
    let p = err_from_is_err_and c.from_residual-in_err-opened-2.result c.from_residual-in_err-opened-2.ensures.1 in
    let tried = rw c.in_default.is at c.in_ok-opened.ensures.tries in
    let asked = rw (c.key_id.ensures, c.way_of-way.ensures, c.mode.ensures) at c.in_ok-cached.ensures.turn in
    rw (sym c.is_clear.ensures.clear ∙ c.if-is_clear.false, p.1, p.2)
    (action_then (leaves_alone c.requires.open c.in_ok-locked.ensures) (action_then (action_turns c.requires.open c.in_ok-found.ensures.turn)
    (action_then (leaves_alone c.requires.open tried) (action_then (action_turned c.requires.open (cache_asked asked)) (action_stops (leaves_alone c.requires.open c.in_err-opened-2.ensures.tries))))))

pub returns-in-Some-2-clause-does : goal.returns-in-Some-2-clause-does
unfolding OpensLocked
returns-in-Some-2-clause-does g c =
    let tried = rw c.in_default.is at c.in_ok-opened.ensures.tries in
    let asked = rw (c.key_id.ensures, c.way_of-way.ensures, c.mode.ensures) at c.in_ok-cached.ensures.turn in
    let opens = rw c.in-Some-2.is at c.in_ok-opened-2.ensures.tries in
    rw (sym c.is_clear.ensures.clear ∙ c.if-is_clear.false)
    (action_then (leaves_alone c.requires.open c.in_ok-locked.ensures) (action_then (action_turns c.requires.open c.in_ok-found.ensures.turn) (action_then (leaves_alone c.requires.open tried)
    (action_then (action_turned c.requires.open (cache_asked asked)) (action_then (leaves_alone c.requires.open opens) (action_still c.requires.open refl is_returned))))))

pub returns-clause-does : goal.returns-clause-does
unfolding OpensLocked
returns-clause-does g c =
    let tried = rw c.in_default.is at c.in_ok-opened.ensures.tries in
    let asked = rw (c.key_id.ensures, c.way_of-way.ensures, c.mode.ensures) at c.in_ok-cached.ensures.turn in
    let again = rw c.in_default-2.is at c.in_ok-opened-2.ensures.tries in
    rw (sym c.is_clear.ensures.clear ∙ c.if-is_clear.false)
    (action_then (leaves_alone c.requires.open c.in_ok-locked.ensures) (action_then (action_turns c.requires.open c.in_ok-found.ensures.turn) (action_then (leaves_alone c.requires.open tried)
    (action_then (action_turned c.requires.open (cache_asked asked)) (action_then (leaves_alone c.requires.open again) c.open_uncached.ensures.does)))))
