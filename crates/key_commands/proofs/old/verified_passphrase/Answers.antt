use Rattle.std.proofs.{Common.{sym, refl, ◌∙◌}, lemmas.Result.err_from_is_err_and}
use Rattle.agent_ask.proofs.ActionsDone.{action_then, action_stops, action_still}
use Rattle.key_commands.proofs.{Doing.leaves_alone, Requesting.clear_verified}
use Rattle.key_commands.proofs.old.verified_passphrase.Goals as goal

pub returns-then-is_clear-clause-does : goal.returns-then-is_clear-clause-does
returns-then-is_clear-clause-does g c =
    action_still c.requires.open refl (clear_verified c.args.asking.now.rules.now c.args.asking.now.options.now c.args.asking.now.grip.now c.args.key c.args.held.now _ (sym c.is_clear.ensures.clear ∙ c.if-is_clear.true))

pub returns-in_err-locked-clause-does : goal.returns-in_err-locked-clause-does
returns-in_err-locked-clause-does g c =
    let p = err_from_is_err_and c.from_residual.result c.from_residual.ensures.1 in
    rw (sym c.is_clear.ensures.clear ∙ c.if-is_clear.false, p.1, p.2)
    (action_stops (leaves_alone c.requires.open c.in_err-locked.ensures))

pub returns-clause-does : goal.returns-clause-does
returns-clause-does g c =
    rw (sym c.is_clear.ensures.clear ∙ c.if-is_clear.false)
    (action_then (leaves_alone c.requires.open c.in_ok-locked.ensures) c.open_uncached.ensures.does)
