use Rattle.std.proofs.Common.{sym, ◌∙◌}
use Rattle.key_commands.proofs.Requesting.{kept_by_ticket, kept_by_turn}
use Rattle.key_commands.proofs.protecting.keep_new.Goals as goal

pub returns-then-is_held-clause-turn : goal.returns-then-is_held-clause-turn
returns-then-is_held-clause-turn g c =
    let closes = rw c.copy.ensures at c.close.ensures.given in
    rw c.close.ensures.none (kept_by_ticket c.args.grip.now c.args.pass.now c.args.held.now (sym c.is_held.ensures ∙ c.if-is_held.true) closes)

pub returns-clause-turn : goal.returns-clause-turn
returns-clause-turn g c = kept_by_turn c.args.grip.now c.args.pass.now c.args.held.now (sym c.is_held.ensures ∙ c.if-is_held.false) c.keep_pass.ensures.turn
