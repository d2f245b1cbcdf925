use Rattle.std.proofs.Common.{sym, ◌∙◌, refl}
use Rattle.agent_ask.specs.Session.ActionStates.{still}
use Rattle.key_commands.proofs.Seating.{keeps_seat, none_held, seat_taken}
use Rattle.key_commands.proofs.turns.take_seat.Goals as goal

pub hold_seat-requires : goal.hold_seat-requires
hold_seat-requires g c =
    record { none = none_held c.args.held.now (sym c.is_held.ensures ∙ c.if-is_held.false); out = c.requires.out }

pub returns-then-is_held-clause-turn : goal.returns-then-is_held-clause-turn
returns-then-is_held-clause-turn g c = still (keeps_seat c.args.grip.now c.args.held.now (sym c.is_held.ensures ∙ c.if-is_held.true)) refl

pub returns-clause-turn : goal.returns-clause-turn
returns-clause-turn g c =
    seat_taken c.args.grip.now c.args.held.now (none_held c.args.held.now (sym c.is_held.ensures ∙ c.if-is_held.false)) (rw c.key_id.ensures at c.hold_seat.ensures.taken)
