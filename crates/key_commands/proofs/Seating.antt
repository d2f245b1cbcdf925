-- Tickets that requests hold, and the turns that give them.
use Rattle.std.proofs.Common.{◌≡◌, ℕ, List, [], true, false, Option, Some, None, Result, Ok, is_some, refl}
use Rattle.{agent_ports.specs.declared.grip.Grip.Grip, cache_policy.specs.{declared.mark.MarkStep.MarkStep, Turns.Turn}, agent_ask.specs.{Seats.TakesTicket, Session.{Actions.returns, ActionStates.{still, one}, TurnActions.{Seats, opened}}}}
use Rattle.{agent_ask.proofs.ActionsDone.ticket_taken, session_client.specs.declared.refusal.Refusal.Refusal}
use Rattle.key_commands.specs.{Events.Event, Passphrases.{TakesSeat, seat_for}, Steps.{TakesTurn, TakesTurns}}

pub none_held : (held : Option ℕ) → is_some held ≡ false → held ≡ None
none_held None is = refl
none_held (Some ticket) is = cc is

-- a request that holds a ticket takes no other
pub keeps_seat : (grip : Grip) (held : Option ℕ) → is_some held ≡ true → TakesSeat grip held [] (Ok tt) held
keeps_seat grip None is = cc is
keeps_seat grip (Some ticket) is = returns

module _ {D : Type 0} {turned : D → MarkStep → Turn → D → Type 0} (grip : Grip) {desk now : D} where
  -- one that holds none takes the seat, or is refused
  seat_one : {result : Result (Unit {0}) Refusal} {after : Option ℕ} → TakesTurn turned (Seats (seat_for grip)) None desk result after now → TakesTurns turned (TakesSeat grip) None desk result after now
  seat_one done = one (record { step = done.step; turn = done.turn; turned_so = done.turned_so; does = done.does; on = done.on })

  pub seat_taken : {result : Result (Unit {0}) Refusal} {after : Option ℕ} (held : Option ℕ) → held ≡ None → TakesTicket turned (seat_for grip) desk result after now
      → TakesTurns turned (TakesSeat grip) held desk result after now
  seat_taken None is takes = seat_one (ticket_taken takes)
  seat_taken (Some ticket) is takes = cc is

-- a request that has taken its seat holds a ticket
holds_ticket : (grip : Grip) (before after : Option ℕ) (events : List Event) → TakesSeat grip before events (Ok tt) after → is_some after ≡ true
holds_ticket grip None after events (opened can) = refl
holds_ticket grip (Some ticket) after events returns = refl

pub seated : {D : Type 0} {turned : D → MarkStep → Turn → D → Type 0} (grip : Grip) {before after : Option ℕ} {desk now : D} → TakesTurns turned (TakesSeat grip) before desk (Ok tt) after now
    → is_some after ≡ true
seated grip {before} {after} (still does on) = holds_ticket grip before after [] does
seated grip {before} {after} (one turn) = holds_ticket grip before after _ turn.does
