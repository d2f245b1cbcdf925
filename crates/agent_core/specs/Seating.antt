-- Which ticket is out at a desk whose run is known.
use Rattle.std.specs.Prelude.{◌≡◌, ℕ, List, Option, Some, None}
use Rattle.cache_policy.specs.{declared.history.Held.Held as Ticket, Histories.History, Desks.IsSpentRun}
use Rattle.agent_core.specs.{declared.holder.Holder.Holder, Known.run_seat}

-- The ticket that is out is the one that the desk's session has, or the one of another session. An agent that is spent has given it up.
pub data Seated (run : List History) : Option ℕ → Option Holder → Type 0 where
  free : run_seat run ≡ None → Seated run None None
  own : (ticket : Ticket) (number : ℕ) → run_seat run ≡ Some ticket → ticket.ticket ≡ number → Seated run (Some number) None
  theirs : (ticket : Ticket) (holder : Holder) → run_seat run ≡ Some ticket → ticket.ticket ≡ holder.ticket → Seated run None (Some holder)
  over : {out : Option ℕ} {holder : Option Holder} → IsSpentRun run → Seated run out holder
