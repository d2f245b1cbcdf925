-- A step on a run that is known: what it comes to, and which run there is then. This is the project's own.
use Rattle.std.specs.{Prelude.{◌≡◌, ℕ, ◌+◌, ◌<◌, List, length, Option, Some, None, IsSome}, Option.option_and_then}
use Rattle.{agent_ports.specs.declared.session.SessionId.SessionId, cache_policy.specs.declared.{bounds.TheConstants.MAX_MARKS, life.Limits.Limits, mark.{MarkStep.MarkStep, MarkReply.MarkReply}, history.Held.Held as Ticket, wait.Wait.Wait}}
use Rattle.cache_policy.specs.{Histories.{History, with_mark}, Desks.{Shows, IsSpentRun}, Policy.{Reply, policy}, Runs.{last_base, last_history, next_history, joined, moment_before, moment_of, run_with_mark}, Seat.seat}
use Rattle.cache_policy.specs.Turns.{Turn, Stand, Stopping, Refused, closes, wait_after}
use Rattle.agent_core.specs.Cores.{mark_of, WantsMemory}
use Rattle.cache_policy.specs.Policy as ruling

-- a core whose run is known is seen as its lifetimes and its run
pub record AtKnown : Type 0 where
  pub limits : Limits
  pub run : List History

-- the ticket that is out at the end of a run
abbrev pub run_seat : List History → Option Ticket
run_seat run = option_and_then seat (last_history run)

-- The ticket with this number is the one that is out; or the agent is spent, and takes back any.
pub data IsOut (run : List History) (number : ℕ) : Type 0 where
  held : (ticket : Ticket) → run_seat run ≡ Some ticket → ticket.ticket ≡ number → IsOut run number
  given_up : IsSpentRun run → IsOut run number

-- the moment of the next step, whose reading this is
abbrev pub next_moment : List History → ℕ → ℕ
next_moment run reading = moment_of (moment_before (joined run)) reading

-- A step finds no memory in these cases alone: it wants some for itself; it begins a history while no ticket is out; or it makes the last
-- mark of a history and leaves a ticket out, so that the step after it begins a history without taking memory. A Close never does.
pub data MayRefuse (limits : Limits) (last : History) (session : SessionId) (step_of : MarkStep) (moment : ℕ) : Type 0 where
  wants : WantsMemory limits (next_history last) step_of moment → MayRefuse limits last session step_of moment
  begins : closes step_of ≡ None → length last.marks ≡ MAX_MARKS → seat last ≡ None → MayRefuse limits last session step_of moment
  leaves : (answer : MarkReply) → closes step_of ≡ None → length last.marks + 1 ≡ MAX_MARKS → policy limits last step_of moment ≡ Reply answer
      → IsSome (seat (with_mark last (mark_of session step_of answer moment))) → MayRefuse limits last session step_of moment

-- A step of a session at a moment: the policy replies it, and the run goes on by its mark; or it stands, is refused, or comes to a spent
-- agent, and the run stays.
pub data TakesStep (limits : Limits) (run : List History) (session : SessionId) (moment : ℕ) (step_of : MarkStep) : Turn → List History → Type 0 where
  marked : {turn : Turn} {after : List History} (last : History) (answer : MarkReply) → last_history run ≡ Some last → (next_history last).base < last_base
      → policy limits (next_history last) step_of moment ≡ Reply answer
      → Shows limits (next_history last) (mark_of session step_of answer moment) turn
      → after ≡ run_with_mark run (mark_of session step_of answer moment) → TakesStep limits run session moment step_of turn after
  stood : {wait : Wait} {after : List History} (last : History) → last_history run ≡ Some last → (IsSpentRun run → ⊥)
      → policy limits (next_history last) step_of moment ≡ ruling.Stand → wait ≡ wait_after session step_of moment → after ≡ run
      → TakesStep limits run session moment step_of (Stand wait) after
  refused : {after : List History} (last : History) → last_history run ≡ Some last → (next_history last).base < last_base
      → MayRefuse limits last session step_of moment → after ≡ run → TakesStep limits run session moment step_of Refused after
  spent : {after : List History} → IsSpentRun run → after ≡ run → TakesStep limits run session moment step_of Stopping after
