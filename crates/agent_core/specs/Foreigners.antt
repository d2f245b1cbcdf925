-- Steps of other sessions, and the ticket that one of them has. This is the project's own.
use Rattle.std.specs.{Prelude.{◌≡◌, ℕ, List, false, Option, Some, None, if◌then◌else◌}, Option.{is_some, option_and_then}, List.AllByRecursion}
use Rattle.{agent_ports.specs.declared.session.SessionId.SessionId, cache_policy.specs.{declared.mark.MarkStep.MarkStep, Turns.{Turn, Open, closes}, Waits.is_session}}
use Rattle.agent_core.specs.declared.{foreign.{Foreign.Foreign, ForeignStep.{ForeignStep, TheVariants.{Ask, Seat, CloseHeld, Put, Clear, Flush, Peek, Stop}}}, holder.Holder.Holder}
use Rattle.cache_policy.specs.declared.mark.MarkStep.TheVariants as asked

-- the step is one of another session
abbrev pub IsForeign : SessionId → Foreign → Type 0
IsForeign session foreign = is_session session foreign.session ≡ false

-- all steps of the lists are
abbrev pub AllForeign : SessionId → List (List Foreign) → Type 0
AllForeign session script = AllByRecursion (λ list. AllByRecursion (IsForeign session) list) script

-- the number of the ticket that a session has, where this is who has one
abbrev pub ticket_of : Option Holder → SessionId → Option ℕ
ticket_of holder session = option_and_then (λ h. if is_session session h.session then Some h.ticket else None) holder

abbrev pub close_of : Option ℕ → Option (List ℕ) → Option MarkStep
close_of (Some ticket) keep = Some (asked.Close ticket keep)
close_of None keep = None

-- the step that is taken, by the ticket that its session has; none where a Close finds none. It is never tried again.
abbrev pub told_step : Option ℕ → ForeignStep → Option MarkStep
told_step ticket (Ask id mode way) = Some (asked.Ask id mode way None)
told_step ticket (Seat under) = Some (asked.Seat under None)
told_step ticket (CloseHeld keep) = close_of ticket keep
told_step ticket (Put id mode life secret) = Some (asked.Put id mode life secret)
told_step ticket (Clear id mode) = Some (asked.Clear id mode)
told_step ticket Flush = Some asked.Flush
told_step ticket (Peek id mode) = Some (asked.Peek id mode)
told_step ticket Stop = Some asked.Stop

abbrev pub foreign_step : Option Holder → Foreign → Option MarkStep
foreign_step holder foreign = told_step (ticket_of holder foreign.session) foreign.step

-- which other session has a ticket after a step of one: an Open gives it one, and a Close takes it
abbrev pub holder_after : Option Holder → SessionId → MarkStep → Turn → Option Holder
holder_after holder session step_of (Open number) = Some (record { session = session; ticket = number })
holder_after holder session step_of turn = if is_some (closes step_of) then None else holder

-- the number of the ticket that a turn gave
abbrev pub opened : Turn → Option ℕ
opened (Open number) = Some number
opened turn = None
