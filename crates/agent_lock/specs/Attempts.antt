-- What one turn at the lock shows: how often its clock was read, the moment of a passphrase that is given, and the counts of its pass.
use Rattle.std.specs.Prelude.{◌≡◌, ◌≤◌, ◌⊎◌, ℕ, min, ⊤, Bool, true, false, Option, Some, None}
use Rattle.{agent_ports.specs.{Counts.Rose, Readings.Readings, declared.session.SessionId.SessionId}, cache_policy.specs.declared.{bounds.TheConstants.MAX_MOMENT, grant.Grant.Grant, mark.MarkStep.MarkStep, life.Limits.Limits}}
use Rattle.cache_policy.specs.{Desks.AtDesk, Turns.{Turn, Given, Open, Stopping, Refused, FitsReply, MayWantMemory}}
use Rattle.agent_lock.specs.{declared.pass.Counts.Counts, Counting.{counted, one_call}}

abbrev pub IfGiven : Turn → (Grant → Type 0) → Type 0
IfGiven (Given grant) P = P grant
IfGiven turn P = ⊤

abbrev pub IfRefused : Turn → Type 0 → Type 0
IfRefused Refused P = P
IfRefused turn P = ⊤

-- The counts of a pass rise by one exactly for its own turn's answer. A Stopping may come without a mark.
abbrev pub CountsTurn : Counts → Turn → Counts → Type 0
CountsTurn before Stopping after = (after ≡ before) ⊎ (after ≡ one_call before)
CountsTurn before turn after = after ≡ counted false before turn

-- a step was tried
pub record IsAttempt (first last : Readings) (before after : Counts) (asked : MarkStep) (turn : Turn) : Type 0 where
  pub rose : Rose first.count last.count
  pub never_falls : first.count ≤ last.count
  -- a passphrase is given at a moment that isn't below the clock's last reading, cut
  pub given : IfGiven turn (λ grant. min last.last MAX_MOMENT ≤ grant.moment)
  pub counts : CountsTurn before turn after
  pub fits : FitsReply asked turn
  -- a step finds no memory only where it may want some
  pub memory : IfRefused turn (MayWantMemory asked)

-- a desk at the lock: the counts of its pass, the session, the ticket that it has, and its clock
pub record AtSharedDesk (C : Type 0) : Type 0 where
  pub counts : Counts
  pub session : SessionId
  pub out : Option ℕ
  pub clock : C

-- what a desk at the lock shows: not its run
abbrev pub at_lock : Limits → SessionId → Option ℕ → AtDesk
at_lock limits session out = record { limits = limits; session = session; run = None; out = out }

-- the ticket after a turn, where the step is a Close or isn't
abbrev pub ticket_after : Option ℕ → Bool → Turn → Option ℕ
ticket_after out closes Refused = out
ticket_after out closes (Open number) = Some number
ticket_after out true turn = None
ticket_after out false turn = out
