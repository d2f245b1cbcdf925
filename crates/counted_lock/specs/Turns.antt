-- What one turn at the counted lock does. This is the project's own.
use mathlib.Core.List.{IsPrefix}
use Rattle.std.specs.{Prelude.{◌≡◌, ◌≤◌, ℕ, true, List, [], ◌∷◌, ◌++◌, length, Option, Some, None}, List.AllByRecursion}
use Rattle.{agent_ports.specs.{Counts.Rose, Readings.{Readings, HasGiven}, declared.session.SessionId.SessionId}, cache_policy.specs.{declared.{life.Limits.Limits, mark.{Mark.Mark, MarkStep.MarkStep}}, Desks.{AtDesk, MakesMarks, IsTurn}}}
use Rattle.{cache_policy.specs.{Histories.History, Runs.{last_base, last_history, next_history, moment_before, moment_of}, Turns.{Turn, Stopping, Refused, opens, with_since}}, agent_core.specs.{Cores.WantsMemory, Solos.NoneTriedBefore}}
use Rattle.counted_lock.specs.{Logs.{run_of_log, marks_by}, Passes.{AtPass, mine}}

-- a desk at the counted lock: its pass, the session, the ticket that this has, and its clock
pub record AtCountedDesk (C : Type 0) : Type 0 where
  pub pass : AtPass
  pub session : SessionId
  pub out : Option ℕ
  pub clock : C

-- what it shows as a desk: the run that its pass has seen
abbrev pub at_counted : AtPass → SessionId → Option ℕ → AtDesk
at_counted pass session out = record { limits = pass.limits; session = session; run = Some (run_of_log pass.seen); out = out }

-- A step wants memory for itself at this moment, on the run with these marks: a Put, and one that opens a prompt whose passphrase is to be kept.
pub record WantsMemoryAt (limits : Limits) (log : List Mark) (asked : MarkStep) (moment : ℕ) : Type 0 where
  pub last : History
  pub last_is : last_history (run_of_log log) ≡ Some last
  pub wants : WantsMemory limits (next_history last) asked moment

-- The first try of a step that had to stand, which wants the prompt: with this reading it was at this moment, on a run that goes on from the one that was seen
-- before the turn, and that is a beginning of the one that the last try found.
pub record IsFirstTry (asked : MarkStep) (seen found : List Mark) (reading moment : ℕ) : Type 0 where
  pub wants : opens asked ≡ true
  pub early : List Mark
  pub from : IsPrefix seen early
  pub to : IsPrefix early found
  pub moment_is : moment ≡ moment_of (moment_before early) reading

-- what the last try of a turn hands in, by the first reading and the later ones: the moment of the first try; and nothing where it is that one itself
abbrev pub HandsIn : MarkStep → (seen found : List Mark) → ℕ → List ℕ → Option ℕ → Type 0
HandsIn asked seen found reading [] since = since ≡ None
HandsIn asked seen found reading (next ∷ later) None = ⊥
HandsIn asked seen found reading (next ∷ later) (Some moment) = IsFirstTry asked seen found reading moment

-- A turn: the pass sees the marks of others behind those that it had seen, and then the turn's own.
pub record TurnsPass (session : SessionId) (first last : Readings) (asked : MarkStep) (before : AtPass) (turn : Turn) (after : AtPass) : Type 0 where
  pub others : List Mark
  pub foreign : marks_by before.number others ≡ []
  -- the run that the step found
  pub found : List Mark
  pub found_is : found ≡ before.seen ++ others
  pub own : List Mark
  pub now : after ≡ record before { seen = found ++ own }
  pub mine_is : mine after ≡ mine before ++ own
  -- The own mark has the session, the asked step and the turn's answer, and its since isn't below the moment of the last mark that was seen
  -- before. There is none only where the step is refused, or is replied Stopping by a spent agent.
  pub makes : MakesMarks before.limits session (moment_before before.seen) asked (run_of_log after.seen) turn own
  pub spent : own ≡ [] → turn ≡ Stopping → length after.seen ≡ last_base
  -- Each try takes one reading. The last of them makes the moment of the own mark, and its since isn't below the first.
  pub first_reading : ℕ
  pub later_readings : List ℕ
  pub given : HasGiven first (first_reading ∷ later_readings) last
  pub rose : Rose first.count last.count
  pub never_falls : first.count ≤ last.count
  pub moment : AllByRecursion (λ mark. mark.moment ≡ moment_of (moment_before found) last.last) own
  pub since : NoneTriedBefore first_reading own
  -- each try but the first hands in the moment of the first, which the own mark has as its since
  pub handed : Option ℕ
  pub hands_in : HandsIn asked before.seen found first_reading later_readings handed
  pub steps : AllByRecursion (λ mark. mark.step ≡ with_since handed asked) own
  -- a step finds no memory only where it wants some for itself, on the run that its last try found
  pub refused : turn ≡ Refused → WantsMemoryAt before.limits found (with_since handed asked) (moment_of (moment_before found) last.last)

-- the same at the desk, which keeps its session
pub record CountedTurn {C : Type 0} (readings : C → Readings) (before : AtCountedDesk C) (asked : MarkStep) (turn : Turn) (after : AtCountedDesk C) : Type 0 where
  pub turns : TurnsPass before.session (readings before.clock) (readings after.clock) asked before.pass turn after.pass
  pub is : IsTurn (at_counted before.pass before.session before.out) asked turn (at_counted after.pass after.session after.out)
