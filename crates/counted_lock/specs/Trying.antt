-- Private: the tries of a step, which may have to stand.
use Rattle.std.specs.Prelude.{◌≡◌, ◌≤◌, ℕ, List, [], ◌∷◌, ◌++◌, Option, Some, None}
use Rattle.{agent_ports.specs.{Readings.{Readings, IsRead, HasGiven}, declared.session.SessionId.SessionId}, cache_policy.specs.{declared.mark.{Mark.Mark, MarkStep.MarkStep}, Runs.{moment_before, moment_of}}}
use Rattle.{cache_policy.specs.Turns.{Turn, Refused, FitsReply, out_after}, agent_core.specs.Known.TakesStep}
use Rattle.counted_lock.specs.{Logs.{run_of_log, IsLegalLog, marks_by}, Passes.{AtPass, mine}, Turns.{AtCountedDesk, IsFirstTry, WantsMemoryAt}}

-- one try: the pass sees the marks of others behind those that it had seen, and then its own
pub record Tries (session : SessionId) (first last : Readings) (tried : MarkStep) (before : AtPass) (turn : Turn) (after : AtPass) : Type 0 where
  pub reading : ℕ
  pub read : IsRead first reading last
  pub others : List Mark
  pub foreign : marks_by before.number others ≡ []
  pub found : List Mark
  pub found_is : found ≡ before.seen ++ others
  pub own : List Mark
  pub now : after ≡ record before { seen = found ++ own }
  pub mine_is : mine after ≡ mine before ++ own
  pub takes : TakesStep before.limits (run_of_log found) session (moment_of (moment_before found) reading) tried turn (run_of_log (found ++ own))
  pub legal : IsLegalLog before.limits (found ++ own)
  pub refused : turn ≡ Refused → WantsMemoryAt before.limits found tried (moment_of (moment_before found) reading)

-- the same at the desk: the step as it was asked, and as it is tried, with the moment of its first try
pub record TriesAt {C : Type 0} (readings : C → Readings) (before : AtCountedDesk C) (asked tried : MarkStep) (turn : Turn) (after : AtCountedDesk C) : Type 0 where
  pub tries : Tries before.session (readings before.clock) (readings after.clock) tried before.pass turn after.pass
  pub fits : FitsReply asked turn
  pub session : after.session ≡ before.session
  pub out : after.out ≡ out_after before.out asked turn

-- a step's first try was at this moment, with the first of these readings
abbrev pub IsFirstOf : List ℕ → MarkStep → (seen found : List Mark) → ℕ → Type 0
IsFirstOf [] asked seen found moment = ⊥
IsFirstOf (reading ∷ later) asked seen found moment = IsFirstTry asked seen found reading moment

-- so it isn't before the last mark that was seen then
pub record IsTriedAt (taken : List ℕ) (seen found : List Mark) (asked : MarkStep) (moment : ℕ) : Type 0 where
  pub called : moment_before seen ≤ moment
  pub first : IsFirstOf taken asked seen found moment

-- what the next try hands in: the moment of the first one, where there was one
abbrev pub HandsOn : List ℕ → (seen found : List Mark) → MarkStep → Option ℕ → Type 0
HandsOn taken seen found asked None = taken ≡ []
HandsOn taken seen found asked (Some moment) = IsTriedAt taken seen found asked moment

-- Tries that had to stand: the pass saw the marks of others.
pub record Waited {C : Type 0} (readings : C → Readings) (start : AtCountedDesk C) (asked : MarkStep) (since : Option ℕ) (now : AtCountedDesk C) : Type 0 where
  pub session : now.session ≡ start.session
  pub out : now.out ≡ start.out
  pub others : List Mark
  pub foreign : marks_by start.pass.number others ≡ []
  pub pass : now.pass ≡ record start.pass { seen = start.pass.seen ++ others }
  pub mine_is : mine now.pass ≡ mine start.pass
  pub taken : List ℕ
  pub given : HasGiven (readings start.clock) taken (readings now.clock)
  pub never_falls : (readings start.clock).count ≤ (readings now.clock).count
  pub tried : HandsOn taken start.pass.seen (start.pass.seen ++ others) asked since
