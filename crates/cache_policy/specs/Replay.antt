-- Replays: the run that these steps make, one after another, at these readings. This is the project's own.
use Rattle.std.specs.{Prelude.{◌≡◌, ◌≢◌, ◌⊎◌, ℕ, List, [], ◌∷◌, false, Some, None, map, ⊤}, List.AllByRecursion}
use Rattle.agent_ports.specs.declared.session.SessionId.{SessionId}
use Rattle.cache_policy.specs.{declared.{life.Limits.Limits, mark.MarkStep.MarkStep}, Histories.{History, moments}, Legal.IsLegalRun, Extending.Taken, Runs.{joined, start_of_run, moment_of}, Turns.{Refused, Stopping}}

-- no marks yet, no ticket out, and not stopped
abbrev pub first_history : History
first_history = record { base = 0; held = None; stopped = false; marks = [] }

-- the moments that these readings make, from this one on
abbrev pub moments_at : ℕ → List ℕ → List ℕ
moments_at since [] = []
moments_at since (reading ∷ later) = moment_of since reading ∷ moments_at (moment_of since reading) later

-- no history but the first is without a mark
abbrev pub NoneEmpty : List History → Type 0
NoneEmpty [] = ⊤
NoneEmpty (first ∷ later) = AllByRecursion (λ history. history.marks ≢ []) later

-- The run is legal, began with the first history, and has a mark of this session for each step, in order, at the moment that its reading
-- makes. There is no other such run.
pub record Replays (limits : Limits) (session : SessionId) (steps : List MarkStep) (readings : List ℕ) (run : List History) : Type 0 where
  pub start : start_of_run run ≡ Some first_history
  pub legal : IsLegalRun limits run
  pub by : AllByRecursion (λ mark. mark.session ≡ session) (joined run)
  pub steps_are : map (λ mark. mark.step) (joined run) ≡ steps
  pub moments_are : moments (joined run) ≡ moments_at 0 readings
  pub none_empty : NoneEmpty run

-- The turns that made a mark, each with its reading: each turn took one, but one that was refused, and one that a spent agent replied,
-- made none.
pub data Marked : List Taken → List ℕ → List MarkStep → List ℕ → Type 0 where
  none : Marked [] [] [] []
  made : {taken : Taken} {turns : List Taken} {readings : List ℕ} {steps : List MarkStep} {read : List ℕ} (reading : ℕ) → (taken.turn ≡ Refused → ⊥)
      → Marked turns readings steps read → Marked (taken ∷ turns) (reading ∷ readings) (taken.asked ∷ steps) (reading ∷ read)
  unmade : {taken : Taken} {turns : List Taken} {readings : List ℕ} {steps : List MarkStep} {read : List ℕ} (reading : ℕ)
      → (taken.turn ≡ Refused) ⊎ (taken.turn ≡ Stopping)
      → Marked turns readings steps read → Marked (taken ∷ turns) (reading ∷ readings) steps read
