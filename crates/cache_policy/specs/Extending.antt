-- What the turns of a session, one after another, do to a run that is known: the marks that they make stand in it, in their order. This is
-- the project's own.
use Rattle.std.specs.Prelude.{◌≡◌, List, [], ◌∷◌, ◌++◌, filter, Option, Some, None, ⊤}
use Rattle.agent_ports.specs.declared.session.SessionId.{SessionId}
use Rattle.cache_policy.specs.{declared.{life.Limits.Limits, mark.{Mark.Mark, MarkStep.MarkStep}}, Histories.History, Legal.IsLegalRun, Runs.{joined, start_of_run, Extends}, Turns.Turn, Desks.{AtDesk, is_of, GoesOn}}

-- a turn that was taken: what was asked, and how it came out
pub record Taken : Type 0 where
  pub asked : MarkStep
  pub turn : Turn

-- a desk's relation, turn by turn
abbrev pub TakesTurn : {D : Type 0} → (D → MarkStep → Turn → D → Type 0) → D → Taken → D → Type 0
TakesTurn turned before taken after = turned before taken.asked taken.turn after

-- The marks are those of these turns, in order. Each turn goes on from the run before it, as a desk promises, and the last run extends the run
-- at its end.
pub data AreMarked (limits : Limits) (session : SessionId) (run : List History) : List History → List Taken → List Mark → Type 0 where
  none : {before : List History} → AreMarked limits session run before [] []
  turned : {taken : Taken} {turns : List Taken} {marks : List Mark} {before : List History} (then : List History)
      (goes : GoesOn limits session before taken.asked taken.turn then) → Extends then run
      → AreMarked limits session run then turns marks → AreMarked limits session run before (taken ∷ turns) (goes.own ++ marks)

-- the run goes on; its further marks of this session are those of the turns; and it is legal where it was
pub record IsExtended (limits : Limits) (session : SessionId) (before : List History) (turns : List Taken) (after : List History) : Type 0 where
  pub start : start_of_run after ≡ start_of_run before
  pub more : List Mark
  pub marks : joined after ≡ joined before ++ more
  pub own : AreMarked limits session after before turns (filter (is_of session) more)
  pub legal : IsLegalRun limits before → IsLegalRun limits after

-- the same where the run is known
abbrev pub IsExtendedWhereKnown : Limits → SessionId → Option (List History) → List Taken → Option (List History) → Type 0
IsExtendedWhereKnown limits session None turns None = ⊤
IsExtendedWhereKnown limits session (Some before) turns (Some after) = IsExtended limits session before turns after
IsExtendedWhereKnown limits session None turns (Some after) = ⊥
IsExtendedWhereKnown limits session (Some before) turns None = ⊥

abbrev pub ExtendsDesk : AtDesk → List Taken → AtDesk → Type 0
ExtendsDesk before turns after = IsExtendedWhereKnown before.limits before.session before.run turns after.run
