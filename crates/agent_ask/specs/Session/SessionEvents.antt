-- What a session does, one thing after another: what every session has to do with its client and its desk, and events of a further kind.
-- What a read gives and what an inquiry may come to are parameters, since they are said of the lines that a server reads. This is the
-- project's own.
use Rattle.std.specs.Prelude.{◌≡◌, ℕ, List, [], ◌∷◌, ◌++◌, Option, Some, None}
use Rattle.{cache_policy.specs.{declared.mark.MarkStep.MarkStep, Extending.Taken, Turns.Turn}, session_client.specs.Asking.AnyInquired}

pub data AnyEvent (T O F : Type 0) : Type 0 where
  -- the next request was read, or this came in its place
  Received : T → AnyEvent T O F
  -- these bytes were written
  Sent : List ℕ → AnyEvent T O F
  -- a write failed after these bytes
  Cut : List ℕ → AnyEvent T O F
  -- the client was asked by this word and these parameters for so many bytes at most
  Inquiry : List ℕ → List ℕ → ℕ → AnyInquired O → AnyEvent T O F
  -- a turn was taken at the desk
  CacheTurn : Taken → AnyEvent T O F
  -- an event of a further kind
  Port : F → AnyEvent T O F

-- a turn as an event
abbrev pub cache_turn : {T O F : Type 0} → MarkStep → Turn → AnyEvent T O F
cache_turn asked turn = CacheTurn (record { asked = asked; turn = turn })

-- a line is written, where there is one
abbrev pub said_last : {T O F : Type 0} → Option (List ℕ) → List (AnyEvent T O F)
said_last (Some line) = Sent line ∷ []
said_last None = []

-- the turns among the events
abbrev pub turns_in : {T O F : Type 0} → List (AnyEvent T O F) → List Taken
turns_in [] = []
turns_in (Received took ∷ later) = turns_in later
turns_in (Sent text ∷ later) = turns_in later
turns_in (Cut text ∷ later) = turns_in later
turns_in (Inquiry word params limit inquired ∷ later) = turns_in later
turns_in (CacheTurn taken ∷ later) = taken ∷ turns_in later
turns_in (Port what ∷ later) = turns_in later

-- the same events, but the write of the last one failed after some bytes
pub record CutAtLast {T O F : Type 0} (events done : List (AnyEvent T O F)) : Type 0 where
  pub before : List (AnyEvent T O F)
  pub sent : List ℕ
  pub unsent : List ℕ
  pub whole : events ≡ before ++ (Sent (sent ++ unsent) ∷ [])
  pub done_is : done ≡ before ++ (Cut sent ∷ [])
