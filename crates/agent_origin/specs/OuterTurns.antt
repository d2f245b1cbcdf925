-- What a session does to the cache that came in by the outer door: it takes the seat for a prompt of which nothing is kept, gives it back, or
-- looks whether a passphrase is cached. So it stores, clears and forgets nothing, and is given no passphrase of the cache. This is this project's
-- own.
use Rattle.std.specs.{Prelude.{◌≢◌, ℕ, List, [], ◌∷◌, Option, None}, List.AllByRecursion}
use Rattle.{agent_ask.specs.{Session.SessionEvents.{AnyEvent, turns_in}, Interrupts.Interrupts}, session_client.specs.declared.code.Code.Code, cache_policy.specs.{Extending.Taken, Turns.{Turn, Given, Open}, declared.grant.Grant.Grant}}
use Rattle.cache_policy.specs.declared.{mark.MarkStep.TheVariants.{Seat, Close, Peek}, mode.Mode.Mode}

-- its turns, one after another
pub data AreOuterTurns : List Taken → Type 0 where
  no_turns : AreOuterTurns []
  peeks : {id : List ℕ} {mode : Mode} {turn : Turn} {more : List Taken} → AreOuterTurns more → AreOuterTurns (record { asked = Peek id mode; turn = turn } ∷ more)
  -- the seat isn't had
  unseated : {turn : Turn} {code : Code} {more : List Taken} → Interrupts turn code → AreOuterTurns more → AreOuterTurns (record { asked = Seat None None; turn = turn } ∷ more)
  -- it is, and then its ticket is given back
  seated : {ticket : ℕ} {keep : Option (List ℕ)} {turn : Turn} {more : List Taken} → AreOuterTurns more
      → AreOuterTurns (record { asked = Seat None None; turn = Open ticket } ∷ record { asked = Close ticket keep; turn = turn } ∷ more)

-- the turns among the events are such
abbrev pub LeavesCache : {T O F : Type 0} → List (AnyEvent T O F) → Type 0
LeavesCache events = AreOuterTurns (turns_in events)

-- none of the turns gives a passphrase
abbrev pub GiveNothing : List Taken → Type 0
GiveNothing turns = AllByRecursion (λ taken. (grant : Grant) → taken.turn ≢ Given grant) turns
