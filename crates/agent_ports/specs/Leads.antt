-- What events do, one after another, to a state. This is the project's own.
use Rattle.std.specs.Prelude.{List, [], ◌∷◌}

-- each event does what its relation says, from the state that the one before it left
pub data Leads {S E : Type 0} (Does : S → E → S → Type 0) : S → List E → S → Type 0 where
  none : {now : S} → Leads Does now [] now
  one : {before mid after : S} {event : E} {more : List E}
      → Does before event mid → Leads Does mid more after → Leads Does before (event ∷ more) after
