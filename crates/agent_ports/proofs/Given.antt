-- Readings of a clock, from one call to many.
use Rattle.std.specs.Prelude.{ℕ, List, [], ◌∷◌, ◌++◌}
use Rattle.agent_ports.specs.Readings.{Readings, IsRead, HasGiven, none, one}

-- the clock was read once
pub given_one : {before after : Readings} {reading : ℕ} → IsRead before reading after → HasGiven before (reading ∷ []) after
given_one read = one read none

-- the clock gave some readings, and then others
pub given_then : {before mid after : Readings} {first second : List ℕ} → HasGiven before first mid → HasGiven mid second after → HasGiven before (first ++ second) after
given_then none later = later
given_then (one read given) later = one read (given_then given later)
