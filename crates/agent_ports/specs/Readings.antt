-- The readings of a clock.
use Rattle.std.specs.Prelude.{◌≡◌, ◌≤◌, ℕ, ◌+◌, ◌-◌, List, [], ◌∷◌, length, min, slice_index, Option, IfSome}
use Rattle.agent_ports.specs.Counts.{Rose}

-- the k-th reading of a list, whose last one repeats; 0 where the list has none
abbrev pub reading_at : List ℕ → ℕ → ℕ
reading_at readings k = slice_index readings (min k (length readings - 1))

-- a clock at some point: the readings to come, counted from 0, where they are known; how many it gave; and the last one
pub record Readings : Type 0 where
  pub later : ℕ → Option ℕ
  pub count : ℕ
  pub last : ℕ

-- the clock gave one reading: the first of those to come, where they are known
pub record IsRead (before : Readings) (reading : ℕ) (after : Readings) : Type 0 where
  pub rose : Rose before.count after.count
  pub never_falls : before.count ≤ after.count
  pub last : after.last ≡ reading
  pub known : IfSome (before.later 0) (λ known. reading ≡ known)
  pub later : (k : ℕ) → after.later k ≡ before.later (k + 1)

-- the clock gave these readings, one after another, and no others
pub data HasGiven : Readings → List ℕ → Readings → Type 0 where
  none : {now : Readings} → HasGiven now [] now
  one : {before mid after : Readings} {reading : ℕ} {more : List ℕ}
      → IsRead before reading mid → HasGiven mid more after → HasGiven before (reading ∷ more) after
