-- Counts of faults and of readings. A count is a number below 2^64 that never falls, and it stands still at the last one.
use Rattle.std.specs.Prelude.{ℕ, ◌+◌, ◌-◌, ◌^◌, ◌≤◌, min}

-- the count has risen by so much, or stands at its last value
abbrev pub RoseBy : ℕ → ℕ → ℕ → Type 0
RoseBy times before after = min (before + times) (2 ^ 64 - 1) ≤ after

-- the count has risen: it is greater than before, or stands at its last value
abbrev pub Rose : ℕ → ℕ → Type 0
Rose before after = RoseBy 1 before after
