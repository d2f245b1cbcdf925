-- What an object in memory is planned to do: which of its calls fail, and how much one call gives or keeps. This is the project's own.
use Rattle.std.specs.Prelude.{ℕ, ◌+◌, ◌-◌, ◌^◌, List, min, Contains}

pub record Plan : Type 0 where
  -- the numbers of the calls that fail, from 0
  pub failing : List ℕ
  -- how many calls there were
  pub calls : ℕ
  -- how many bytes a read gives at most, or a write that fails keeps; 0 where calls move none
  pub size : ℕ

-- the next call fails
abbrev pub Fails : Plan → Type 0
Fails plan = Contains plan.failing plan.calls

-- after a call
abbrev pub after_call : Plan → Plan
after_call plan = record plan { calls = min (plan.calls + 1) (2 ^ 64 - 1) }
