-- What a place knows of its pass. This is the project's own.
use Rattle.std.specs.Prelude.{ℕ, List, [], ◌∷◌, Option}
use Rattle.{atomic_table.specs.Table.Me, cache_policy.specs.declared.{life.Limits.Limits, mark.Mark.Mark}}
use Rattle.counted_lock.specs.declared.board.{Claim.Claim, Cored.Cored, Doing.Doing}

abbrev pub claim : Limits → ℕ → List Mark → Claim
claim limits k seen = record { limits = limits; number = k; seen = seen }

abbrev pub no_limits : Limits
no_limits = record { ttl = 0; max = 0; ttl_ssh = 0; max_ssh = 0 }

abbrev pub first_of_claims : List Claim → Claim
first_of_claims [] = claim no_limits 0 []
first_of_claims (c ∷ cs) = c

-- what a place knows and holds
abbrev pub Sat : Type 0
Sat = Me (Option Cored) Doing

-- the claim of a pass
abbrev pub own : Sat → Claim
own m = first_of_claims m.0.claims
