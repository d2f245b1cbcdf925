-- How often a passphrase is hashed, and how many sessions are served at a time. The bounds are this project's own.
use Rattle.std.specs.Prelude.{ℕ, ◌≤◌, ◌&&◌, nat_le, Bool}
use Rattle.session_options.specs.declared.rules.TheConstants.{MIN_S2K_COUNT, MAX_S2K_COUNT, MIN_WORKERS, MAX_WORKERS}

-- a count of string-to-key hashing (RFC 4880, 3.7.1.3)
pub record IsS2kCount (count : ℕ) : Type 0 where
  pub least : MIN_S2K_COUNT ≤ count
  pub greatest : count ≤ MAX_S2K_COUNT

-- the test of the same
abbrev pub is_s2k_count : ℕ → Bool
is_s2k_count count = nat_le MIN_S2K_COUNT count && nat_le count MAX_S2K_COUNT

-- a number of workers
pub record IsWorkers (workers : ℕ) : Type 0 where
  pub least : MIN_WORKERS ≤ workers
  pub greatest : workers ≤ MAX_WORKERS
