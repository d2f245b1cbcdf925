-- Lifetimes: `default-cache-ttl`, `max-cache-ttl` and the same for ssh of the GnuPG manual's agent options. That the
-- last second counts, and that User, Nonce and Any have the numbers of keys, is this project's own.
use Rattle.std.specs.Prelude.{ℕ, Option, Some, None, Bool, false, ◌==◌}
use Rattle.cache_policy.specs.declared.{mode.Mode.{Mode, TheVariants.Ssh}, life.{Life.{Life, TheVariants.{Default, Endless, Seconds}}, Limits.Limits}}

-- the ttl of an entry whose life names none
abbrev pub default_ttl : Limits → Mode → ℕ
default_ttl limits Ssh = limits.ttl_ssh
default_ttl limits _ = limits.ttl

-- the effective ttl: how many seconds an entry may go unused, if that is limited
abbrev pub ttl_of : Limits → Mode → Life → Option ℕ
ttl_of limits mode Default = Some (default_ttl limits mode)
ttl_of limits mode Endless = None
ttl_of limits mode (Seconds seconds) = Some seconds

-- the maximum age, which holds for every entry
abbrev pub max_of : Limits → Mode → ℕ
max_of limits Ssh = limits.max_ssh
max_of limits _ = limits.max

-- an effective ttl of 0 stores nothing
abbrev pub is_zero : Option ℕ → Bool
is_zero (Some seconds) = seconds == 0
is_zero None = false
