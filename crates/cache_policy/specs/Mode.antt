-- Cache modes. The GnuPG manual speaks of keys, of ssh keys and of passphrases under a cache id; the modes as a list,
-- and what each covers, are this project's own.
use Rattle.std.specs.Prelude.{Bool, true, false}
use Rattle.cache_policy.specs.declared.mode.Mode.{Mode, TheVariants.{Normal, User, Ssh, Nonce, Any}}

-- what is stored in the first mode serves a request in the second: Any serves all, each other mode itself
abbrev pub covers : Mode → Mode → Bool
covers Any asked = true
covers Normal Normal = true
covers User User = true
covers Ssh Ssh = true
covers Nonce Nonce = true
covers _ _ = false
