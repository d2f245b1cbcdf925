-- Sets of modes. This is the project's own.
use Rattle.std.specs.Prelude.{Bool, ◌&&◌, ◌||◌, not}
use Rattle.cache_policy.specs.{declared.mode.Mode.{Mode, TheVariants.{Normal, User, Ssh, Nonce, Any}}, Mode.covers}
use Rattle.cache_book.specs.declared.modes.Modes.{Modes}

-- the modes that pass a test
abbrev pub modes_where : (Mode → Bool) → Modes
modes_where test = record { normal = test Normal; user = test User; ssh = test Ssh; nonce = test Nonce; any = test Any }

-- the mode is one of the set
abbrev pub holds : Modes → Mode → Bool
holds modes Normal = modes.normal
holds modes User = modes.user
holds modes Ssh = modes.ssh
holds modes Nonce = modes.nonce
holds modes Any = modes.any

-- some mode is
abbrev pub has_some : Modes → Bool
has_some modes = modes.normal || (modes.user || (modes.ssh || (modes.nonce || modes.any)))

-- the modes of the set that this one doesn't cover
abbrev pub not_covered : Mode → Modes → Modes
not_covered mode modes = modes_where (λ other. not (covers mode other) && holds modes other)
