-- Commands that ask nobody.
use Rattle.std.proofs.Common.{◌≡◌, ℕ, Bool, List, Option, refl}
use Rattle.{arrayvec.specs.ArrayVec.ArrayVec, cache_policy.specs.declared.life.Life.Life}
use Rattle.agent_commands.specs.{Steps.AsksNobody, declared.request.CacheCommand.CacheCommand}
use Rattle.agent_commands.specs.declared.request.{CacheCommand.TheVariants.{Nop, Reset, Bye, Help, SetOption, GetInfo, GetPassphrase, PresetPassphrase, ClearPassphrase, GetConfirmation, ReloadAgent, KillAgent, SetKeyDesc}, Texts.Texts}

-- a command that is none of those that ask somebody
pub asks_nobody : (command : CacheCommand)
    → ((plain check no_ask : Bool) (repeat : ℕ) (quality : Bool) (id : Option (List ℕ)) (texts : Option Texts) → command ≡ GetPassphrase plain check no_ask repeat quality id texts → ⊥)
    → ((id : List ℕ) (life : Life) (secret : Option (List ℕ)) → command ≡ PresetPassphrase id life secret → ⊥)
    → ((description : ArrayVec ℕ) → command ≡ GetConfirmation description → ⊥) → AsksNobody command
asks_nobody (GetPassphrase plain check no_ask repeat quality id texts) get preset confirmation = get plain check no_ask repeat quality id texts refl
asks_nobody (PresetPassphrase id life secret) get preset confirmation = preset id life secret refl
asks_nobody (GetConfirmation description) get preset confirmation = confirmation description refl
asks_nobody Nop get preset confirmation = tt
asks_nobody Reset get preset confirmation = tt
asks_nobody Bye get preset confirmation = tt
asks_nobody Help get preset confirmation = tt
asks_nobody (SetOption text) get preset confirmation = tt
asks_nobody (GetInfo what) get preset confirmation = tt
asks_nobody (ClearPassphrase id mode) get preset confirmation = tt
asks_nobody ReloadAgent get preset confirmation = tt
asks_nobody KillAgent get preset confirmation = tt
asks_nobody (SetKeyDesc text) get preset confirmation = tt
