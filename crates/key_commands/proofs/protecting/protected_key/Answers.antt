use Rattle.std.proofs.Common.{refl}
use Rattle.key_commands.specs.{KeyActions.made, Steps.{nothing, memory}}
use Rattle.key_commands.specs.KeyActions as action
use Rattle.key_commands.proofs.protecting.protected_key.Goals as goal

pub returns-in-Ok-clause-protects : goal.returns-in-Ok-clause-protects
returns-in-Ok-clause-protects c =
    rw (c.from.ensures, c.in-Ok.ensures.file, c.bytes.ensures.value) (nothing (λ held. made) refl)

pub returns-in-Err-clause-protects : goal.returns-in-Err-clause-protects
returns-in-Err-clause-protects c = memory (λ held. action.no_memory) refl

pub returns-in-Ok-clause-list : goal.returns-in-Ok-clause-list
returns-in-Ok-clause-list c =
    let opens = c.in-Ok.ensures.opens in
    rw c.from.ensures (opens.locked.key, opens.is_file)
