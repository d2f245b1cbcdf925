use Rattle.std.proofs.Common.{refl}
use Rattle.key_commands.specs.{KeyActions.is_wrapped, Steps.{nothing, memory}}
use Rattle.key_commands.specs.KeyActions as action
use Rattle.key_commands.proofs.export_key.wrap_key.Goals as goal

pub returns-in-Ok : goal.returns-in-Ok
returns-in-Ok c = rw (c.from.ensures, c.in-Ok.ensures, c.bytes.ensures) (nothing (λ held. is_wrapped) refl)

pub returns-in-Err : goal.returns-in-Err
returns-in-Err c = memory (λ held. action.no_memory) refl
