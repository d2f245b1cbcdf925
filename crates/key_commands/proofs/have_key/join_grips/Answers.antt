use Rattle.std.proofs.Common.{refl}
use Rattle.key_commands.specs.{KeyActions.joined, Steps.{nothing, memory}}
use Rattle.key_commands.specs.KeyActions as action
use Rattle.key_commands.proofs.have_key.join_grips.Goals as goal

pub returns-in-Ok : goal.returns-in-Ok
returns-in-Ok c = rw (c.from.ensures, c.in-Ok.ensures) (nothing (λ held. joined) refl)

pub returns-in-Err : goal.returns-in-Err
returns-in-Err c = memory (λ held. action.no_memory) refl
