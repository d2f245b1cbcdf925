use Rattle.key_commands.proofs.KeyData.{names_its_grip, not_named}
use Rattle.key_commands.proofs.receiving.name_key.Goals as goal

pub returns-in-Ok : goal.returns-in-Ok
returns-in-Ok c = names_its_grip c.args.key.now c.in-Ok.grip c.in-Ok.ensures

pub returns-in-Err : goal.returns-in-Err
returns-in-Err c = not_named c.args.key.now
