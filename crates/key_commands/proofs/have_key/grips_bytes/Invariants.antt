use Rattle.std.proofs.Common.{◌≡◌, take}
use Rattle.key_commands.specs.KeyActions.{grips_bytes}
use Rattle.key_commands.proofs.have_key.grips_bytes.Given as goal

abbrev pub invariant-loop-grip : goal.invariant-loop-grip
invariant-loop-grip l = l.all.items ≡ grips_bytes (take l.grip-index l.grips)
