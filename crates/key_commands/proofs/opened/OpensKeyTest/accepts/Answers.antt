use Rattle.std.proofs.Common.{refl}
use Rattle.key_commands.proofs.Opening.{stays_locked}
use Rattle.key_commands.proofs.opened.OpensKeyTest.accepts.Goals as goal

pub returns-in-BadPassphrase : goal.returns-in-BadPassphrase
returns-in-BadPassphrase c = record {
  same = refl;
  keeps = stays_locked c.args.self.now.locked.now c.args.pin.now (rw c.bytes.ensures.value at c.in-BadPassphrase.ensures.answer);
}
