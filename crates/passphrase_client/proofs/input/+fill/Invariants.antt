use Rattle.std.proofs.Common.{length}
use Rattle.passphrase_client.proofs.input.+fill.Given as goal

abbrev pub decreases-fill : goal.decreases-fill
decreases-fill g l = length l.buffer.now
