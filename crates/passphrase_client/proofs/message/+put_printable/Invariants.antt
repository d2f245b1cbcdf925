use Rattle.std.proofs.Common.{length}
use Rattle.passphrase_client.proofs.message.+put_printable.Given as goal

abbrev pub decreases-put_printable : goal.decreases-put_printable
decreases-put_printable g l = length l.bytes.now
