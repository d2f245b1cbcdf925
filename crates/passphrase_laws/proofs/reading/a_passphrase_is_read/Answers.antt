use Rattle.passphrase_laws.proofs.ReadAs.{passphrase_read}
use Rattle.passphrase_laws.proofs.reading.a_passphrase_is_read.Goals as goal

pub returns : goal.returns
returns c = passphrase_read
