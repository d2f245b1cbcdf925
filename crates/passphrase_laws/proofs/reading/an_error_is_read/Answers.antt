use Rattle.passphrase_laws.proofs.ReadAs.{error_read}
use Rattle.passphrase_laws.proofs.reading.an_error_is_read.Goals as goal

pub returns : goal.returns
returns c = error_read
