use Rattle.passphrase_laws.proofs.Asked.{looks_read, asks_read}
use Rattle.passphrase_laws.proofs.asking.a_request_is_read_as_meant.Goals as goal

pub returns : goal.returns
returns c = record { looks = looks_read; asks = asks_read }
