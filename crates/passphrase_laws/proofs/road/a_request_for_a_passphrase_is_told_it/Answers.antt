use Rattle.passphrase_laws.proofs.Reaching.{reaches}
use Rattle.passphrase_laws.proofs.road.a_request_for_a_passphrase_is_told_it.Goals as goal

pub returns : goal.returns
returns c = reaches
