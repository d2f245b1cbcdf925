use Rattle.std.proofs.Common.{refl}
use Rattle.passphrase_client.proofs.Given.{was_answered}
use Rattle.passphrase_client.proofs.laws.what_is_given_was_answered.Goals as goal

pub returns : goal.returns
returns c = λ task terminal lasts before after goes. was_answered refl goes
