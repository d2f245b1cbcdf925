use Rattle.passphrase_client.proofs.Doing.{nobody_asked}
use Rattle.passphrase_client.proofs.laws.a_quiet_act_asks_nobody.Goals as goal

pub returns : goal.returns
returns c = λ task terminal before course input after alone steps. nobody_asked alone steps
