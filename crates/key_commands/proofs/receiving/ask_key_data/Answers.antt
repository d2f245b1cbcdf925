use Rattle.key_commands.proofs.KeyData.{key_data_asked}
use Rattle.key_commands.proofs.receiving.ask_key_data.Goals as goal

pub returns : goal.returns
returns g c = rw c.key_data.ensures (key_data_asked c.requires c.inquire.result c.inquire.ensures.asks.inquiry c.inquire.ensures.asks.cut)
