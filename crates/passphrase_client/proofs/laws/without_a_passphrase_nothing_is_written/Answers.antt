use Rattle.passphrase_client.proofs.Given.{output_stands}
use Rattle.passphrase_client.proofs.laws.without_a_passphrase_nothing_is_written.Goals as goal

pub returns : goal.returns
returns c = λ task terminal before after ending goes whole cut. output_stands goes whole cut
