use Rattle.std.proofs.Common.{refl}
use Rattle.passphrase_client.proofs.{Losing.{counted, run_lost, run_without_agent, run_unwritten}, Wanting.run_short}
use Rattle.passphrase_client.proofs.laws.each_failure_is_counted.Goals as goal

pub returns-clause-lost : goal.returns-clause-lost
returns-clause-lost c = λ task terminal before after loss goes. counted (run_lost loss refl goes)

pub returns-clause-no_agent : goal.returns-clause-no_agent
returns-clause-no_agent c = λ task terminal before after goes. run_without_agent refl goes

pub returns-clause-unwritten : goal.returns-clause-unwritten
returns-clause-unwritten c = λ task terminal before after goes. run_unwritten refl goes

pub returns-clause-no_memory : goal.returns-clause-no_memory
returns-clause-no_memory c = λ task terminal before after goes. run_short refl goes
