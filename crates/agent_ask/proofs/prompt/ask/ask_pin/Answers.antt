use Rattle.agent_ask.{proofs.Trying.{accepted_by, memory_by}}
use Rattle.agent_ask.proofs.prompt.ask.ask_pin.Goals as goal

pub returns-in-Ok-clause-accepted : goal.returns-in-Ok-clause-accepted
returns-in-Ok-clause-accepted g c = λ pin is. accepted_by (rw is at c.in-Ok.ensures.asked.are)

pub returns-in-Ok-clause-no_memory : goal.returns-in-Ok-clause-no_memory
returns-in-Ok-clause-no_memory g c = λ is. memory_by (rw is at c.in-Ok.ensures.asked.are)
