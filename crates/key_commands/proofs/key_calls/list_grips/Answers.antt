use Rattle.std.proofs.Common.{refl}
use Rattle.{agent_ask.specs.Session.PortCalls.Listed, agent_ports.specs.declared.keys.KeyNames.TheVariants.{Names, Failed, NoMemory}}
use Rattle.key_commands.{specs.KeyActions.{listed, faulted, no_memory}, proofs.Doing.one_call}
use Rattle.key_commands.proofs.key_calls.list_grips.Goals as goal

pub returns-in-Names-clause-listed : goal.returns-in-Names-clause-listed
returns-in-Names-clause-listed g c = one_call (Listed (Names c.in-Names.grips)) c.in-Names.ensures (λ held. listed refl) refl

pub returns-in-Failed-clause-refused : goal.returns-in-Failed-clause-refused
returns-in-Failed-clause-refused g c = one_call (Listed Failed) c.in-Failed.ensures (λ held. faulted) refl

pub returns-in-NoMemory-clause-refused : goal.returns-in-NoMemory-clause-refused
returns-in-NoMemory-clause-refused g c = one_call (Listed NoMemory) c.in-NoMemory.ensures (λ held. no_memory) refl
