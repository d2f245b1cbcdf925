use Rattle.std.proofs.Common.{refl}
use Rattle.{agent_ask.specs.Session.PortCalls.Read, agent_ports.specs.declared.keys.KeyRead.TheVariants.{Found, Absent, Failed, NoMemory}}
use Rattle.key_commands.{specs.Actions.{found, absent, faulted, no_memory}, proofs.Doing.one_call}
use Rattle.key_commands.proofs.key_calls.has_file.Goals as goal

pub returns-in-Found : goal.returns-in-Found
returns-in-Found g c = one_call (Read c.args.grip.now (Found c.in-Found.file)) c.in-Found.ensures (λ held. found) refl

pub returns-in-Absent : goal.returns-in-Absent
returns-in-Absent g c = one_call (Read c.args.grip.now Absent) c.in-Absent.ensures (λ held. absent) refl

pub returns-in-Failed : goal.returns-in-Failed
returns-in-Failed g c = one_call (Read c.args.grip.now Failed) c.in-Failed.ensures (λ held. faulted) refl

pub returns-in-NoMemory : goal.returns-in-NoMemory
returns-in-NoMemory g c = one_call (Read c.args.grip.now NoMemory) c.in-NoMemory.ensures (λ held. no_memory) refl
