use Rattle.std.proofs.Common.{refl}
use Rattle.{agent_ask.specs.Session.{PortCalls.Trust, TrustCalls.Replaced}, agent_ports.specs.declared.trust.TrustDone.TheVariants.{Done, Failed, NoMemory}}
use Rattle.agent_origin.{specs.{TrustActions.{replaced, faulted, no_memory}, TrustStates.called}, proofs.TrustDone.file_event_done}
use Rattle.agent_origin.proofs.trust.calls.replace.Goals as goal

pub returns-in-Done : goal.returns-in-Done
returns-in-Done g c = file_event_done refl (Trust (Replaced c.args.file.now Done)) (called c.in-Done.ensures) (λ held. replaced)

pub returns-in-Failed : goal.returns-in-Failed
returns-in-Failed g c = file_event_done refl (Trust (Replaced c.args.file.now Failed)) (called c.in-Failed.ensures) (λ held. faulted)

pub returns-in-NoMemory : goal.returns-in-NoMemory
returns-in-NoMemory g c = file_event_done refl (Trust (Replaced c.args.file.now NoMemory)) (called c.in-NoMemory.ensures) (λ held. no_memory)
