use Rattle.std.proofs.Common.{refl}
use Rattle.{agent_ask.specs.Session.{PortCalls.Trust, TrustCalls.Read}, agent_ports.specs.declared.trust.TrustRead.TheVariants.{Found, Absent, Failed, NoMemory}}
use Rattle.agent_origin.{specs.{TrustActions.{has_read, faulted, no_memory}, TrustStates.called}, proofs.TrustDone.file_event_done}
use Rattle.agent_origin.proofs.trust.calls.read_file.Goals as goal

pub returns-in-Found-clause-read : goal.returns-in-Found-clause-read
returns-in-Found-clause-read g c = file_event_done refl (Trust (Read (Found c.in-Found.file))) (called c.in-Found.ensures) (λ held. has_read refl)

pub returns-in-Absent-clause-read : goal.returns-in-Absent-clause-read
returns-in-Absent-clause-read g c = rw c.new.ensures.items (file_event_done refl (Trust (Read Absent)) (called c.in-Absent.ensures) (λ held. has_read refl))

pub returns-in-Failed-clause-refused : goal.returns-in-Failed-clause-refused
returns-in-Failed-clause-refused g c = file_event_done refl (Trust (Read Failed)) (called c.in-Failed.ensures) (λ held. faulted)

pub returns-in-NoMemory-clause-refused : goal.returns-in-NoMemory-clause-refused
returns-in-NoMemory-clause-refused g c = file_event_done refl (Trust (Read NoMemory)) (called c.in-NoMemory.ensures) (λ held. no_memory)
