use Rattle.std.proofs.Common.{inl, inr, refl, ◌∙◌}
use Rattle.{agent_ask.specs.Session.PortCalls.Read, agent_ports.specs.declared.keys.KeyRead.TheVariants.{Found, Absent, Failed, NoMemory}}
use Rattle.key_commands.{specs.KeyActions.{is_key, faulty, no_memory, unread}, proofs.Doing.{one_call, one_call_of_memory}}
use Rattle.key_commands.proofs.key_calls.read_file.Goals as goal

pub returns-in-Absent-clause-reads : goal.returns-in-Absent-clause-reads
returns-in-Absent-clause-reads g c = one_call (Read c.args.grip.now Absent) c.in-Absent.ensures (λ held. unread refl) refl

pub returns-in-Failed-clause-reads : goal.returns-in-Failed-clause-reads
returns-in-Failed-clause-reads g c = one_call (Read c.args.grip.now Failed) c.in-Failed.ensures (λ held. unread refl) refl

pub returns-in-NoMemory-clause-reads : goal.returns-in-NoMemory-clause-reads
returns-in-NoMemory-clause-reads g c = one_call (Read c.args.grip.now NoMemory) c.in-NoMemory.ensures (λ held. unread refl) refl

pub returns-in-Ok-clause-reads : goal.returns-in-Ok-clause-reads
returns-in-Ok-clause-reads g c =
    let bytes = c.as_slice.ensures ∙ c.from-bytes.ensures in
    rw c.from-bytes.ensures (one_call (Read c.args.grip.now (Found c.in-Found.file)) c.in-Found.ensures (λ held. is_key refl (rw bytes at c.in-Ok.ensures.key)) refl)

pub returns-in-Err-clause-reads : goal.returns-in-Err-clause-reads
returns-in-Err-clause-reads g c =
    let bytes = c.as_slice.ensures ∙ c.from-bytes.ensures in
    elim (c.in-Err.ensures.fault) [
      | inl none ↦ rw (c.fault_code.ensures, none) (one_call_of_memory (Read c.args.grip.now (Found c.in-Found.file)) c.in-Found.ensures (λ held. no_memory refl) refl)
      | inr fault ↦ rw c.fault_code.ensures (one_call (Read c.args.grip.now (Found c.in-Found.file)) c.in-Found.ensures (λ held. faulty refl (rw bytes at fault)) refl)
    ]
