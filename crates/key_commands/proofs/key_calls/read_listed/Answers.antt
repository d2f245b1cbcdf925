use Rattle.std.proofs.Common.{refl, ◌∙◌}
use Rattle.{agent_ask.specs.Session.PortCalls.Read, agent_ports.specs.declared.keys.KeyRead.TheVariants.{Found, Absent, Failed, NoMemory}}
use Rattle.key_commands.{specs.KeyActions.{is_key, absent, unread}, proofs.{Doing.one_call, ListedKeys.fault_is_unlisted}}
use Rattle.key_commands.proofs.key_calls.read_listed.Goals as goal

pub returns-in-Absent : goal.returns-in-Absent
returns-in-Absent g c = one_call (Read c.args.grip.now Absent) c.in-Absent.ensures (λ held. absent) refl

pub returns-in-Failed : goal.returns-in-Failed
returns-in-Failed g c = one_call (Read c.args.grip.now Failed) c.in-Failed.ensures (λ held. unread (λ e. cc e) refl) refl

pub returns-in-NoMemory : goal.returns-in-NoMemory
returns-in-NoMemory g c = one_call (Read c.args.grip.now NoMemory) c.in-NoMemory.ensures (λ held. unread (λ e. cc e) refl) refl

pub returns-in-Ok : goal.returns-in-Ok
returns-in-Ok g c =
    let bytes = c.as_slice.ensures ∙ c.from-bytes.ensures in
    one_call (Read c.args.grip.now (Found c.in-Found.file)) c.in-Found.ensures (λ held. is_key refl (rw bytes at c.in-Ok.ensures.key)) refl

pub returns : goal.returns
returns g c =
    let bytes = c.as_slice.ensures ∙ c.from-bytes.ensures in
    rw c.unlisted.ensures (fault_is_unlisted c.args.grip.now (Found c.in-Found.file) refl c.in-Found.ensures c.in-Err.fault (rw bytes at c.in-Err.ensures.fault))
