use Rattle.passphrase_talk.{specs.Visits.{no_memory, unmet}, proofs.Visiting.{meets, nothing_handed}}
use Rattle.passphrase_talk.proofs.visits.visit.Goals as goal

pub returns-in-Err-NoMemory-clause-visits : goal.returns-in-Err-NoMemory-clause-visits
returns-in-Err-NoMemory-clause-visits g c =
    let has = c.in-Err-NoMemory.ensures in
    no_memory (record {
      coming = has.coming;
      sought = has.sought;
      opened = has.opened;
      met = has.met;
      launches = has.launches;
      faults = has.faults;
      shortages = has.shortages;
      rose = λ same. absurd (cc same);
      no_memory_rose = λ same. has.no_memory (cc c.in-Err-NoMemory.field-0-is);
    })

pub returns-in-Err-Fault-clause-visits : goal.returns-in-Err-Fault-clause-visits
returns-in-Err-Fault-clause-visits g c =
    let has = c.in-Err-Fault.ensures in
    unmet (record {
      coming = has.coming;
      sought = has.sought;
      opened = has.opened;
      met = has.met;
      launches = has.launches;
      faults = has.faults;
      shortages = has.shortages;
      rose = λ same. has.failed (cc c.in-Err-Fault.field-0-is);
      no_memory_rose = λ same. absurd (cc same);
    })

pub returns-clause-visits : goal.returns-clause-visits
returns-clause-visits g c =
    let has = c.in-Ok.ensures in
    let left = c.leave.ensures in
    meets (g.C.Connector.contacts c.connect.new.self) (g.C.Connector.contacts c.lead-told.new.connector) c.new-peer.result c.lead-told.new.peer c.new-peer.ensures has.fresh has.coming has.sought has.opened has.met has.faults has.shortages
    (rw (has.terminal, has.launches) at c.lead-told.ensures.leads) c.lead-told.ensures.contacts left.coming left.sought left.opened
    (rw (c.into_link.ensures.input, c.into_link.ensures.output) at left.met) left.launches
    (rw (c.into_link.ensures.input, c.into_link.ensures.output) at left.rose) left.faults left.shortages

pub returns-clause-unprompted : goal.returns-clause-unprompted
returns-clause-unprompted g c = nothing_handed (returns-clause-visits g c)
