use Rattle.assuan_line.proofs.ReadingOn.{has_read}
use Rattle.pinentry_script.proofs.run.next_line.Goals as goal

pub returns-clause-read : goal.returns-clause-read
returns-clause-read g c =
    let e = c.next.ensures in
    has_read _ _ _ _ _ c.requires e.known e.budget e.needed e.progress e.spent e.fault e.faults e.ended
