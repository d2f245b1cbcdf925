use Rattle.assuan_server.proofs.OnlyOutcome.{only_outcome}
use Rattle.assuan_server.proofs.inquiry.inquiries_come_to_one_outcome.Goals as goal

pub returns : goal.returns
returns c = only_outcome
