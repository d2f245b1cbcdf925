use Rattle.passphrase_talk.proofs.OnlyVisit.{one_talk}
use Rattle.passphrase_talk.proofs.laws.a_visit_has_one_outcome.Goals as goal

pub returns : goal.returns
returns c options line given turns others left rest written other first second well well' = one_talk options line given turns others left rest written other first second well well'
