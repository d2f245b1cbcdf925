use Rattle.hex.specs.Hex.{encode_upper}
use Rattle.trust_list.proofs.{EntryLaw.{IsEntry_from_judgement, judgement_written}, NewEntries.AreDigits_encode_upper}
use Rattle.trust_list.proofs.laws.entries_are_read.Goals as goal

pub returns : goal.returns
returns c f line trusted len = (
  judgement_written (encode_upper f) line trusted (AreDigits_encode_upper f len),
  IsEntry_from_judgement (encode_upper f) line trusted,
)
