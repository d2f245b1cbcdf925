use Rattle.assuan_escape.proofs.EscapeLemmas.{percent_decode_escapes}
use Rattle.assuan_escape.proofs.escaping.escapes_are_undone.Goals as goal

pub returns : goal.returns
returns c = λ bytes small. percent_decode_escapes bytes small
