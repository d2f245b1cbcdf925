use Rattle.std.specs.List.{slice_split}
use Rattle.{hex.specs.Hex.encode_upper, assuan_text.specs.LineEnds.is_lf}
use Rattle.trust_list.proofs.{FirstEntries.{FirstEntry_from_trust, first_of_FirstEntry, first_of_silent, silent_from_trust}, NewEntries.AreDigits_encode_upper}
use Rattle.trust_list.proofs.laws.first_entry_decides.Goals as goal

pub returns-clause-decides : goal.returns-clause-decides
returns-clause-decides c file f trusted len =
    let are = AreDigits_encode_upper f len in (
      FirstEntry_from_trust (encode_upper f) are (slice_split is_lf file) trusted,
      first_of_FirstEntry (encode_upper f) are (slice_split is_lf file) trusted,
    )

pub returns-clause-silent : goal.returns-clause-silent
returns-clause-silent c file f len =
    let are = AreDigits_encode_upper f len in (
      silent_from_trust (encode_upper f) are (slice_split is_lf file),
      first_of_silent (encode_upper f) are (slice_split is_lf file),
    )
