use Rattle.std.proofs.Common.{◌≡◌, ◌++◌}
use Rattle.percent_encoding.specs.{Percent.percent_decode, Iter.decoded_bytes}
use Rattle.assuan_escape.proofs.unescaping.decoded.Given as goal

abbrev pub invariant-loop-byte : goal.invariant-loop-byte
invariant-loop-byte l =
    (goal.iterator-loop-byte).can_next l.byte-iterator ×
    (goal.iterator-loop-byte).is_finite l.byte-iterator ×
    (l.text.items ++ decoded_bytes l.byte-iterator ≡ percent_decode l.bytes)
