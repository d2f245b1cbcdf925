use Rattle.std.proofs.Common.{◌≡◌, take}
use Rattle.assuan_escape.specs.Escapes.{with_blanks}
use Rattle.assuan_escape.proofs.unescaping.with_blanks.Given as goal

abbrev pub invariant-loop-byte : goal.invariant-loop-byte
invariant-loop-byte l = l.text.items ≡ with_blanks (take l.byte-index l.bytes)
