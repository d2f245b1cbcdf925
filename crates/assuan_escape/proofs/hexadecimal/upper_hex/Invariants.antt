use Rattle.std.proofs.Common.{◌≡◌, take}
use Rattle.assuan_escape.specs.Escapes.{hex_text}
use Rattle.assuan_escape.proofs.hexadecimal.upper_hex.Given as goal

abbrev pub invariant-loop-byte : goal.invariant-loop-byte
invariant-loop-byte l = l.text.items ≡ hex_text (take l.byte-index l.bytes)
