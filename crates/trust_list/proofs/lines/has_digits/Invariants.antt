use Rattle.std.{proofs.Common.{◌≡◌, drop}, specs.Str.bytes_eq}
use Rattle.trust_list.specs.Entries.{capital_digits}
use Rattle.trust_list.proofs.lines.has_digits.Given as goal

-- the bytes that are left decide, against the digits that are left
abbrev pub invariant-loop-byte : goal.invariant-loop-byte
invariant-loop-byte l =
    bytes_eq (capital_digits (drop l.byte-index l.word)) l.rest ≡ bytes_eq (capital_digits l.word) l.digits
