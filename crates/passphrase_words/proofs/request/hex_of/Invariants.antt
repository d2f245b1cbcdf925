use Rattle.std.{proofs.Common.{◌≡◌, take}, specs.List.flat_map}
use Rattle.passphrase_words.specs.Requests.{hex_of}
use Rattle.passphrase_words.proofs.request.hex_of.Given as goal

-- the digits so far
abbrev pub invariant-loop-byte : goal.invariant-loop-byte
invariant-loop-byte l = l.digits ≡ flat_map hex_of (take l.byte-index l.bytes)
