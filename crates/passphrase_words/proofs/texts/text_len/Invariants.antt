use Rattle.std.{proofs.Common.{◌≡◌, take, length}, specs.List.flat_map}
use Rattle.passphrase_words.specs.{Faults.counted, Texts.escape_of}
use Rattle.passphrase_words.proofs.texts.text_len.Given as goal

-- how many so far
abbrev pub invariant-loop-byte : goal.invariant-loop-byte
invariant-loop-byte l = l.len ≡ counted (length (flat_map escape_of (take l.byte-index l.text)))
