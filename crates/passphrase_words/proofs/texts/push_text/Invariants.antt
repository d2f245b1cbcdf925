use Rattle.std.{proofs.Common.{◌≡◌, ◌++◌, take}, specs.List.flat_map}
use Rattle.passphrase_words.specs.Texts.{escape_of}
use Rattle.passphrase_words.proofs.texts.push_text.Given as goal

-- the bytes so far
abbrev pub invariant-loop-byte : goal.invariant-loop-byte
invariant-loop-byte l = l.texts.items ≡ l.fn.texts.items ++ flat_map escape_of (take l.byte-index l.text)
