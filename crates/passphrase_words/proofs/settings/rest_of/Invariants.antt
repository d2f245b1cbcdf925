use Rattle.std.proofs.Common.{◌≡◌, length, map, string_bytes}
use Rattle.passphrase_words.specs.Parts.{rest_of}
use Rattle.passphrase_words.proofs.settings.rest_of.Given as goal

-- what is behind the options stays the same
abbrev pub invariant-loop-after : goal.invariant-loop-after
invariant-loop-after l = rest_of (map string_bytes l.rest) ≡ rest_of (map string_bytes l.words)

abbrev pub decreases-loop-after : goal.decreases-loop-after
decreases-loop-after l = length l.rest
