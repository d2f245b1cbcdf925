use Rattle.std.proofs.Common.{◌≡◌, length, map, string_bytes}
use Rattle.passphrase_words.specs.{Parts.settings, Spelling.value_given}
use Rattle.passphrase_words.proofs.settings.value_given.Given as goal

-- the words that are left decide
abbrev pub invariant-loop-setting : goal.invariant-loop-setting
invariant-loop-setting l = value_given l.name (settings (map string_bytes l.rest)) ≡ value_given l.name (settings (map string_bytes l.words))

abbrev pub decreases-loop-setting : goal.decreases-loop-setting
decreases-loop-setting l = length l.rest
