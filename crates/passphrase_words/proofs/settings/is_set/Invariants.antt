use Rattle.std.proofs.Common.{◌≡◌, length, map, string_bytes}
use Rattle.passphrase_words.specs.{Parts.settings, Spelling.is_set}
use Rattle.passphrase_words.proofs.settings.is_set.Given as goal

-- the words that are left decide
abbrev pub invariant-loop-setting : goal.invariant-loop-setting
invariant-loop-setting l = is_set l.name (settings (map string_bytes l.rest)) ≡ is_set l.name (settings (map string_bytes l.words))

abbrev pub decreases-loop-setting : goal.decreases-loop-setting
decreases-loop-setting l = length l.rest
