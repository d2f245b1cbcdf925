use Rattle.std.proofs.Common.{◌≡◌, length, map, string_bytes}
use Rattle.passphrase_words.specs.{Parts.settings, Refusals.settings_fault, Rules.are_sound}
use Rattle.passphrase_words.proofs.settings.check_each.Given as goal

-- the words that are left decide
abbrev pub invariant-loop-setting : goal.invariant-loop-setting
invariant-loop-setting l =
    (are_sound (settings (map string_bytes l.rest)) ≡ are_sound (settings (map string_bytes l.words)))
    × (settings_fault (settings (map string_bytes l.rest)) ≡ settings_fault (settings (map string_bytes l.words)))

abbrev pub decreases-loop-setting : goal.decreases-loop-setting
decreases-loop-setting l = length l.rest
