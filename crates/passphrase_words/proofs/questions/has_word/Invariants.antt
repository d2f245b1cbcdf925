use Rattle.std.proofs.Common.{◌≡◌, length}
use Rattle.passphrase_words.specs.Questions.{has_word}
use Rattle.passphrase_words.proofs.questions.has_word.Given as goal

-- the bytes that are left decide
abbrev pub invariant-loop-after : goal.invariant-loop-after
invariant-loop-after l = has_word l.word l.rest ≡ has_word l.word l.text

abbrev pub decreases-loop-after : goal.decreases-loop-after
decreases-loop-after l = length l.rest
