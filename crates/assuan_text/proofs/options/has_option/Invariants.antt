use Rattle.std.proofs.Common.{◌≡◌, length}
use Rattle.assuan_text.specs.{Words.words, Options.{has_option, options_of}}
use Rattle.assuan_text.proofs.options.has_option.Given as goal

-- the options that are left decide
abbrev pub invariant-loop-option : goal.invariant-loop-option
invariant-loop-option l =
    has_option l.name (options_of (words l.rest)) ≡ has_option l.name (options_of (words l.text))

abbrev pub decreases-loop-option : goal.decreases-loop-option
decreases-loop-option l = length l.rest
