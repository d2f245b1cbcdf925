use Rattle.std.{proofs.Common.{◌≡◌, length}, specs.Option.{option_map, option_or}}
use Rattle.assuan_text.specs.{Words.words, Options.{last_value, options_of}}
use Rattle.assuan_text.proofs.options.last_value.Given as goal

-- the last among the options that are left, or else the one before them
abbrev pub invariant-loop-option : goal.invariant-loop-option
invariant-loop-option l =
    option_or (last_value l.name (options_of (words l.rest))) (option_map (λ value. value.now) l.latest)
    ≡ last_value l.name (options_of (words l.text))

abbrev pub decreases-loop-option : goal.decreases-loop-option
decreases-loop-option l = length l.rest
