use Rattle.std.{proofs.Common.{◌≡◌, length, find, reverse}, specs.Option.{option_map, option_or}}
use Rattle.assuan_text.specs.{Words.words, Options.{names_option, last_option, options_of}}
use Rattle.assuan_text.proofs.options.last_option.Given as goal

-- the last among the options that are left, or else the one before them
abbrev pub invariant-loop-option : goal.invariant-loop-option
invariant-loop-option l =
    option_or (find (names_option l.name) (reverse (options_of (words l.rest)))) (option_map (λ option. option.now) l.latest)
    ≡ last_option l.name (options_of (words l.text))

abbrev pub decreases-loop-option : goal.decreases-loop-option
decreases-loop-option l = length l.rest
