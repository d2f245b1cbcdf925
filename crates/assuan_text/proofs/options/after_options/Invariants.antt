use Rattle.std.{proofs.Common.{◌≡◌, ◌≤◌, length, drop}, specs.List.prefix_len}
use Rattle.assuan_text.specs.{Words.words, Options.is_option}
use Rattle.assuan_text.proofs.options.after_options.Given as goal

-- what comes after the options stays the same
abbrev pub invariant-loop-after : goal.invariant-loop-after
invariant-loop-after l =
    record {
      same : drop (prefix_len is_option (words l.rest)) (words l.rest) ≡ drop (prefix_len is_option (words l.text)) (words l.text);
      shorter : length l.rest ≤ length l.text;
    }

abbrev pub decreases-loop-after : goal.decreases-loop-after
decreases-loop-after l = length l.rest
