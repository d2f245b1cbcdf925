use Rattle.std.{proofs.Common.{◌≡◌, ◌+◌, ◌++◌, length, map}, specs.Prelude.string_bytes}
use Rattle.agent_conf.specs.{Words.settings_of, Written.written}
use Rattle.agent_conf.proofs.words.settings_of.Given as goal

-- what was read so far, and what is left, are the whole
abbrev pub invariant-loop-setting : goal.invariant-loop-setting
invariant-loop-setting l =
    record {
      whole : map written l.settings.items ++ settings_of l.number (map string_bytes l.rest) ≡ settings_of 1 (map string_bytes l.words);
      small : l.number + length l.rest ≡ length l.words + 1;
    }

abbrev pub decreases-loop-setting : goal.decreases-loop-setting
decreases-loop-setting l = length l.rest
