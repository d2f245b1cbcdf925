use Rattle.std.proofs.Common.{◌≡◌, ◌≤◌, ◌+◌, ◌++◌, length, map}
use Rattle.agent_conf.{specs.{Lines.settings_in, Written.written}, proofs.LineLemmas.{bytes_left, settings_left}}
use Rattle.agent_conf.proofs.lines.settings_in.Given as goal

-- what was read so far, and what is left, are the whole; a line feed came before each line but the first
abbrev pub invariant-loop-rest : goal.invariant-loop-rest
invariant-loop-rest l =
    record {
      whole : map written l.settings.items ++ settings_left l.place l.number l.rest ≡ settings_in l.place l.file;
      small : l.number + bytes_left l.rest ≤ length l.file + 2;
    }

abbrev pub decreases-loop-rest : goal.decreases-loop-rest
decreases-loop-rest l = bytes_left l.rest
