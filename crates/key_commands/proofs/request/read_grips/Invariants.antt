use Rattle.std.proofs.Common.{◌≡◌, ◌+◌, length}
use Rattle.assuan_text.specs.Words.{words}
use Rattle.key_commands.{specs.Requests.all_grips, proofs.Reading.onto}
use Rattle.key_commands.proofs.request.read_grips.Given as goal

-- the grips so far, and those of the words that are left
abbrev pub invariant-loop-word : goal.invariant-loop-word
invariant-loop-word l =
    record {
      read : all_grips (words l.text) ≡ onto l.grips (all_grips (words l.rest));
      count : length (words l.text) ≡ length l.grips + length (words l.rest);
    }

abbrev pub decreases-loop-word : goal.decreases-loop-word
decreases-loop-word l = length l.rest
