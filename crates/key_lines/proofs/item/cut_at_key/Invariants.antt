use Rattle.std.{proofs.Common.{◌≡◌, false, List, ℕ, ◌++◌, length}, specs.List.{concat, list_any}}
use Rattle.key_lines.specs.{Lines.lines_of, KeyItem.is_key_line}
use Rattle.key_lines.proofs.item.cut_at_key.Given as goal

-- none of the lines so far begins a Key item
abbrev pub invariant-loop-line : goal.invariant-loop-line
invariant-loop-line l =
    record {
      passed : List (List ℕ);
      lines : lines_of l.file ≡ passed ++ lines_of l.rest;
      bytes : l.file ≡ concat passed ++ l.rest;
      none : list_any is_key_line passed ≡ false;
    }

abbrev pub decreases-loop-line : goal.decreases-loop-line
decreases-loop-line l = length l.rest
