use Rattle.std.{proofs.Common.{◌≡◌, drop, ◌++◌, length}, specs.List.{concat, prefix_len, take_while}}
use Rattle.key_lines.{specs.{Lines.lines_of, KeyItem.{is_more, value_of, after_item}}, proofs.KeyLemmas.joined}
use Rattle.key_lines.proofs.item.item_at.Given as goal

-- the lines that are left and go on complete the value
abbrev pub invariant-loop-line : goal.invariant-loop-line
invariant-loop-line l =
    record {
      value : l.value ++ joined (take_while is_more (lines_of l.rest)) ≡ value_of (lines_of l.fn.bytes);
      after : concat (drop (prefix_len is_more (lines_of l.rest)) (lines_of l.rest)) ≡ concat (after_item (lines_of l.fn.bytes));
    }

abbrev pub decreases-loop-line : goal.decreases-loop-line
decreases-loop-line l = length l.rest
