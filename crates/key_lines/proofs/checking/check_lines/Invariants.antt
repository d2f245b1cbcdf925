use Rattle.std.{proofs.Common.{◌≡◌, ◌+◌, ◌≤◌, List, length, map}, specs.List.list_any}
use Rattle.key_lines.specs.{Lines.lines_of, Items.{line_form, is_key}, Faults.{first_line_fault, is_in_item, line_fault}, declared.forms.LineForm.LineForm}
use Rattle.key_lines.proofs.checking.check_lines.Given as goal

-- the lines that are left decide, by those before them, the nearest first
abbrev pub invariant-loop-line : goal.invariant-loop-line
invariant-loop-line l =
    record {
      before : List LineForm;
      fault : first_line_fault before (map line_form (lines_of l.rest)) ≡ line_fault l.fn.file;
      numbered : l.number ≡ length before;
      in_item : l.in_item ≡ is_in_item before;
      has_key : l.has_key ≡ list_any is_key before;
      within : l.number + length l.rest ≤ length l.fn.file;
    }

abbrev pub decreases-loop-line : goal.decreases-loop-line
decreases-loop-line l = length l.rest
