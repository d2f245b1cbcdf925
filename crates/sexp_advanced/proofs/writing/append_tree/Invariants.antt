use Rattle.std.proofs.Common.{◌≡◌, ◌++◌}
use Rattle.sexp_canonical.specs.{View.tree_of, Writing.begun_lists}
use Rattle.sexp_advanced.specs.{Writing.advanced_of, Octets.IsOfOctets, Left.{next_tree, text_left, steps_left, AreLeftOfOctets}}
use Rattle.sexp_advanced.proofs.writing.append_tree.Given as goal

abbrev pub invariant-loop-next : goal.invariant-loop-next
invariant-loop-next l = record {
  written : l.text ++ text_left (next_tree l.next) (begun_lists l.begun.items) ≡ l.fn.text ++ advanced_of l.tree;
  octets : AreLeftOfOctets (next_tree l.next) (begun_lists l.begun.items) → IsOfOctets (tree_of l.tree);
}

abbrev pub decreases-loop-next : goal.decreases-loop-next
decreases-loop-next l = steps_left (next_tree l.next) (begun_lists l.begun.items)
