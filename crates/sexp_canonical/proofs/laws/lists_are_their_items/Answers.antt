use Rattle.std.proofs.Common.{ap, arith}
use Rattle.sexp_canonical.{specs.Tree.branch, proofs.Trees.{spelled_list, row_items_of, items_of_row, depths_le, All_depths}}
use Rattle.sexp_canonical.proofs.laws.lists_are_their_items.Goals as goal

pub returns : goal.returns
returns c = record {
  made = λ items. ap branch (row_items_of items);
  one = items_of_row;
  spelled = spelled_list;
  deep = λ items n. (λ h. All_depths items n (omega arith), λ h. omega (arith, depths_le items n h));
}
