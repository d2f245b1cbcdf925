use Rattle.sexp_canonical.specs.{Dropping.drop_steps, View.trees}
use Rattle.sexp_canonical.proofs.tree.Items.drop.Given as goal

abbrev pub decreases-loop-tree : goal.decreases-loop-tree
decreases-loop-tree l = drop_steps (trees l.left.items)
