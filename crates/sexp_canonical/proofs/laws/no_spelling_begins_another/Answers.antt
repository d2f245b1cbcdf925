use Rattle.sexp_canonical.{specs.View.tree_of, proofs.Trees.{one_spelling, tree_of_injective}}
use Rattle.sexp_canonical.proofs.laws.no_spelling_begins_another.Goals as goal

pub returns : goal.returns
returns c = λ a b x y e. let cut = one_spelling (tree_of a) (tree_of b) x y e in (tree_of_injective a b cut.0, cut.1)
