use Rattle.std.proofs.Common.{sym, ap, ◌∙◌}
use Rattle.sexp_canonical.specs.View.{tree_of, trees}
use Rattle.sexp_keys.proofs.OneName.{has_names}
use Rattle.sexp_keys.proofs.names.names_of.Goals as goal

pub returns-clause-found : goal.returns-clause-found
returns-clause-found c =
    has_names (tree_of c.args.tree.now) (tree_of c.in-Some.second.now) c.in_ok-is_clear.is_clear c.in_ok-algorithm.algorithm
    (trees c.in_ok-is_clear.others.now) (trees c.in_ok-algorithm.parameters.now) (trees c.in-Some.further.now)
    (sym c.items.ensures ∙ c.in_ok-is_clear.ensures.found) (ap trees c.in-Some.ensures.cases.0) (sym c.items-2.ensures ∙ c.in_ok-algorithm.ensures.found)
