use Rattle.sexp_canonical.specs.View.{tree_of, trees}
use Rattle.secret_file.proofs.Shapes.{derivation_is}
use Rattle.secret_file.proofs.protection.derivation_of.Goals as goal

pub returns-clause-found : goal.returns-clause-found
returns-clause-found c =
    derivation_is (tree_of c.args.list.now) (trees c.items.result.now) (trees c.in_ok-hashing.behind.now) (tree_of c.in_ok-hashing.hashing.now) c.in_ok-only_atom.field-0.now
    c.items.ensures c.in_ok-hashing.ensures.found c.in_ok-only_atom.ensures.found
