use Rattle.sexp_canonical.specs.View.{tree_of, trees}
use Rattle.secret_file.proofs.Shapes.{hash_is}
use Rattle.secret_file.proofs.secrets.hash_in.Goals as goal

pub returns-clause-found : goal.returns-clause-found
returns-clause-found c =
    hash_is (tree_of c.args.tree.now) (trees c.items.result.now) (trees c.in_ok-behind.behind.now) (trees c.in_ok-behind-2.behind.now) c.in_ok-digest.digest.now
    c.items.ensures c.in_ok-behind.ensures.found c.in_ok-behind-2.ensures.found c.in_ok-digest.ensures.found
