use Rattle.sexp_canonical.specs.View.{tree_of}
use Rattle.sexp_keys.proofs.Keys.{only}
use Rattle.sexp_keys.proofs.key_list.KeyList.of.Goals as goal

pub returns-clause-only : goal.returns-clause-only
returns-clause-only c = only (tree_of c.args.tree.now) c.read_key.result c.read_key.ensures.found c.read_key.ensures.fault
