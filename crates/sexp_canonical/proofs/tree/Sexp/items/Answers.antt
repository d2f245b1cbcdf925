use Rattle.sexp_canonical.proofs.Trees.{items_listed}
use Rattle.sexp_canonical.proofs.tree.Sexp.items.Goals as goal

pub returns-in-List : goal.returns-in-List
returns-in-List c = items_listed c.args.self.now c.in-List.items _ c.in-List.is c.as_slice.ensures
