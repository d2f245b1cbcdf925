use Rattle.sexp_canonical.proofs.Dropped.{atom_dropped}
use Rattle.sexp_canonical.proofs.tree.Items.drop.Goals as goal

pub loop-tree-smaller-in-Atom : goal.loop-tree-smaller-in-Atom
loop-tree-smaller-in-Atom c = atom_dropped c.loop-tree.left.items c.pop.new.self.items c.in-Some.tree c.in-Atom._bytes c.in-Some.ensures.items c.in-Atom.is
