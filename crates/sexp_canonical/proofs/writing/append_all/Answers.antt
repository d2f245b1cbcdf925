use Rattle.sexp_canonical.proofs.WrittenLists.{all_more}
use Rattle.sexp_canonical.proofs.writing.append_all.Goals as goal

pub loop-tree-preserved : goal.loop-tree-preserved
loop-tree-preserved c =
    all_more c.args.text.now c.loop-tree.text c.append.new.text c.args.items.now c.tree-item.result c.loop-tree.tree-index c.loop-tree-test.true c.loop-tree.invariant (cc (c.in_ok-append.ensures))
