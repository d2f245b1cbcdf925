use Rattle.std.proofs.Common.{◌++◌}
use Rattle.sexp_canonical.{specs.Spelling.spelling_of, proofs.Written.{loop_step, loop_falls}}
use Rattle.sexp_canonical.proofs.writing.append.Goals as goal

pub loop-items-smaller : goal.loop-items-smaller
loop-items-smaller c = loop_falls c.loop-items.begun.items c.pop.new.self.items c.go_on.new.begun.items c.in-Some.items c.in-Some.ensures.items c.in_ok-go_on.ensures.steps

pub loop-items-preserved : goal.loop-items-preserved
loop-items-preserved c =
    loop_step c.loop-items.text c.go_on.new.text c.loop-items.begun.items c.pop.new.self.items c.go_on.new.begun.items c.in-Some.items (c.args.text.now ++ spelling_of c.args.tree.now)
    c.in-Some.ensures.items c.loop-items.invariant c.in_ok-go_on.ensures.written
