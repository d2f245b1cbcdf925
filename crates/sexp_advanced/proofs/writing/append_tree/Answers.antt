use Rattle.std.proofs.Common.{◌++◌, ◌∙◌, arith}
use Rattle.sexp_advanced.{specs.Writing.advanced_of, proofs.Written.{popped_written, popped_steps, popped_octets}}
use Rattle.sexp_advanced.proofs.writing.append_tree.Goals as goal

pub loop-next-smaller : goal.loop-next-smaller
loop-next-smaller c =
    rw c.in-None.is
    (omega (arith, c.in_ok-next-in-None.ensures.steps, popped_steps c.loop-next.begun.items c.pop.new.self.items c.in-Some-pop.items c.in-Some-pop.ensures.items))

pub loop-next-preserved : goal.loop-next-preserved
loop-next-preserved c =
    let written = (rw c.in-None.is at c.loop-next.invariant.written) in
    let octets = (rw c.in-None.is at c.loop-next.invariant.octets) in
    record {
      written = c.in_ok-next-in-None.ensures.written
          ∙ popped_written c.loop-next.text c.loop-next.begun.items c.pop.new.self.items c.in-Some-pop.items (c.args.text.now ++ advanced_of c.args.tree.now) c.in-Some-pop.ensures.items written;
      octets = λ left. octets (popped_octets c.loop-next.begun.items c.pop.new.self.items c.in-Some-pop.items c.in-Some-pop.ensures.items (c.in_ok-next-in-None.ensures.octets left));
    }
