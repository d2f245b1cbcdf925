use Rattle.std.{proofs.Common.{arith, ◌-◌}, specs.Vec.vec_len}
use Rattle.sexp_canonical.proofs.AddsLast.{adds_last}
use Rattle.sexp_advanced.proofs.reading.add.Goals as goal

pub returns : goal.returns
returns c = adds_last c.args.lists.now.items (vec_len c.args.lists.now - 1) c.in-Some.items.now c.push.new.self c.args.tree (let o = c.args.lists.now.ok in grind (arith, c.in-Some.is, c.in-Some.ensures.variant)) c.in-Some.ensures.value c.in_ok-push.ensures.items
