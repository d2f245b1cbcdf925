use Rattle.std.proofs.Common.{Some, None, arith}
use Rattle.sexp_canonical.specs.Adding.{lists_of}
use Rattle.sexp_advanced.proofs.Open.{rest_shorter, item_shorter, more_shorter, taken_here}
use Rattle.sexp_advanced.proofs.reading.read_front.Goals as goal

pub overflow_sub-place : goal.overflow_sub-place
overflow_sub-place c = item_shorter c.args.text.now c.after_blanks-item.result.now (lists_of c.loop-lists.lists.items) c.loop-lists.rest.now c.loop-lists.invariant c.after_blanks-item.ensures

pub overflow_sub-result : goal.overflow_sub-result
overflow_sub-result c =
    omega (
      arith,
      rest_shorter c.args.text.now (lists_of c.loop-lists.lists.items) c.loop-lists.rest.now c.loop-lists.invariant,
      more_shorter c.after_blanks-item.result.now c.loop-lists.rest.now c.in_ok-sign.more.now c.in_ok-sign.sign c.after_blanks-item.ensures c.in_ok-sign.ensures.found,
    )

pub returns-in-Some-clause-found : goal.returns-in-Some-clause-found
returns-in-Some-clause-found c =
    taken_here c.args.text.now c.after_blanks-item.result.now (lists_of c.loop-lists.lists.items) (lists_of c.take_sign.new.lists.items) c.loop-lists.rest.now c.in_ok-sign.more.now c.in_ok-sign.sign (Some c.in-Some.tree)
    c.loop-lists.invariant c.after_blanks-item.ensures c.in_ok-sign.ensures.found (rw c.in-Some.is at c.in_ok-tree.ensures.taken)

pub loop-lists-smaller : goal.loop-lists-smaller
loop-lists-smaller c = more_shorter c.after_blanks-item.result.now c.loop-lists.rest.now c.in_ok-sign.more.now c.in_ok-sign.sign c.after_blanks-item.ensures c.in_ok-sign.ensures.found

pub loop-lists-preserved : goal.loop-lists-preserved
loop-lists-preserved c =
    taken_here c.args.text.now c.after_blanks-item.result.now (lists_of c.loop-lists.lists.items) (lists_of c.take_sign.new.lists.items) c.loop-lists.rest.now c.in_ok-sign.more.now c.in_ok-sign.sign None
    c.loop-lists.invariant c.after_blanks-item.ensures c.in_ok-sign.ensures.found (rw c.in_default.is at c.in_ok-tree.ensures.taken)
