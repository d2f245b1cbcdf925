use Rattle.sexp_canonical.proofs.Written.{item_begun, item_steps}
use Rattle.sexp_canonical.proofs.writing.go_on.Goals as goal

pub returns-clause-written : goal.returns-clause-written
returns-clause-written c =
    item_begun c.args.text.now c.begin.new.text c.args.begun.now.items c.push.new.self.items c.begin.new.begun.items c.args.items.now c.in-Some.item.now c.in-Some.others
    c.in-Some.ensures.cases.0 c.in_ok-push.ensures.items c.in_ok-begin.ensures.written

pub returns-clause-steps : goal.returns-clause-steps
returns-clause-steps c =
    item_steps c.args.begun.now.items c.push.new.self.items c.begin.new.begun.items c.args.items.now c.in-Some.item.now c.in-Some.others
    c.in-Some.ensures.cases.0 c.in_ok-push.ensures.items c.in_ok-begin.ensures.steps
