use Rattle.sexp_advanced.proofs.Written.{item_written, item_steps_fall, item_octets}
use Rattle.sexp_advanced.proofs.writing.go_on.Goals as goal

pub returns-clause-written : goal.returns-clause-written
returns-clause-written c =
    item_written c.args.text.now c.extend_from_slice-2.new.self c.in-Some.first.now c.args.items.now c.in-Some.others c.args.begun.now.items c.push.new.self.items
    c.in-Some.ensures.cases.0 c.in_ok-extend_from_slice-2.ensures.ok c.in_ok-push.ensures.items

pub returns-clause-steps : goal.returns-clause-steps
returns-clause-steps c =
    item_steps_fall c.in-Some.first.now c.args.items.now c.in-Some.others c.args.begun.now.items c.push.new.self.items c.in-Some.ensures.cases.0 c.in_ok-push.ensures.items

pub returns-clause-octets : goal.returns-clause-octets
returns-clause-octets c =
    item_octets c.in-Some.first.now c.args.items.now c.in-Some.others c.args.begun.now.items c.push.new.self.items c.in-Some.ensures.cases.0 c.in_ok-push.ensures.items
