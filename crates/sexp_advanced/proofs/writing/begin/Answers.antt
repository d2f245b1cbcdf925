use Rattle.sexp_advanced.proofs.Written.{list_written, list_steps_fall, list_octets}
use Rattle.sexp_advanced.proofs.writing.begin.Goals as goal

pub returns-in_ok-push-in-List-clause-written : goal.returns-in_ok-push-in-List-clause-written
returns-in_ok-push-in-List-clause-written c =
    list_written c.args.text.now c.extend_from_slice.new.self c.args.tree.now c.in-Some.first.now c.in-List.items c.as_slice-in-List.result.now c.in-Some.others c.args.begun.now.items c.push.new.self.items
    c.in-List.is c.as_slice-in-List.ensures c.in-Some.ensures.cases.0 c.in_ok-extend_from_slice-in-List.ensures.ok c.in_ok-push-in-List.ensures.items

pub returns-in_ok-push-in-List-clause-steps : goal.returns-in_ok-push-in-List-clause-steps
returns-in_ok-push-in-List-clause-steps c =
    list_steps_fall c.args.tree.now c.in-Some.first.now c.in-List.items c.as_slice-in-List.result.now c.in-Some.others c.args.begun.now.items c.push.new.self.items
    c.in-List.is c.as_slice-in-List.ensures c.in-Some.ensures.cases.0 c.in_ok-push-in-List.ensures.items

pub returns-in_ok-push-in-List-clause-octets : goal.returns-in_ok-push-in-List-clause-octets
returns-in_ok-push-in-List-clause-octets c =
    list_octets c.args.tree.now c.in-Some.first.now c.in-List.items c.as_slice-in-List.result.now c.in-Some.others c.args.begun.now.items c.push.new.self.items
    c.in-List.is c.as_slice-in-List.ensures c.in-Some.ensures.cases.0 c.in_ok-push-in-List.ensures.items
