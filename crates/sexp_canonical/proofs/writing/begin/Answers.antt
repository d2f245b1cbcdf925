use Rattle.sexp_canonical.proofs.Written.{list_begun, list_steps}
use Rattle.sexp_canonical.proofs.writing.begin.Goals as goal

pub returns-in_ok-push-in-List-clause-written : goal.returns-in_ok-push-in-List-clause-written
returns-in_ok-push-in-List-clause-written c =
    list_begun c.args.text.now c.extend_from_slice.new.self c.args.begun.now.items c.push.new.self.items c.as_slice-in-List.result c.args.tree.now c.in-List.items
    c.in_ok-extend_from_slice-in-List.ensures.ok c.in_ok-push-in-List.ensures.items c.as_slice-in-List.ensures c.in-List.is

pub returns-in_ok-push-in-List-clause-steps : goal.returns-in_ok-push-in-List-clause-steps
returns-in_ok-push-in-List-clause-steps c =
    list_steps c.args.begun.now.items c.push.new.self.items c.as_slice-in-List.result c.args.tree.now c.in-List.items c.in_ok-push-in-List.ensures.items c.as_slice-in-List.ensures c.in-List.is
