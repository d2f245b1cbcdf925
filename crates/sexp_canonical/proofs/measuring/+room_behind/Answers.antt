use Rattle.sexp_canonical.{specs.View.trees, proofs.Measured.{begins_with_list, list_taken, list_unfit}}
use Rattle.sexp_canonical.proofs.measuring.+room_behind.Goals as goal

pub returns-in_err-left-in-List : goal.returns-in_err-left-in-List
returns-in_err-left-in-List t c =
    rw c.from_residual-in_err-left-in-List.ensures
    (list_unfit c.loop-item.invariant (trees c.as_slice-in-List.result.now) (trees c.in-Some.others.now)
    (begins_with_list c.loop-item.rest.now c.in-Some.item.now c.in-Some.others.now c.as_slice-in-List.result.now c.in-List.inner c.in-Some.ensures.cases.0 c.in-List.is c.as_slice-in-List.ensures)
    c.in_ok-deeper-in-List.ensures c.in_ok-checked_sub-in-List.ensures c.in_err-left-in-List.ensures)

pub loop-item-preserved : goal.loop-item-preserved
loop-item-preserved t c =
    list_taken c.loop-item.invariant (trees c.as_slice-in-List.result.now) (trees c.in-Some.others.now)
    (begins_with_list c.loop-item.rest.now c.in-Some.item.now c.in-Some.others.now c.as_slice-in-List.result.now c.in-List.inner c.in-Some.ensures.cases.0 c.in-List.is c.as_slice-in-List.ensures)
    c.in_ok-deeper-in-List.ensures c.in_ok-checked_sub-in-List.ensures c.in_ok-left-in-List.ensures
