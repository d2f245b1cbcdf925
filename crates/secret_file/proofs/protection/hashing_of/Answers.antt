use Rattle.sexp_canonical.specs.View.{tree_of, trees}
use Rattle.secret_file.proofs.Shapes.{hashing_is, no_count}
use Rattle.secret_file.proofs.protection.hashing_of.Goals as goal

pub returns-in_err-count_in-clause-none : goal.returns-in_err-count_in-clause-none
returns-in_err-count_in-clause-none c =
    rw c.from_residual-in_err-count_in.ensures (λ salt count h.
    no_count (tree_of c.args.list.now) (trees c.items.result.now) (trees c.in_ok-behind.behind.now) (trees c.in_ok-salt.behind.now) c.in_ok-salt.salt.now c.in_ok-digits.digits.now salt count
    c.items.ensures c.in_ok-behind.ensures.found c.in_ok-salt.ensures.found c.in_ok-digits.ensures.found c.in_err-count_in.ensures.none h)

pub returns-clause-found : goal.returns-clause-found
returns-clause-found c =
    hashing_is (tree_of c.args.list.now) (trees c.items.result.now) (trees c.in_ok-behind.behind.now) (trees c.in_ok-salt.behind.now) c.in_ok-salt.salt.now c.in_ok-digits.digits.now c.in_ok-array_of.field-0 c.in_ok-count_in.field-0
    c.items.ensures c.in_ok-behind.ensures.found c.in_ok-salt.ensures.found c.in_ok-digits.ensures.found c.in_ok-array_of.ensures.found c.in_ok-count_in.ensures.found
