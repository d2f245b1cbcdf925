use Rattle.std.proofs.Common.{sym, ◌∙◌, inr}
use Rattle.sexp_canonical.specs.View.{tree_of, trees}
use Rattle.sexp_keys.{specs.Parameters.is_list, proofs.{ListTests.list_all_trees, Keys.{key_read, bad_parameters, bad_further}}}
use Rattle.sexp_keys.proofs.key_list.read_key.Goals as goal

pub returns-in_default-clause-fault : goal.returns-in_default-clause-fault
returns-in_default-clause-fault c =
    inr (bad_parameters (tree_of c.args.tree.now) c.in_ok-named.named.is_clear c.in_ok-named.named.algorithm
    (trees c.in_ok-named.named.parameters.now) (trees c.in_ok-named.named.further.now) c.in_ok-named.ensures.found c.in_default.ensures.none)

pub returns-then-not-are_lists-clause-fault : goal.returns-then-not-are_lists-clause-fault
returns-then-not-are_lists-clause-fault c =
    inr (bad_further (tree_of c.args.tree.now) c.in_ok-named.named.is_clear c.in_ok-named.named.algorithm
    (trees c.in_ok-named.named.parameters.now) (trees c.in_ok-named.named.further.now) c.in_ok-named.ensures.found
    (list_all_trees is_list c.in_ok-named.named.further.now ∙ sym c.are_lists.ensures ∙ c.if-not-are_lists.true))

pub invariant_of-result : goal.invariant_of-result
invariant_of-result c =
    let named = c.in_ok-named.named in
    (key_read (tree_of c.args.tree.now) named.is_clear named.algorithm (trees named.parameters.now) (trees named.further.now) (trees c.in-Some.public.now) (trees c.in-Some.private.now)
    c.in_ok-copies_of.field-0 c.in_ok-copies_of-2.field-0 c.in_ok-copies_of-3.field-0 c.in_ok-named.ensures.found c.in-Some.ensures.found
    (list_all_trees is_list named.further.now ∙ sym c.are_lists.ensures ∙ c.if-not-are_lists.false)
    c.in_ok-copies_of.ensures c.in_ok-copies_of-2.ensures c.in_ok-copies_of-3.ensures).formed

pub returns-clause-found : goal.returns-clause-found
returns-clause-found c =
    let named = c.in_ok-named.named in
    key_read (tree_of c.args.tree.now) named.is_clear named.algorithm (trees named.parameters.now) (trees named.further.now) (trees c.in-Some.public.now) (trees c.in-Some.private.now)
    c.in_ok-copies_of.field-0 c.in_ok-copies_of-2.field-0 c.in_ok-copies_of-3.field-0 c.in_ok-named.ensures.found c.in-Some.ensures.found
    (list_all_trees is_list named.further.now ∙ sym c.are_lists.ensures ∙ c.if-not-are_lists.false)
    c.in_ok-copies_of.ensures c.in_ok-copies_of-2.ensures c.in_ok-copies_of-3.ensures
