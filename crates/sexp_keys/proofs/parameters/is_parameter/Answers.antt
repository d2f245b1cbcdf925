use Rattle.std.{proofs.Common.{refl, sym, ◌∙◌, true, false}, specs.List.list_all}
use Rattle.sexp_canonical.specs.View.{tree_of}
use Rattle.sexp_keys.{specs.Parameters.is_atom, proofs.ListTests.parameter_is}
use Rattle.sexp_keys.proofs.parameters.is_parameter.Goals as goal

pub returns-then-is_parameter_len : goal.returns-then-is_parameter_len
returns-then-is_parameter_len c =
    parameter_is c.args.algorithm (tree_of c.args.tree.now) c.items-items.result.now true c.are_atoms.result c.items-items.ensures
    (sym c.if-is_parameter_len.true ∙ c.is_parameter_len.ensures) c.are_atoms.ensures

pub returns-else-is_parameter_len : goal.returns-else-is_parameter_len
returns-else-is_parameter_len c =
    c.if-is_parameter_len.false
    ∙ parameter_is c.args.algorithm (tree_of c.args.tree.now) c.items-items.result.now false (list_all (λ s. is_atom (tree_of s)) c.items-items.result.now) c.items-items.ensures
    (sym c.if-is_parameter_len.false ∙ c.is_parameter_len.ensures) refl
