use Rattle.std.proofs.Common.{sym, ◌∙◌}
use Rattle.sexp_keys.proofs.ListTests.{curve_is}
use Rattle.sexp_keys.proofs.parameters.are_public.Goals as goal

pub returns-then-not-is_empty : goal.returns-then-not-is_empty
returns-then-not-is_empty c = rw c.in-Ecc.is (curve_is c.args.lists.now c.are_curve_parameters.result (sym c.is_empty.ensures ∙ c.if-not-is_empty.true) c.are_curve_parameters.ensures)
