use Rattle.std.proofs.Common.{ap, ◌∙◌, arith}
use Rattle.sexp_canonical.{specs.declared.tree.Sexp.TheVariants.Atom, proofs.Written.decimal_is_numeral}
use Rattle.secret_file.proofs.protecting.count_atom.Goals as goal

pub returns : goal.returns
returns c =
    c.in_ok-tree.ensures ∙ ap Atom (c.as_bytes.ensures.value ∙ c.format.ensures.text ∙ decimal_is_numeral c.args.count (omega arith))
