use Rattle.std.proofs.Common.{◌∷◌, length, ap, ◌∙◌, arith, length-append}
use Rattle.sexp_canonical.{specs.Spelling.numeral, proofs.Written.decimal_is_numeral}
use Rattle.sexp_canonical.proofs.measuring.atom_len.Goals as goal

pub returns : goal.returns
returns c =
    let n = length c.args.bytes.now in
    let digits = ap length (c.format.ensures.text ∙ decimal_is_numeral n (omega arith)) in
    omega (arith, digits, length-append (numeral n) (58 ∷ c.args.bytes.now))
