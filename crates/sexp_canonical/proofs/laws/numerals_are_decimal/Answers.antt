use Rattle.sexp_canonical.proofs.{Numerals.{numeral_injective, length_numeral}, Written.decimal_is_numeral}
use Rattle.sexp_canonical.proofs.laws.numerals_are_decimal.Goals as goal

pub returns : goal.returns
returns c = record { decimal = decimal_is_numeral; one = numeral_injective; short = length_numeral }
