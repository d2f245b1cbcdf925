use Rattle.std.proofs.Common.{sym, ◌∙◌, arith}
use Rattle.sexp_canonical.proofs.Written.{decimal_is_numeral}
use Rattle.secret_file.proofs.Counts.{counted, not_read, other_digits, not_counted, same_text, other_text}
use Rattle.secret_file.proofs.protection.count_in.Goals as goal

pub returns-in_err-number-clause-none : goal.returns-in_err-number-clause-none
returns-in_err-number-clause-none c = rw c.from_residual.ensures (not_read c.args.digits.now (sym c.number_of.ensures ∙ c.in_err-number.was))

pub returns-then-ne-clause-none : goal.returns-then-ne-clause-none
returns-then-ne-clause-none c =
    other_digits c.args.digits.now c.in_ok-number.number (sym c.number_of.ensures ∙ c.in_ok-number.was)
    (λ same. other_text c.as_bytes.result.now c.args.digits.now (sym c.ne.ensures ∙ c.if-ne.true)
    (c.as_bytes.ensures.value ∙ c.format.ensures.text ∙ decimal_is_numeral c.in_ok-number.number (omega arith) ∙ sym same))

pub returns-clause-found : goal.returns-clause-found
returns-clause-found c =
    counted c.args.digits.now c.in_ok-number.number c.count_of.result
    (sym (same_text c.as_bytes.result.now c.args.digits.now (sym c.ne.ensures ∙ c.if-ne.false)) ∙ c.as_bytes.ensures.value ∙ c.format.ensures.text ∙ decimal_is_numeral c.in_ok-number.number (omega arith))
    (sym c.number_of.ensures ∙ c.in_ok-number.was) c.count_of.ensures

pub returns-clause-none : goal.returns-clause-none
returns-clause-none c = not_counted c.args.digits.now c.in_ok-number.number c.count_of.result (sym c.number_of.ensures ∙ c.in_ok-number.was) c.count_of.ensures
