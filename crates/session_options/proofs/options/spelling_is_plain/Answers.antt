use Rattle.std.{proofs.Common.{◌||◌, [], ◌∷◌, ◌++◌, refl, sym, ap, append-nil}, specs.Prelude.◌==◌}
use Rattle.session_options.proofs.Spelling.{applied_parts, marked, marked_ends, unmarked, without_dashes_plain, first_byte}
use Rattle.session_options.proofs.options.spelling_is_plain.Goals as goal

pub returns-clause-bare : goal.returns-clause-bare
returns-clause-bare c = λ old name before after value whole first blank blanks plain.
    applied_parts old _ name (before ++ (61 ∷ (after ++ value))) value (without_dashes_plain _ (first_byte name before (after ++ value) first blank)) whole
    (marked_ends before (after ++ value) blank) (marked before after value blank blanks plain)

pub returns-clause-dashed : goal.returns-clause-dashed
returns-clause-dashed c = λ old name before after value whole blank blanks plain.
    applied_parts old _ name (before ++ (61 ∷ (after ++ value))) value refl whole (marked_ends before (after ++ value) blank) (marked before after value blank blanks plain)

pub returns-clause-unmarked : goal.returns-clause-unmarked
returns-clause-unmarked c = λ old name value blank before whole one blanks plain.
    applied_parts old _ name (blank ∷ (before ++ value)) value refl whole (ap (λ b. b || blank == 61) one) (unmarked blank before value one blanks plain)

pub returns-clause-alone : goal.returns-clause-alone
returns-clause-alone c = λ old name whole. applied_parts old _ name [] [] (sym (append-nil name)) whole refl refl
