use Rattle.std.proofs.Common.{refl}
use Rattle.sexp_keys.proofs.Keys.{one_answer}
use Rattle.sexp_keys.proofs.laws.one_answer.Goals as goal

pub returns-clause-one : goal.returns-clause-one
returns-clause-one c = one_answer

pub returns-clause-again : goal.returns-clause-again
returns-clause-again c key h = record { parts = refl; formed = h }
