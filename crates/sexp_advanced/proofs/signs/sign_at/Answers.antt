use Rattle.sexp_advanced.proofs.OneSign.{verbatim_failed_at}
use Rattle.sexp_advanced.proofs.signs.sign_at.Goals as goal

pub returns-in-Verbatim-clause-fault : goal.returns-in-Verbatim-clause-fault
returns-in-Verbatim-clause-fault c =
    verbatim_failed_at c.args.text.now c.in-Some.more.now c.in-Some.byte.now c.args.place c.verbatim_at.result c.in-Some.ensures.cases.0 c.in-Verbatim.ensures c.verbatim_at.ensures.fault
