use Rattle.sexp_canonical.proofs.Steps.{IsNumeralUpTo}
use Rattle.sexp_canonical.proofs.reading.length_at.Given as goal

abbrev pub invariant-loop-end : goal.invariant-loop-end
invariant-loop-end l = IsNumeralUpTo l.text l.place l.end l.count
