use Rattle.std.proofs.Common.{length}
use Rattle.sexp_advanced.specs.Signs.{Spells}
use Rattle.sexp_advanced.proofs.signs.delimited_at.Given as goal

abbrev pub invariant-loop-byte : goal.invariant-loop-byte
invariant-loop-byte l = Spells l.form l.text l.bytes l.rest

abbrev pub decreases-loop-byte : goal.decreases-loop-byte
decreases-loop-byte l = length l.rest
