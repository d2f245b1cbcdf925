use Rattle.std.proofs.Common.{◌≡◌, ◌++◌, length}
use Rattle.sexp_advanced.specs.Writing.{hex_pairs}
use Rattle.sexp_advanced.proofs.writing.append_pairs.Given as goal

abbrev pub invariant-loop-byte : goal.invariant-loop-byte
invariant-loop-byte l = l.text ++ hex_pairs l.rest ≡ l.fn.text ++ hex_pairs l.bytes

abbrev pub decreases-loop-byte : goal.decreases-loop-byte
decreases-loop-byte l = length l.rest
