use Rattle.std.proofs.Common.{◌≡◌, length}
use Rattle.sexp_advanced.specs.Bytes.{is_space_byte, without_front}
use Rattle.sexp_advanced.proofs.bytes.after_blanks.Given as goal

abbrev pub invariant-loop-byte : goal.invariant-loop-byte
invariant-loop-byte l = without_front is_space_byte l.text ≡ without_front is_space_byte l.rest

abbrev pub decreases-loop-byte : goal.decreases-loop-byte
decreases-loop-byte l = length l.rest
