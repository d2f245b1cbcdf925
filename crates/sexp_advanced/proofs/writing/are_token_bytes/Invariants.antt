use Rattle.std.proofs.Common.{◌≡◌, length}
use Rattle.sexp_advanced.specs.Writing.{are_token_bytes}
use Rattle.sexp_advanced.proofs.writing.are_token_bytes.Given as goal

abbrev pub invariant-loop-byte : goal.invariant-loop-byte
invariant-loop-byte l = are_token_bytes l.bytes ≡ are_token_bytes l.rest

abbrev pub decreases-loop-byte : goal.decreases-loop-byte
decreases-loop-byte l = length l.rest
