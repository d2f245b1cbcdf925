use Rattle.std.specs.Prelude.{◌≡◌, vec_len}
use Rattle.cache_tests.proofs.journal.played.Given as goal

abbrev pub invariant-loop-place : goal.invariant-loop-place
invariant-loop-place g l = vec_len l.all ≡ 3
