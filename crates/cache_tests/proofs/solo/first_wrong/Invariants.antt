use Rattle.std.specs.Prelude.{◌≡◌, None}
use Rattle.cache_tests.proofs.solo.first_wrong.Given as goal

abbrev pub invariant-loop-place : goal.invariant-loop-place
invariant-loop-place g l = (g.D.Desk.at l.desk).out ≡ None
