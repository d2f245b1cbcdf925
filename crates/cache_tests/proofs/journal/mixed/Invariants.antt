use Rattle.std.specs.Prelude.{◌≡◌, None}
use Rattle.cache_tests.proofs.journal.mixed.Given as goal

abbrev pub invariant-loop-number : goal.invariant-loop-number
invariant-loop-number g l = l.desk.out ≡ None
