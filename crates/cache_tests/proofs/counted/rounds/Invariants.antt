use Rattle.std.specs.Prelude.{◌≡◌, None}
use Rattle.cache_tests.proofs.counted.rounds.Given as goal

abbrev pub invariant-loop-round : goal.invariant-loop-round
invariant-loop-round g l = record { free : l.desk.out ≡ None; own : l.desk.pass.table ≡ l.fn.pass.table }
