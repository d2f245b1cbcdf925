use Rattle.std.specs.Prelude.{◌≡◌, ◌≤◌}
use Rattle.cache_tests.proofs.counted.played.Given as goal

abbrev pub invariant-loop-place : goal.invariant-loop-place
invariant-loop-place g l = record {
  first : (l.first.table ≡ l.counted.table) × (l.first.sessions ≤ l.place);
  second : (l.second.table ≡ l.counted.table) × (l.second.sessions ≤ l.place);
  third : (l.third.table ≡ l.counted.table) × (l.third.sessions ≤ l.place);
}
