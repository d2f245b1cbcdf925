use Rattle.std.specs.Prelude.{◌≡◌, ◌≤◌}
use Rattle.daemon_tests.proofs.serving.served_rows.Given as goal

abbrev pub invariant-loop-place : goal.invariant-loop-place
invariant-loop-place g l = record {
  first : (l.passes.0.table ≡ l.counted.table) × (l.passes.0.sessions ≤ l.place);
  second : (l.passes.1.table ≡ l.counted.table) × (l.passes.1.sessions ≤ l.place);
  third : (l.passes.2.table ≡ l.counted.table) × (l.passes.2.sessions ≤ l.place);
}
