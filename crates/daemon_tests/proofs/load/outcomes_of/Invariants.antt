use Rattle.std.proofs.Common.{◌≤◌, ◌*◌}
use Rattle.daemon_tests.proofs.load.outcomes_of.Given as goal

-- the next moment is behind that of the last put
abbrev pub invariant-loop-place : goal.invariant-loop-place
invariant-loop-place l = record { within : l.moment ≤ 7 * l.place; in_order : l.book.latest ≤ l.moment }
