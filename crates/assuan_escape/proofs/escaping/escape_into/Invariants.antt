use Rattle.std.proofs.Common.{◌≡◌, ◌≤◌, ◌++◌, take, length}
use Rattle.assuan_escape.specs.Escapes.{escapes}
use Rattle.assuan_escape.proofs.escaping.escape_into.Given as goal

abbrev pub invariant-loop-count : goal.invariant-loop-count
invariant-loop-count l =
    record {
      written : l.out.items ≡ l.fn.out.items ++ escapes (take l.count l.bytes);
      fits : length l.fn.out.items ≤ 1000 → length l.out.items ≤ 1000;
    }
