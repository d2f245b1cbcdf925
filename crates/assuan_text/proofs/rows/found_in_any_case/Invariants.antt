use Rattle.std.proofs.Common.{◌≡◌, drop}
use Rattle.assuan_text.specs.Rows.{found_in_any_case, rows_of}
use Rattle.assuan_text.proofs.rows.found_in_any_case.Given as goal

-- the rows that are left decide
abbrev pub invariant-loop-known : goal.invariant-loop-known
invariant-loop-known g l =
    found_in_any_case l.name (rows_of (drop l.known-index l.rows)) ≡ found_in_any_case l.name (rows_of l.rows)
