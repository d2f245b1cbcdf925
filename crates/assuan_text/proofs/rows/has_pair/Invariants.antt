use Rattle.std.proofs.Common.{◌≡◌, drop}
use Rattle.assuan_text.specs.Rows.{has_pair, pairs_of}
use Rattle.assuan_text.proofs.rows.has_pair.Given as goal

-- the rows that are left decide
abbrev pub invariant-loop-left : goal.invariant-loop-left
invariant-loop-left l =
    has_pair l.first l.second (pairs_of (drop l.left-index l.rows)) ≡ has_pair l.first l.second (pairs_of l.rows)
