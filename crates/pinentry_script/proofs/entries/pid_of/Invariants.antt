use Rattle.std.proofs.Common.{◌≡◌, length}
use Rattle.assuan_line.specs.Lines.{pieces_of}
use Rattle.pinentry_script.specs.Entries.{entries_of, pid_of}
use Rattle.pinentry_script.proofs.entries.pid_of.Given as goal

abbrev pub decreases-loop-line : goal.decreases-loop-line
decreases-loop-line l = length l.rest

abbrev pub invariant-loop-line : goal.invariant-loop-line
invariant-loop-line l = pid_of (entries_of (pieces_of l.file)) ≡ pid_of (entries_of (pieces_of l.rest))
