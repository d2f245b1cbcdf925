use Rattle.std.proofs.Common.{◌≡◌, length}
use Rattle.pinentry_script.specs.Entries.{is_script}
use Rattle.pinentry_script.proofs.entries.is_script.Given as goal

abbrev pub decreases-loop-line : goal.decreases-loop-line
decreases-loop-line l = length l.rest

abbrev pub invariant-loop-line : goal.invariant-loop-line
invariant-loop-line l = is_script l.file ≡ is_script l.rest
