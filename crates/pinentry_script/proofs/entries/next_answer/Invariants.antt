use Rattle.std.proofs.Common.{◌≡◌, ◌≤◌, length}
use Rattle.pinentry_script.specs.Entries.{answers_in}
use Rattle.pinentry_script.proofs.entries.next_answer.Given as goal

abbrev pub decreases-loop-line : goal.decreases-loop-line
decreases-loop-line l = length l.rest

abbrev pub invariant-loop-line : goal.invariant-loop-line
invariant-loop-line l = record {
  answers : answers_in l.file ≡ answers_in l.rest;
  fewer : length l.rest ≤ length l.file;
}
