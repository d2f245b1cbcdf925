use Rattle.std.proofs.Common.{◌≡◌, length}
use Rattle.pinentry_script.specs.{Entries.answers_in, Turns.without_qualities}
use Rattle.pinentry_script.proofs.session.Session.skip_qualities.Given as goal

abbrev pub invariant-loop-file : goal.invariant-loop-file
invariant-loop-file l = record {
  answers : without_qualities (answers_in l.fn.self.file.now) ≡ without_qualities (answers_in l.self.file.now);
  pid : l.self.pid.now ≡ l.fn.self.pid.now;
  stage : l.self.stage ≡ l.fn.self.stage;
}

abbrev pub decreases-loop-file : goal.decreases-loop-file
decreases-loop-file l = length l.self.file.now
