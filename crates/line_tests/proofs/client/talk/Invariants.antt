use Rattle.std.proofs.Common.{◌≡◌}
use Rattle.assuan_client.specs.Answers.{state_after}
use Rattle.line_tests.proofs.client.talk.Given as goal

abbrev pub invariant-loop : goal.invariant-loop
invariant-loop l = l.peer.state ≡ state_after l.answer
