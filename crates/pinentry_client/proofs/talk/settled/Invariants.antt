-- Whatever the last answer is from here on, it is that of all. Each inquiry uses up a line.
use Rattle.std.proofs.Common.{◌≡◌, ◌+◌, cond}
use Rattle.{assuan_client.specs.{Answers.state_after, Connections.Connection, declared.answer.Answer.Answer}, assuan_line.specs.Next.held}
use Rattle.pinentry_client.specs.Talking.{Settles, is_asked}
use Rattle.pinentry_client.proofs.talk.settled.Given as goal

abbrev pub invariant-loop-answer : goal.invariant-loop-answer
invariant-loop-answer g l = (l.peer.state ≡ state_after l.answer)
    × ((last : Answer) (after : Connection) → Settles l.rates l.answer l.peer last after → Settles l.rates l.fn.answer l.fn.peer last after)

abbrev pub decreases-loop-answer : goal.decreases-loop-answer
decreases-loop-answer g l = cond (is_asked l.answer) (held l.peer.reader + 1) 0
