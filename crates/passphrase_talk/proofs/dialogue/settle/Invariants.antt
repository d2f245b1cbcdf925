-- Whatever is told from here on, it is told of all. Each inquiry uses up a line.
use Rattle.std.proofs.Common.{◌≡◌, ◌+◌, ℕ, List, Option, cond}
use Rattle.{assuan_client.specs.{Answers.state_after, Connections.Connection}, assuan_line.specs.Next.held}
use Rattle.passphrase_talk.specs.{Contacts.with_launches, Dialogues.{Replies, Leads, told_behind, launches_behind, quiet, is_inquiry}, declared.told.Told.Told}
use Rattle.passphrase_talk.proofs.dialogue.settle.Given as goal

abbrev pub invariant-loop-answer : goal.invariant-loop-answer
invariant-loop-answer g l = (l.peer.state ≡ state_after l.answer)
    × (g.C.Connector.contacts l.connector ≡ with_launches (g.C.Connector.contacts l.fn.connector) (g.C.Connector.contacts l.connector).launches)
    × (g.C.Connector.terminal l.connector ≡ g.C.Connector.terminal l.fn.connector)
    × ((what : Told) (after : Connection) (launched : Option (List (List ℕ)))
    → Leads l.waits (Replies l.answer) (told_behind l.course l.answer) (launches_behind l.answer) l.peer what after (g.C.Connector.contacts l.connector).launches launched
    → Leads l.waits (Replies l.fn.answer) (told_behind quiet l.fn.answer) (launches_behind l.fn.answer) l.fn.peer what after (g.C.Connector.contacts l.fn.connector).launches launched)

abbrev pub decreases-loop-answer : goal.decreases-loop-answer
decreases-loop-answer g l = cond (is_inquiry l.answer) (held l.peer.reader + 1) 0
