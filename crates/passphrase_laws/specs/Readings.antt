-- What a client reads of what an agent writes, in whatever pieces that comes, and whatever comes behind it.
use Rattle.std.specs.Prelude.{◌≡◌, ◌≤◌, ◌<◌, ◌+◌, ℕ, List, ◌++◌, [], length, Option, Some}
use Rattle.{agent_ports.specs.{Counts.Rose, Sides.followed_by}, assuan_client.specs.{Answers.ReadOn, Connections.Connection, Skipping.Tally, declared.{answer.Answer.{Answer, TheVariants.ReadFault}, tally.TheConstants.MAX_NOTES}}}
use Rattle.assuan_line.specs.Next.{held}

-- the bytes that a connection has still to read, where they are known
abbrev pub unread : Connection → Option (List ℕ)
unread conn = followed_by conn.reader.ahead conn.input.bytes

-- this text comes next, and other bytes behind it; as many as the text has may be taken
pub record Comes (text behind : List ℕ) (conn : Connection) : Type 0 where
  pub next : unread conn ≡ Some (text ++ behind)
  pub within : length text ≤ held conn.reader

-- nothing came in the command so far but inquiries, which are few
pub record IsBegun (tally : Tally) : Type 0 where
  pub no_data : tally.bytes ≡ []
  pub few : tally.notes < MAX_NOTES

-- The answer is found, and of the bytes those behind the text are left; or a read failed, which is counted.
pub data Finds (answer : Answer) (text behind : List ℕ) (before after : Connection) : Answer → Type 0 where
  found : unread after ≡ Some behind → held before.reader ≡ length text + held after.reader → Finds answer text behind before after answer
  failed : Rose before.input.faults after.input.faults → Finds answer text behind before after ReadFault

-- Wherever this text comes next, a client that reads on in its command finds this answer.
abbrev pub IsReadAs : List ℕ → Answer → Type 0
IsReadAs text answer = (behind : List ℕ) (tally : Tally) (found : Answer) (before after : Connection) → IsBegun tally → Comes text behind before
    → ReadOn tally found before after → Finds answer text behind before after found
