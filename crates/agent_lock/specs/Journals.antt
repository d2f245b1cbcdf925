-- What lies under the lock: a core, the journal of what was done since it last began with an empty cache, and the tally of what was
-- done before. The journal has no byte of a secret. This is the project's own.
use Rattle.std.specs.Prelude.{◌≡◌, ℕ, ◌==◌, true, false, length, if◌then◌else◌, Some}
use Rattle.{agent_ports.specs.declared.session.SessionId.SessionId, cache_policy.specs.{declared.{bounds.TheConstants.MAX_MARKS, mark.{MarkStep.MarkStep, MarkReply.MarkReply}, tally.Tally.Tally, wait.Wait.Wait}, Bare.{bare, bare_step}}}
use Rattle.cache_policy.specs.{Histories.{History, with_mark}, Legal.IsLegal, Policy.{Reply, policy}, Runs.{next_history, is_spent}, Tallies.with_history, Traces.reply_of, Turns.{Turn, Stand, Stopping, Refused, wait_after}}
use Rattle.agent_core.specs.Cores.{AtCore, StandsFor, IsAsBefore, mark_of}
use Rattle.cache_policy.specs.Policy as ruling

pub record AtLock : Type 0 where
  pub core : AtCore
  pub journal : History
  pub carried : Tally

-- the tally of all that was done
abbrev pub tally_at : AtLock → Tally
tally_at lock = with_history lock.core.limits lock.carried lock.journal

-- the core stands for the journal, but for the bytes of secrets: for a legal history that has the journal without them
pub record StandsAsBare (core : AtCore) (journal : History) : Type 0 where
  pub history : History
  pub legal : IsLegal core.limits history
  pub stands : StandsFor core history
  pub bare_is : bare history ≡ journal

-- what holds under the lock at all times: the journal is legal, and the core stands for it
pub record IsLocked (lock : AtLock) : Type 0 where
  pub legal : IsLegal lock.core.limits lock.journal
  pub stands : StandsAsBare lock.core lock.journal

-- what was done before the journal on which the next step is taken: a full journal is carried over
abbrev pub carried_on : AtLock → Tally
carried_on lock = if length lock.journal.marks == MAX_MARKS then tally_at lock else lock.carried

-- What a step at a moment does. It is replied by the policy of the journal, or where that is full of the one that follows it, and makes
-- its mark there without the bytes of a secret; or it stands, since its first try, is refused or comes to a spent core, and makes none.
pub data IsJournaled (before : AtLock) (session : SessionId) (moment : ℕ) (asked : MarkStep) : Turn → AtLock → Type 0 where
  marked : {turn : Turn} {after : AtLock} (answer : MarkReply) → is_spent (next_history before.journal) ≡ false
      → policy before.core.limits (next_history before.journal) (bare_step asked) moment ≡ Reply answer → reply_of turn ≡ Some answer
      → after.journal ≡ with_mark (next_history before.journal) (mark_of session (bare_step asked) answer moment)
      → after.carried ≡ carried_on before → IsJournaled before session moment asked turn after
  stood : {wait : Wait} {after : AtLock} → is_spent (next_history before.journal) ≡ false
      → policy before.core.limits (next_history before.journal) (bare_step asked) moment ≡ ruling.Stand → wait ≡ wait_after session asked moment
      → after ≡ before → IsJournaled before session moment asked (Stand wait) after
  refused : {after : AtLock} → is_spent (next_history before.journal) ≡ false → IsAsBefore before.core after.core
      → after ≡ record before { core = after.core } → IsJournaled before session moment asked Refused after
  spent : {after : AtLock} → is_spent (next_history before.journal) ≡ true → after ≡ before → IsJournaled before session moment asked Stopping after
