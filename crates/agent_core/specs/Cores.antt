-- What a core stands for, and what its steps do: the policy's reply, and the history with one mark more. This is the project's own.
use Rattle.std.specs.Prelude.{◌≡◌, ℕ, ◌<◌, ◌≤◌, List, length, Bool, true, false, Option, IsSome, IfSome, ⊤}
use Rattle.{agent_ports.specs.declared.session.SessionId.SessionId, cache_policy.specs.declared.{bounds.TheConstants.MAX_MOMENT, life.Limits.Limits, mark.{Mark.Mark, MarkStep.MarkStep, MarkReply.MarkReply}, history.Held.Held}}
use Rattle.cache_policy.specs.{declared.wait.Wait.Wait, Histories.{History, with_mark}, Seat.{seat, stopped}, Policy.{Reply, policy}, Runs.{next_history, is_spent, moment_before}, Turns.{Turn, Stand, Stopping, Refused, wait_after}}
use Rattle.{cache_policy.specs.Desks.Shows, cache_book.specs.{declared.slot.Slot.Slot, Slots.slots}}
use Rattle.cache_policy.specs.declared.mark.MarkStep.TheVariants as asked
use Rattle.cache_policy.specs.declared.mark.MarkReply.TheVariants as reply
use Rattle.cache_policy.specs.Policy as ruling

-- A core is seen as its lifetimes, the base of its history, the count of its marks, the moment of the last step, the slots on its shelf,
-- the ticket that is out, whether it has stopped opening prompts, and how many entries it has room for
pub record AtCore : Type 0 where
  pub limits : Limits
  pub base : ℕ
  pub count : ℕ
  pub moment : ℕ
  pub slots : List Slot
  pub held : Option Held
  pub stopped : Bool
  pub spare : ℕ

-- there is room for the passphrase of the ticket that is out, where it is to be kept
abbrev pub HasRoom : Option Held → ℕ → Type 0
HasRoom held spare = IfSome held (λ h. IsSome h.under → 1 ≤ spare)

-- The core stands for a history: it has its base, the number of its marks, the moment of its last mark, its slots at that moment and no
-- others, its seat, and whether it has stopped. Where the ticket that is out has an `Under`, there is room for its passphrase.
pub record StandsFor (core : AtCore) (history : History) : Type 0 where
  pub base : core.base ≡ history.base
  pub count : core.count ≡ length history.marks
  pub moment : core.moment ≤ MAX_MOMENT
  pub latest : 0 < length history.marks → core.moment ≡ moment_before history.marks
  pub slots_are : core.slots ≡ slots core.limits history core.moment
  pub seat_is : core.held ≡ seat history
  pub stopped_is : core.stopped ≡ stopped history
  pub room : HasRoom core.held core.spare

abbrev pub mark_of : SessionId → MarkStep → MarkReply → ℕ → Mark
mark_of session step_of reply_is moment = record { session = session; step = step_of; reply = reply_is; moment = moment }

-- the step was replied by the policy, and made its mark, for which the core stands then
pub record IsMarked (before : AtCore) (next : History) (session : SessionId) (moment : ℕ) (step_of : MarkStep) (turn : Turn) (after : AtCore) : Type 0 where
  pub reply_is : MarkReply
  pub rules : policy before.limits next step_of moment ≡ Reply reply_is
  pub shows : Shows before.limits next (mark_of session step_of reply_is moment) turn
  pub stands : StandsFor after (with_mark next (mark_of session step_of reply_is moment))

-- Only these steps can find no memory: a Put, and one that opens a prompt whose passphrase is to be kept
abbrev pub WantsMemory : Limits → History → MarkStep → ℕ → Type 0
WantsMemory limits next (asked.Put id mode life secret) moment = ⊤
WantsMemory limits next (asked.Ask id mode way since) moment = policy limits next (asked.Ask id mode way since) moment ≡ Reply reply.Open
WantsMemory limits next (asked.Seat under since) moment = IsSome under × (policy limits next (asked.Seat under since) moment ≡ Reply reply.Open)
WantsMemory limits next _ moment = ⊥

-- the core is as before, but for its room, which isn't less
pub record IsAsBefore (before after : AtCore) : Type 0 where
  pub same : after ≡ record before { spare = after.spare }
  pub room : before.spare ≤ after.spare

-- What a step at a moment comes to, on the history that is next for the one that the core stands for. Where it has to stand, and where
-- that history is spent, nothing changes.
pub data IsStep (before : AtCore) (history : History) (session : SessionId) (moment : ℕ) (step_of : MarkStep) : Turn → AtCore → Type 0 where
  marked : {turn : Turn} {after : AtCore} → is_spent (next_history history) ≡ false
      → IsMarked before (next_history history) session moment step_of turn after → IsStep before history session moment step_of turn after
  stood : {wait : Wait} {after : AtCore} → is_spent (next_history history) ≡ false
      → policy before.limits (next_history history) step_of moment ≡ ruling.Stand → wait ≡ wait_after session step_of moment → after ≡ before
      → IsStep before history session moment step_of (Stand wait) after
  refused : {after : AtCore} → is_spent (next_history history) ≡ false → WantsMemory before.limits (next_history history) step_of moment
      → IsAsBefore before after → IsStep before history session moment step_of Refused after
  spent : {after : AtCore} → is_spent (next_history history) ≡ true → after ≡ before → IsStep before history session moment step_of Stopping after
