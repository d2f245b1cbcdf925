-- What a core has in place of its history. This is the project's own.
use Rattle.std.specs.Prelude.{◌≡◌, ℕ, ◌+◌, ◌%◌, ◌<◌, ◌≤◌, Option, Some, None}
use Rattle.{cache_policy.specs.{declared.{bounds.TheConstants.{MAX_MARKS, MAX_MOMENT}, mark.Under.Under, history.Held.Held}, Runs.last_base}, cache_book.specs.Shelves.AreBelow}
use Rattle.agent_core.specs.{declared.state.State.State, Cores.{AtCore, HasRoom}}

-- the ticket that is out, with what its passphrase is kept under
abbrev pub held_of : Option ℕ → Option Under → Option Held
held_of (Some ticket) under = Some (record { ticket = ticket; under = under })
held_of None under = None

-- how a state is seen
abbrev pub seen : State → AtCore
seen state = record {
  limits = state.limits;
  base = state.base;
  count = state.count;
  moment = state.moment;
  slots = state.shelf.slots;
  held = held_of state.seat state.under;
  stopped = state.stopped;
  spare = state.shelf.spare;
}

-- what each state keeps: a base that isn't the last, room for its marks, entries that are older than the next mark, and room for the
-- passphrase of a ticket
pub record IsState (state : State) : Type 0 where
  pub base : state.base < last_base
  pub whole : state.base % MAX_MARKS ≡ 0
  pub few : state.count ≤ MAX_MARKS
  pub moment : state.moment ≤ MAX_MOMENT
  pub numbers : AreBelow (state.base + state.count) state.shelf.slots
  pub room : HasRoom (held_of state.seat state.under) state.shelf.spare
