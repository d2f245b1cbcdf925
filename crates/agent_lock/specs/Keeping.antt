-- What the code keeps under the lock.
use Rattle.std.specs.Prelude.{◌≡◌, ◌+◌, ◌==◌, ◌≤◌, List, [], length, map, Option, Some, None, vec_capacity, if◌then◌else◌}
use Rattle.cache_policy.specs.{declared.{bounds.TheConstants.MAX_MARKS, tally.Tally.Tally, trace.Trace.Trace}, Histories.History, Tallies.IsSound, Traces.trace_mark}
use Rattle.agent_lock.specs.{declared.state.{Start.Start, State.State}, Journals.{AtLock, StandsAsBare, tally_at}}

-- the history that traces show, which began so
abbrev pub journal_of : Start → List Trace → History
journal_of start traces = record { base = start.base; held = start.held; stopped = start.stopped; marks = map trace_mark traces }

abbrev pub seen : State → AtLock
seen state = record { core = state.core; journal = journal_of state.start state.traces.items; carried = state.carried }

-- how the journal after this one begins, where this one is full
abbrev pub next_start : State → Option Start
next_start state =
    if length state.traces.items == MAX_MARKS
    then Some (record { base = state.core.base + MAX_MARKS; held = state.core.held; stopped = state.core.stopped })
    else None

-- the journal to which a mark is added, and what was done before it
abbrev pub started : Option Start → History → History
started None journal = journal
started (Some start) journal = record { base = start.base; held = start.held; stopped = start.stopped; marks = [] }

abbrev pub carried_to : Option Start → Tally → Tally → Tally
carried_to None carried total = carried
carried_to (Some start) carried total = total

pub record IsKept (state : State) : Type 0 where
  pub stands : StandsAsBare state.core (journal_of state.start state.traces.items)
  pub total : state.total ≡ tally_at (seen state)
  pub sound : IsSound state.total
  pub numbers : state.carried.marks ≡ state.start.base
  pub room : MAX_MARKS ≤ vec_capacity state.traces
