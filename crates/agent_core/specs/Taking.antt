-- Private: what a step makes of what a core has.
use Rattle.std.specs.{Prelude.{◌≡◌, ℕ, ◌+◌, ◌<◌, ◌≤◌, ◌==◌, ◌&&◌, List, [], ◌∷◌, Bool, true, false, not, Option, Some, None, Result, Ok, Err, IsSome, if◌then◌else◌}, Option.{option_and_then, is_some}}
use Rattle.{agent_ports.specs.declared.session.SessionId.SessionId, cache_policy.specs.declared.{bounds.TheConstants.{MAX_MARKS, MAX_MOMENT}, mark.{Under.Under, Way.{Way, TheVariants.{Quiet, Prompt}}, MarkStep.MarkStep}}}
use Rattle.cache_policy.specs.declared.{mark.MarkStep.TheVariants.{Ask, Seat, Close, Put, Clear, Flush, Peek, Stop}, mode.Mode.Mode, life.Life.Life, entry.Entry.Entry, grant.Grant.Grant, history.Held.Held, step.Reply.Reply}
use Rattle.cache_policy.specs.{Entries.{entry_of, kept_under, kept}, Seat.unless_given_back, Turns.{Turn, Given, Empty, Open, Stand, Done, Held as WhetherHeld, Stopping, Late, Refused, turn_of}, Waits.is_late, Runs.last_base}
use Rattle.cache_book.specs.{declared.slot.Slot.Slot, Shelves.{IsGrantFrom, ServesNone, touched, with_entry, cleared, swept}}
use Rattle.agent_core.specs.{declared.state.State.State, States.{held_of, IsState}}

-- the history has no room for a mark
abbrev pub is_full : State → Bool
is_full state = state.count == MAX_MARKS

-- base, count and slots of the history that is next
abbrev pub next_base : State → ℕ
next_base state = if is_full state then state.base + MAX_MARKS else state.base

abbrev pub next_count : State → ℕ
next_count state = if is_full state then 0 else state.count

abbrev pub next_slots : State → List Slot
next_slots state = if is_full state then [] else state.shelf.slots

-- the state with one mark more, at this moment; it has these slots, this ticket, and has stopped or not
pub record HasMarked (before : State) (moment : ℕ) (list : List Slot) (held : Option Held) (stops : Bool) (after : State) : Type 0 where
  pub limits : after.limits ≡ before.limits
  pub base : after.base ≡ next_base before
  pub count : after.count ≡ next_count before + 1
  pub moment_is : after.moment ≡ moment
  pub slots : after.shelf.slots ≡ list
  pub held_is : held_of after.seat after.under ≡ held
  pub stopped : after.stopped ≡ stops

-- the slots that are left at a moment
abbrev pub slots_at : State → ℕ → List Slot
slots_at state moment = swept moment (next_slots state)

abbrev pub held_at : State → Option Held
held_at state = held_of state.seat state.under

-- the number of the next mark
abbrev pub number_of : State → ℕ
number_of state = next_base state + next_count state

-- a mark can be made: the agent isn't spent, and the moment is within the greatest
pub record MayMark (state : State) (moment : ℕ) : Type 0 where
  pub is_state : IsState state
  pub going : next_base state < last_base
  pub within : moment ≤ MAX_MOMENT

-- the state as before, but for the room on its shelf, which isn't less
pub record HasMoreRoom (before after : State) : Type 0 where
  pub same : after ≡ record before { shelf = after.shelf }
  pub slots : after.shelf.slots ≡ before.shelf.slots
  pub spare : before.shelf.spare ≤ after.shelf.spare

-- what is found for a request
abbrev pub Finds : List Slot → List ℕ → Mode → ℕ → Option Grant → Type 0
Finds list id mode moment (Some grant) = IsGrantFrom list id mode moment grant
Finds list id mode moment None = ServesNone list id mode moment

-- a mark that leaves slots and ticket
abbrev pub HasMarkedAlone : State → ℕ → State → Type 0
HasMarkedAlone before moment after = HasMarked before moment (slots_at before moment) (held_at before) before.stopped after

-- since when a step stands that is tried at this moment, by the moment of its first try
abbrev pub since_at : Option ℕ → ℕ → ℕ
since_at (Some since) moment = since
since_at None moment = moment

-- a step before a held seat has stood too long, or has to stand
abbrev pub StandsAside : State → ℕ → SessionId → Option ℕ → Turn → State → Type 0
StandsAside before moment session since Late after = (is_late since moment ≡ true) × HasMarkedAlone before moment after
StandsAside before moment session since (Stand wait) after =
    (is_late since moment ≡ false) × (wait ≡ record { session = session; since = since_at since moment }) × (after ≡ before)
StandsAside before moment session since _ after = ⊥

-- a ticket is wanted, for a passphrase that is kept under this
abbrev pub Prompts : State → ℕ → SessionId → Option ℕ → Option Under → Turn → State → Type 0
Prompts before moment session since under Stopping after = (before.stopped ≡ true) × HasMarkedAlone before moment after
Prompts before moment session since under (Open number) after =
    (before.stopped ≡ false) × (before.seat ≡ None) × (number ≡ number_of before)
    × HasMarked before moment (slots_at before moment) (Some (record { ticket = number; under = under })) before.stopped after
Prompts before moment session since under Refused after = (before.stopped ≡ false) × (before.seat ≡ None) × IsSome under × HasMoreRoom before after
Prompts before moment session since under turn after =
    (before.stopped ≡ false) × IsSome before.seat × StandsAside before moment session since turn after

-- an Ask is given what is found, or else is Empty or wants a ticket
abbrev pub Asks : State → ℕ → SessionId → List ℕ → Mode → Way → Option ℕ → Turn → State → Type 0
Asks before moment session id mode way since (Given grant) after =
    IsGrantFrom (next_slots before) id mode moment grant
    × HasMarked before moment (touched grant.entry.number moment (slots_at before moment)) (held_at before) before.stopped after
Asks before moment session id mode Quiet since Empty after = ServesNone (next_slots before) id mode moment × HasMarkedAlone before moment after
Asks before moment session id mode Quiet since _ after = ⊥
Asks before moment session id mode Prompt since turn after =
    ServesNone (next_slots before) id mode moment × Prompts before moment session since (Some (record { id = id; mode = mode })) turn after

abbrev pub prompt_turn : Result Reply (Option Under) → Turn
prompt_turn (Ok reply) = turn_of (Ok reply)
prompt_turn (Err under) = Refused

-- the slots with the entry that is stored, if one is
abbrev pub with_stored : List Entry → List Slot → List Slot
with_stored [] list = list
with_stored (entry ∷ later) list = with_entry entry list

abbrev pub Puts : State → ℕ → List ℕ → Mode → Life → List ℕ → Turn → State → Type 0
Puts before moment id mode life secret Done after =
    HasMarked before moment (with_stored (entry_of before.limits (number_of before) moment id mode life secret) (slots_at before moment)) (held_at before) before.stopped after
Puts before moment id mode life secret Refused after = HasMoreRoom before after
Puts before moment id mode life secret _ after = ⊥

-- a ticket is given back, and what was typed is kept where it names an id
abbrev pub Closes : State → ℕ → ℕ → Option (List ℕ) → State → Type 0
Closes before moment ticket keep after =
    HasMarked before moment
    (with_stored (kept before.limits (number_of before) moment (kept_under (held_at before) ticket) keep) (slots_at before moment))
    (option_and_then (unless_given_back (Close ticket keep)) (held_at before)) before.stopped after

-- a step that wants the prompt opens one, or has to stand: unless no prompt is opened any more, or it has stood too long
abbrev pub may_open : State → Option ℕ → ℕ → Bool
may_open state since moment = not state.stopped && not (is_some state.seat && is_late since moment)

-- whether a step comes to the seat: an Ask by prompt for which nothing is found, or a Seat
abbrev pub ComesToSeat : State → ℕ → MarkStep → Bool → Type 0
ComesToSeat state moment (Ask id mode Prompt since) comes =
    (found : Option Grant) × Finds (next_slots state) id mode moment found × (comes ≡ (if is_some found then false else may_open state since moment))
ComesToSeat state moment (Seat under since) comes = comes ≡ may_open state since moment
ComesToSeat state moment _ comes = comes ≡ false

-- what a session's step at a moment does
abbrev pub Takes : State → ℕ → SessionId → MarkStep → Turn → State → Type 0
Takes before moment session (Ask id mode way since) turn after = Asks before moment session id mode way since turn after
Takes before moment session (Seat under since) turn after = Prompts before moment session since under turn after
Takes before moment session (Close ticket keep) Done after = Closes before moment ticket keep after
Takes before moment session (Put id mode life secret) turn after = Puts before moment id mode life secret turn after
Takes before moment session (Clear id mode) Done after =
    HasMarked before moment (cleared id mode (slots_at before moment)) (held_at before) before.stopped after
Takes before moment session Flush Done after = HasMarked before moment [] (held_at before) before.stopped after
Takes before moment session (Peek id mode) (WhetherHeld there) after =
    ((found : Option Grant) × Finds (next_slots before) id mode moment found × (there ≡ is_some found)) × HasMarkedAlone before moment after
Takes before moment session Stop Done after = HasMarked before moment (slots_at before moment) (held_at before) true after
Takes before moment session _ _ after = ⊥
