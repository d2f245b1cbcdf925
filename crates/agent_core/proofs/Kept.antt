-- What each state keeps: numbers below the next one, and room for the passphrase of a ticket.
use Rattle.std.{specs.Prelude.{◌≡◌, ℕ, ◌+◌, ◌≤◌, List, [], ◌∷◌, true, false, Option, Some, None, cond}, proofs.Common.{sym, subst, arith}}
use Rattle.cache_policy.specs.{declared.{mode.Mode.Mode, life.{Life.Life, Limits.Limits}, mark.Under.Under, entry.Entry.Entry, history.Held.Held}, Lifetimes.{ttl_of, max_of, is_zero}, Entries.entry_of}
use Rattle.cache_book.{specs.{declared.slot.Slot.Slot, Shelves.{AtShelf, AreBelow, with_entry}}, proofs.Below.{below_more, below_stored}}
use Rattle.agent_core.specs.{declared.state.State.State, Cores.HasRoom, States.{IsState, held_of}, Taking.held_at}

pub room_more : (held : Option Held) (spare more : ℕ) → spare ≤ more → HasRoom held spare → HasRoom held more
room_more None spare more h room = tt
room_more (Some held) spare more h room = λ under. omega (arith, h, room under)

pub room_some : (held : Option Held) (spare : ℕ) → 1 ≤ spare → HasRoom held spare
room_some None spare h = tt
room_some (Some held) spare h = λ under. h

pub room_free : (holder : Option ℕ) (under : Option Under) (spare : ℕ) → holder ≡ None → HasRoom (held_of holder under) spare
room_free holder under spare free = subst (λ (o : Option ℕ). HasRoom (held_of o under) spare) (sym free) tt

-- the entry that is stored has the number of its mark
pub entry_number : (limits : Limits) (number moment : ℕ) (id : List ℕ) (mode : Mode) (life : Life) (secret : List ℕ) (entry : Entry)
    → entry ∷ [] ≡ entry_of limits number moment id mode life secret → entry.number ≡ number
entry_number limits number moment id mode life secret entry is =
    elim (is_zero (ttl_of limits mode life)) as (λ b. entry ∷ [] ≡ cond b [] (record { number = number; id = id; mode = mode; secret = secret; entered = moment; ttl = ttl_of limits mode life; max = max_of limits mode } ∷ [])
    → entry.number ≡ number) [ true ↦ λ e. cc | false ↦ λ e. cc ] is

-- another shelf in a state
pub state_with_shelf : (state : State) (shelf : AtShelf) → IsState state → AreBelow (state.base + state.count) shelf.slots → HasRoom (held_at state) shelf.spare
    → IsState (record state { shelf = shelf })
state_with_shelf state shelf is numbers room =
    record { base = is.base; whole = is.whole; few = is.few; moment = is.moment; numbers = numbers; room = room }

-- a new entry on the shelf of a state whose last mark has its number
pub below_with_entry : (number next : ℕ) (entry : Entry) (before after : List Slot) → next ≡ number + 1 → entry.number ≡ number → AreBelow number before
    → after ≡ with_entry entry before → AreBelow next after
below_with_entry number next entry before after more same h is =
    subst (AreBelow next) (sym is) (below_more (entry.number + 1) next (with_entry entry before) (omega (arith, more, same))
    (below_stored entry before (subst (λ (n : ℕ). AreBelow n before) (sym same) h)))
