-- Private: marks are added to the histories of a run, and the room for them is reserved.
use Rattle.std.specs.{Prelude.{◌≡◌, ◌+◌, ◌<◌, ◌==◌, List, [], ◌∷◌, ◌++◌, length, Bool, true, false, not, Option, Some, None, IsSome, if◌then◌else◌}, Option.is_some, Global.Vec}
use Rattle.cache_policy.specs.{declared.{bounds.TheConstants.MAX_MARKS, mark.{Mark.Mark, MarkStep.MarkStep}, history.History.History as HistoryInMemory}, Histories.{History, run_of}, Policy.{Ruling, Reply, Stand}}
use Rattle.cache_policy.specs.{Runs.{last_history, run_with_mark}, Turns.closes}
use Rattle.agent_core.specs.{declared.known_core.Start.Start, Cores.AtCore, Recording.{IsRoom, LastHasRoom}}
use Rattle.cache_policy.specs.declared.mark.MarkReply.TheVariants as reply

-- the step comes to the seat: it opens where that is free, and stands where it is held
abbrev pub comes_to_seat : Ruling → Bool
comes_to_seat (Reply reply.Open) = true
comes_to_seat (Reply other) = false
comes_to_seat Stand = true

-- whether a ticket is out after a step that makes a mark and isn't a Close, by whether one was, and whether the step comes to the seat
abbrev pub leaves_ticket : Bool → Bool → Bool
leaves_ticket true comes = not comes
leaves_ticket false comes = comes

-- the step begins a history while no ticket is out, or makes the last mark of one and leaves a ticket out; a Close does neither
abbrev pub needs_room : AtCore → MarkStep → Bool → Bool
needs_room core step_of comes =
    if is_some (closes step_of) then false
    else if core.count == MAX_MARKS then not (is_some core.held)
    else if core.count + 1 == MAX_MARKS then leaves_ticket (is_some core.held) comes
    else false

-- the last history isn't full
pub record HasPlace (histories : List History) : Type 0 where
  pub last : History
  pub last_is : last_history histories ≡ Some last
  pub few : length last.marks < MAX_MARKS

-- how the history after a core's one begins, where that is full
abbrev pub next_start : AtCore → Option Start
next_start core =
    if core.count == MAX_MARKS then Some (record { base = core.base + MAX_MARKS; held = core.held; stopped = core.stopped }) else None

-- the run with a history that begins so, and has this mark
abbrev pub begun : Start → List History → Mark → List History
begun start run mark = run ++ record { base = start.base; held = start.held; stopped = start.stopped; marks = mark ∷ [] } ∷ []

-- the run with one mark more
abbrev pub added : Option Start → List History → Mark → List History
added (Some start) run mark = begun start run mark
added None run mark = run_with_mark run mark

-- there is room for a mark
abbrev pub CanAdd : Option Start → Vec HistoryInMemory → Option (Vec Mark) → Type 0
CanAdd (Some start) histories next = IsSome next × IsRoom histories next
CanAdd None histories next = HasPlace (run_of histories.items) × LastHasRoom histories.items × IsRoom histories next
