-- The seat at the one prompt, and whether the agent has stopped opening prompts. Both are this project's own.
use Rattle.std.specs.{Prelude.{ℕ, ◌+◌, ◌==◌, List, [], ◌∷◌, Bool, true, false, ◌||◌, if◌then◌else◌, Option, Some, None}, Option.{option_or, option_map, option_and_then}, List.list_any}
use Rattle.cache_policy.specs.{declared.{mark.{Under.Under, Mark.Mark, MarkStep.{MarkStep, TheVariants.{Ask, Seat, Close, Stop}}, MarkReply.{MarkReply, TheVariants.Open}}, history.Held.Held}, Histories.History}

-- what a ticket that this step opens is kept under: an Ask names its id and mode, a Seat its own
abbrev pub under_of : MarkStep → Option Under
under_of (Ask id mode way since) = Some (record { id = id; mode = mode })
under_of (Seat under since) = under
under_of _ = None

abbrev pub is_open : MarkReply → Bool
is_open Open = true
is_open _ = false

-- the step gives back the ticket with this number
abbrev pub gives_back : ℕ → MarkStep → Bool
gives_back ticket (Close other keep) = other == ticket
gives_back ticket _ = false

abbrev pub is_stop : MarkStep → Bool
is_stop Stop = true
is_stop _ = false

-- the ticket of the last Open mark, which has that mark's number, with the marks after it; the first mark has `number`
abbrev pub last_open : ℕ → List Mark → Option (Held × List Mark)
last_open number [] = None
last_open number (mark ∷ later) = option_or (last_open (number + 1) later)
    (if is_open mark.reply then Some (record { ticket = number; under = under_of mark.step }, later) else None)

-- the ticket, unless one of the marks after it gives it back
abbrev pub unless_back : Held × List Mark → Option Held
unless_back (held, later) = if list_any (λ mark. gives_back held.ticket mark.step) later then None else Some held

-- the ticket, unless this step gives it back
abbrev pub unless_given_back : MarkStep → Held → Option Held
unless_given_back asked held = if gives_back held.ticket asked then None else Some held

-- the ticket that is out: the last Open mark's, or where there is no such mark the one held at the start, unless it was
-- given back since
abbrev pub seat : History → Option Held
seat history = option_and_then unless_back
    (option_or (last_open history.base history.marks) (option_map (λ held. (held, history.marks)) history.held))

-- the agent has stopped: it had at the start, or a Stop came
abbrev pub stopped : History → Bool
stopped history = history.stopped || list_any (λ mark. is_stop mark.step) history.marks
