-- Runs: one history after another, each beginning with an empty cache. All of this is the project's own.
use Rattle.std.specs.{Prelude.{◌≡◌, ℕ, ◌+◌, ◌^◌, ◌==◌, if◌then◌else◌, min, max, List, [], ◌∷◌, ◌++◌, length, fold, Bool, Option, Some, None}, List.flat_map}
use Rattle.cache_policy.specs.{declared.{bounds.TheConstants.{MAX_MARKS, MAX_MOMENT}, mark.Mark.Mark}, Histories.{History, start_of, with_mark}, Seat.{seat, stopped}}

-- the history that a full one is followed by: the base raised, the same ticket out, stopped likewise, and no marks
abbrev pub turn_over : History → History
turn_over history = record { base = history.base + MAX_MARKS; held = seat history; stopped = stopped history; marks = [] }

-- the history on which the next step is taken: the same, or where that has no room the one that follows it
abbrev pub next_history : History → History
next_history history = if length history.marks == MAX_MARKS then turn_over history else history

-- the base at which an agent is spent
abbrev pub last_base : ℕ
last_base = 2 ^ 62

-- the agent is spent: it answers Stopping to each step, and makes no mark any more
abbrev pub is_spent : History → Bool
is_spent history = history.base == last_base

-- the first history is full, and the second begins as the first one leaves it
pub record IsFollowedBy (history next : History) : Type 0 where
  pub full : length history.marks ≡ MAX_MARKS
  pub start : start_of next ≡ turn_over history

-- a run has at least one history, and each but the last is followed by the next
abbrev pub IsRun : List History → Type 0
IsRun [] = ⊥
IsRun (history ∷ []) = Unit {0}
IsRun (history ∷ next ∷ later) = IsFollowedBy history next × IsRun (next ∷ later)

-- the marks of all histories
abbrev pub joined : List History → List Mark
joined run = flat_map (λ history. history.marks) run

-- how the first history began
abbrev pub start_of_run : List History → Option History
start_of_run [] = None
start_of_run (history ∷ later) = Some (start_of history)

-- the later run extends the earlier: it began alike, and its marks go on from those of the earlier
pub record Extends (earlier later : List History) : Type 0 where
  pub start : start_of_run later ≡ start_of_run earlier
  pub more : List Mark
  pub marks : joined later ≡ joined earlier ++ more

-- the moment of the last mark of a run, and 0 where it has none
abbrev pub moment_before : List Mark → ℕ
moment_before marks = fold (λ _ mark. mark.moment) 0 marks

-- the moment of a step: its reading, cut, or the moment of the last mark where that is greater
abbrev pub moment_of : ℕ → ℕ → ℕ
moment_of before reading = max before (min reading MAX_MOMENT)

-- the last history of a run, on which it goes on
abbrev pub last_history : List History → Option History
last_history [] = None
last_history (history ∷ []) = Some history
last_history (history ∷ next ∷ later) = last_history (next ∷ later)

-- the run with one mark more, on the history that is next
abbrev pub run_with_mark : List History → Mark → List History
run_with_mark [] mark = []
run_with_mark (history ∷ []) mark =
    if length history.marks == MAX_MARKS then history ∷ with_mark (turn_over history) mark ∷ [] else with_mark history mark ∷ []
run_with_mark (history ∷ next ∷ later) mark = history ∷ run_with_mark (next ∷ later) mark
