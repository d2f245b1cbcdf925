-- Histories: the marks that an agent made since it last began with an empty cache, with the number of the first, which
-- ticket was out by then and whether it had stopped. All of this is the project's own.
use Rattle.std.specs.Prelude.{ℕ, ◌+◌, ◌-◌, Bool, List, [], ◌∷◌, ◌++◌, length, drop, map, Option}
use Rattle.cache_policy.specs.declared.{mark.Mark.Mark, history.{Held.Held, History.History as HistoryInMemory}}

pub record History : Type 0 where
  pub base : ℕ
  pub held : Option Held
  pub stopped : Bool
  pub marks : List Mark

-- the history that a value of the program is, and the run that some of them are
abbrev pub history_of : HistoryInMemory → History
history_of value = record { base = value.base; held = value.held; stopped = value.stopped; marks = value.marks.0.items }

abbrev pub run_of : List HistoryInMemory → List History
run_of values = map history_of values

-- the number of a mark is the base plus its place: the number of the next one
abbrev pub next_number : History → ℕ
next_number history = history.base + length history.marks

-- the history as it began
abbrev pub start_of : History → History
start_of history = record history { marks = [] }

-- the history with more marks, and with one more
abbrev pub with_marks : History → List Mark → History
with_marks history more = record history { marks = history.marks ++ more }

abbrev pub with_mark : History → Mark → History
with_mark history mark = with_marks history (mark ∷ [])

-- the marks after the one with this number
abbrev pub marks_after : History → ℕ → List Mark
marks_after history number = drop (number + 1 - history.base) history.marks

-- the moments of the marks
abbrev pub moments : List Mark → List ℕ
moments marks = map (λ mark. mark.moment) marks
