-- A tally counts the marks of a run, the answers among them that a client sees, the entries stored, and the steps that take some away.
-- This is the project's own.
use Rattle.std.specs.{Prelude.{◌≤◌, ℕ, ◌+◌, List, length, Bool, true, false, ◌||◌}, List.filter}
use Rattle.cache_policy.specs.{declared.{life.Limits.Limits, mark.{Mark.Mark, MarkStep.{MarkStep, TheVariants.{Clear, Flush}}, MarkReply.{MarkReply, TheVariants.{Given, Empty}}}, tally.Tally.Tally}, Histories.History, Entries.entries}
use Rattle.cache_policy.specs.Seat.{is_open, is_stop, stopped}

abbrev pub is_given : MarkReply → Bool
is_given (Given number) = true
is_given _ = false

abbrev pub is_empty : MarkReply → Bool
is_empty Empty = true
is_empty _ = false

abbrev pub is_clear : MarkStep → Bool
is_clear (Clear id mode) = true
is_clear _ = false

abbrev pub is_flush : MarkStep → Bool
is_flush Flush = true
is_flush _ = false

-- how many marks pass a test
abbrev pub how_many : (Mark → Bool) → List Mark → ℕ
how_many passes marks = length (filter passes marks)

-- the tally with one history more
abbrev pub with_history : Limits → Tally → History → Tally
with_history limits before history = record {
  marks = before.marks + length history.marks;
  given = before.given + how_many (λ mark. is_given mark.reply) history.marks;
  empty = before.empty + how_many (λ mark. is_empty mark.reply) history.marks;
  opened = before.opened + how_many (λ mark. is_open mark.reply) history.marks;
  stored = before.stored + length (entries limits history);
  cleared = before.cleared + how_many (λ mark. is_clear mark.step) history.marks;
  flushed = before.flushed + how_many (λ mark. is_flush mark.step) history.marks;
  stopped = stopped history;
}

abbrev pub nothing_yet : Tally
nothing_yet = record { marks = 0; given = 0; empty = 0; opened = 0; stored = 0; cleared = 0; flushed = 0; stopped = false }

-- one, where a test passes
abbrev pub one_if : Bool → ℕ
one_if true = 1
one_if false = 0

-- the tally with one mark more, which stored so many entries
abbrev pub with_one : Tally → Mark → ℕ → Tally
with_one tally mark stores = record {
  marks = tally.marks + 1;
  given = tally.given + one_if (is_given mark.reply);
  empty = tally.empty + one_if (is_empty mark.reply);
  opened = tally.opened + one_if (is_open mark.reply);
  stored = tally.stored + stores;
  cleared = tally.cleared + one_if (is_clear mark.step);
  flushed = tally.flushed + one_if (is_flush mark.step);
  stopped = tally.stopped || is_stop mark.step;
}

-- no count is above that of the marks
pub record IsSound (tally : Tally) : Type 0 where
  pub given : tally.given ≤ tally.marks
  pub empty : tally.empty ≤ tally.marks
  pub opened : tally.opened ≤ tally.marks
  pub stored : tally.stored ≤ tally.marks
  pub cleared : tally.cleared ≤ tally.marks
  pub flushed : tally.flushed ≤ tally.marks
