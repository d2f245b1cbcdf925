-- The plain book: a cache that is given puts alone, and what it has to do with histories. It is this project's own.
use Rattle.std.specs.{Prelude.{◌≡◌, ℕ, ◌+◌, List, [], ◌++◌, map, Bool, true, false, Option, Some, None, if◌then◌else◌}, Option.option_and_then, List.AllByRecursion}
use Rattle.agent_ports.specs.declared.session.SessionId.{SessionId}
use Rattle.cache_policy.specs.{declared.{mode.Mode.Mode, life.{Life.Life, Limits.Limits}, mark.{Way.Way, Mark.Mark, MarkStep.{MarkStep, TheVariants.{Ask, Put}}, MarkReply.{MarkReply, TheVariants.Done}}, entry.Entry.Entry}, Entry.within}
use Rattle.cache_policy.specs.{Histories.{History, next_number}, Entries.{entry_of, entries}, Live.newest_of}

pub record Book : Type 0 where
  -- what was stored, the oldest first
  pub entries : List Entry
  -- how many puts there were: the number of the next one
  pub puts : ℕ
  -- the moment of the last put, and 0 where there was none
  pub latest : ℕ

abbrev pub empty_book : Book
empty_book = record { entries = []; puts = 0; latest = 0 }

-- the book after a put
abbrev pub after_put : Limits → Book → ℕ → List ℕ → Mode → Life → List ℕ → Book
after_put limits book moment id mode life secret = record {
  entries = book.entries ++ entry_of limits book.puts moment id mode life secret;
  puts = book.puts + 1;
  latest = moment;
}

-- the newest entry for a request, where the moment is within both its lifetimes, counted from when it was stored
abbrev pub found : List Entry → List ℕ → Mode → ℕ → Option Entry
found list id mode moment =
    option_and_then (λ entry. if within entry entry.entered moment then Some entry else None) (newest_of id mode list)

-- a put as a mark
abbrev pub put_mark : SessionId → ℕ → List ℕ → Mode → Life → List ℕ → Mark
put_mark session moment id mode life secret =
    record { session = session; step = Put id mode life secret; reply = Done; moment = moment }

-- an ask as a mark
abbrev pub ask_mark : SessionId → ℕ → List ℕ → Mode → Way → Option ℕ → MarkReply → Mark
ask_mark session moment id mode way since reply =
    record { session = session; step = Ask id mode way since; reply = reply; moment = moment }

abbrev pub is_put : MarkStep → Bool
is_put (Put id mode life secret) = true
is_put _ = false

abbrev pub is_put_or_ask : MarkStep → Bool
is_put_or_ask (Put id mode life secret) = true
is_put_or_ask (Ask id mode way since) = true
is_put_or_ask _ = false

-- the mark is of a put
pub record IsPut (mark : Mark) : Type 0 where
  pub step : is_put mark.step ≡ true
  pub reply : mark.reply ≡ Done

-- the book was given the marks of this history, which are puts
pub record IsBookOf (limits : Limits) (history : History) (book : Book) : Type 0 where
  pub puts : AllByRecursion IsPut history.marks
  pub numbers : next_number history ≡ book.puts
  pub same : entries limits history ≡ book.entries

-- the mark is of a put or an ask
abbrev pub IsPutOrAsk : Mark → Type 0
IsPutOrAsk mark = is_put_or_ask mark.step ≡ true

-- the entry has no ttl
abbrev pub IsEndless : Entry → Type 0
IsEndless entry = entry.ttl ≡ None

-- an entry, numbers aside
abbrev pub unnumbered : Entry → Entry
unnumbered entry = record entry { number = 0 }

-- the book was given the puts of this history, which are endless; the other marks are asks, which leave the book alone.
-- So its entries are the history's, numbers aside
pub record IsEndlessBookOf (limits : Limits) (history : History) (book : Book) : Type 0 where
  pub steps : AllByRecursion IsPutOrAsk history.marks
  pub endless : AllByRecursion IsEndless book.entries
  pub same : map unnumbered (entries limits history) ≡ map unnumbered book.entries
