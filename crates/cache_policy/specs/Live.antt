-- Newest, gone, last use and live: which passphrase a request is given. A use starts the ttl again, and the maximum age
-- never starts again (the GnuPG manual, `default-cache-ttl` and `max-cache-ttl`). That a newer entry hides an older one
-- for good, and what clears what, is this project's own.
use Rattle.std.specs.{Prelude.{ℕ, ◌==◌, List, Bool, true, false, ◌&&◌, not, max, Option, Some, None, if◌then◌else◌, find, filter, fold, reverse}, Option.option_and_then, List.list_any}
use Rattle.cache_policy.specs.{declared.{mode.Mode.Mode, life.Limits.Limits, mark.{MarkStep.{MarkStep, TheVariants.{Clear, Flush}}, MarkReply.{MarkReply, TheVariants.Given}}, entry.Entry.Entry}, Mode.covers, Entry.{same_id, serves, within}}
use Rattle.cache_policy.specs.{Histories.{History, marks_after, moments}, Entries.entries}

-- the last of the entries that serve a request
abbrev pub newest_of : List ℕ → Mode → List Entry → Option Entry
newest_of id mode list = find (serves id mode) (reverse list)

-- the last entry stored under the id in a mode that covers the asked one
abbrev pub newest : Limits → History → List ℕ → Mode → Option Entry
newest limits history id mode = newest_of id mode (entries limits history)

-- the step takes the entry away: a Clear of its id in a mode that its mode covers, or a Flush
abbrev pub takes_away : Entry → MarkStep → Bool
takes_away entry (Clear id mode) = same_id entry.id id && covers entry.mode mode
takes_away entry Flush = true
takes_away entry _ = false

-- the entry was taken away after it was stored
abbrev pub gone : History → Entry → Bool
gone history entry = list_any (λ mark. takes_away entry mark.step) (marks_after history entry.number)

-- the entry with this number was given
abbrev pub gives : ℕ → MarkReply → Bool
gives number (Given other) = other == number
gives number _ = false

-- the last use: the greatest of the moment at which it was stored and those at which it was given
abbrev pub last_use : History → Entry → ℕ
last_use history entry =
    fold max entry.entered (moments (filter (λ mark. gives entry.number mark.reply) history.marks))

-- the entry may be given at this moment: it is not gone, and within both lifetimes
abbrev pub is_live : History → ℕ → Entry → Bool
is_live history moment entry = not (gone history entry) && within entry (last_use history entry) moment

-- the entry that a request at this moment is given: the newest, where that is live. No older one is looked at
abbrev pub live : Limits → History → List ℕ → Mode → ℕ → Option Entry
live limits history id mode moment =
    option_and_then (λ entry. if is_live history moment entry then Some entry else None) (newest limits history id mode)
