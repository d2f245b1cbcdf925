-- Entries: what the marks of a history stored. A passphrase is cached by a preset, or when a prompt ends (the GnuPG
-- manual's agent protocol, PRESET_PASSPHRASE and GET_PASSPHRASE). That a ttl of 0 stores nothing is this project's own.
use Rattle.std.specs.{Prelude.{ℕ, ◌+◌, ◌≤◌, ◌==◌, List, [], ◌∷◌, ◌++◌, Option, Some, None, if◌then◌else◌}, Option.option_and_then}
use Rattle.cache_policy.specs.declared.{mode.Mode.Mode, life.{Life.{Life, TheVariants.Default}, Limits.Limits}, mark.{Under.Under, Mark.Mark, MarkStep.{MarkStep, TheVariants.{Put, Close}}}, entry.Entry.Entry, history.Held.Held}
use Rattle.cache_policy.specs.{Lifetimes.{ttl_of, max_of, is_zero}, Histories.{History, next_number, start_of, with_mark}, Seat.seat}

-- the entry of a passphrase that is stored; none where the effective ttl is 0
abbrev pub entry_of : Limits → ℕ → ℕ → List ℕ → Mode → Life → List ℕ → List Entry
entry_of limits number moment id mode life secret =
    let ttl : Option ℕ = ttl_of limits mode life in
    if is_zero ttl then [] else record {
      number = number;
      id = id;
      mode = mode;
      secret = secret;
      entered = moment;
      ttl = ttl;
      max = max_of limits mode;
    } ∷ []

-- what a ticket's passphrase is kept under: the ticket is the held one, and it names an id and a mode
abbrev pub kept_under : Option Held → ℕ → Option Under
kept_under held ticket = option_and_then (λ h. if h.ticket == ticket then h.under else None) held

-- the entry of a passphrase that is kept at the end of a prompt, with the default life
abbrev pub kept : Limits → ℕ → ℕ → Option Under → Option (List ℕ) → List Entry
kept limits number moment (Some under) (Some secret) = entry_of limits number moment under.id under.mode Default secret
kept limits number moment _ _ = []

-- what a step stores, at a moment after this history
abbrev pub stored : Limits → History → MarkStep → ℕ → List Entry
stored limits before (Put id mode life secret) moment = entry_of limits (next_number before) moment id mode life secret
stored limits before (Close ticket keep) moment =
    kept limits (next_number before) moment (kept_under (seat before) ticket) keep
stored limits before _ moment = []

-- what marks store, each after the marks before it
abbrev pub entries_after : Limits → History → List Mark → List Entry
entries_after limits before [] = []
entries_after limits before (mark ∷ later) =
    stored limits before mark.step mark.moment ++ entries_after limits (with_mark before mark) later

-- the entries of a history
abbrev pub entries : Limits → History → List Entry
entries limits history = entries_after limits (start_of history) history.marks

-- the numbers of these entries rise, from the first bound on and below the second
abbrev pub AreNumbered : ℕ → List Entry → ℕ → Type 0
AreNumbered low [] high = low ≤ high
AreNumbered low (entry ∷ later) high = (low ≤ entry.number) × AreNumbered (entry.number + 1) later high
