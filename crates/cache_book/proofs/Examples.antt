-- The slots of worked histories, each by computation. One id and one session; the limits are the manual's.
use Rattle.std.specs.Prelude.{◌≡◌, ℕ, List, [], ◌∷◌, None, true, false, refl}
use Rattle.cache_policy.specs.declared.{mode.Mode.{Mode, TheVariants.{User, Ssh, Any}}, life.{Life.{Life, TheVariants.{Default, Endless, Seconds}}, Limits.Limits}, mark.{Way.TheVariants.Quiet, Mark.Mark, MarkStep.MarkStep}}
use Rattle.cache_policy.specs.{declared.{mark.{MarkStep.TheVariants.{Ask, Put, Clear, Flush}, MarkReply.{MarkReply, TheVariants.{Given, Done}}}, entry.Entry.Entry}, Lifetimes.ttl_of}
use Rattle.cache_book.specs.{declared.{modes.Modes.Modes, slot.Slot.Slot}, Slots.slots, Shelves.{touched, with_entry, cleared, swept}}

abbrev limits : Limits
limits = record { ttl = 600; max = 7200; ttl_ssh = 1800; max_ssh = 7200 }

abbrev name : List ℕ
name = 105 ∷ 100 ∷ 49 ∷ []

abbrev mark : MarkStep → MarkReply → ℕ → Mark
mark asked reply moment = record { session = record { pass = 0; count = 0 }; step = asked; reply = reply; moment = moment }

abbrev put : Mode → Life → ℕ → Mark
put mode life moment = mark (Put name mode life []) Done moment

abbrev shown : List Mark → ℕ → List Slot
shown marks moment = slots limits (record { base = 0; held = None; stopped = false; marks = marks }) moment

abbrev entry : ℕ → Mode → Life → ℕ → Entry
entry number mode life moment =
    record { number = number; id = name; mode = mode; secret = []; entered = moment; ttl = ttl_of limits mode life; max = 7200 }

abbrev all_modes : Modes
all_modes = record { normal = true; user = true; ssh = true; nonce = true; any = true }

abbrev but_user : Modes
but_user = record { normal = true; user = false; ssh = true; nonce = true; any = true }

abbrev user_alone : Modes
user_alone = record { normal = false; user = true; ssh = false; nonce = false; any = false }

abbrev slot : Entry → ℕ → Modes → Slot
slot e last modes = record { entry = e; last = last; modes = modes }

-- an entry under Any serves all modes, until a later one of its id takes one from it
two : shown (put Any Endless 0 ∷ put User (Seconds 10) 5 ∷ []) 15
    ≡ slot (entry 0 Any Endless 0) 0 but_user ∷ slot (entry 1 User (Seconds 10) 5) 5 user_alone ∷ []
two = refl

-- which it doesn't get back
one : shown (put Any Endless 0 ∷ put User (Seconds 10) 5 ∷ []) 16 ≡ slot (entry 0 Any Endless 0) 0 but_user ∷ []
one = refl

-- and a Clear in the mode of the later one takes both
cleared_both : shown (put Any Endless 0 ∷ put User (Seconds 10) 5 ∷ mark (Clear name User) Done 6 ∷ []) 6 ≡ []
cleared_both = refl

-- one in Ssh leaves the later one
cleared_one : shown (put Any Endless 0 ∷ put User (Seconds 10) 5 ∷ mark (Clear name Ssh) Done 6 ∷ []) 6
    ≡ slot (entry 1 User (Seconds 10) 5) 5 user_alone ∷ []
cleared_one = refl

-- a later entry that covers all hides the former one
hidden_whole : shown (put User Endless 0 ∷ put Any Default 5 ∷ []) 5 ≡ slot (entry 1 Any Default 5) 5 all_modes ∷ []
hidden_whole = refl

-- a use counts up to the greatest age
used : shown (put Any Default 0 ∷ mark (Ask name User Quiet None) (Given 0) 600 ∷ []) 1200 ≡ slot (entry 0 Any Default 0) 600 all_modes ∷ []
used = refl

used_up : shown (put Any Default 0 ∷ mark (Ask name User Quiet None) (Given 0) 600 ∷ []) 1201 ≡ []
used_up = refl

too_old : shown (put Any Endless 0 ∷ mark (Ask name User Quiet None) (Given 0) 7200 ∷ []) 7201 ≡ []
too_old = refl

flushed : shown (put Any Endless 0 ∷ mark Flush Done 0 ∷ put User Default 1 ∷ []) 1 ≡ slot (entry 2 User Default 1) 1 user_alone ∷ []
flushed = refl

-- the calls of a shelf, on the same two
by_calls : cleared name Ssh (with_entry (entry 1 User (Seconds 10) 5) (with_entry (entry 0 Any Endless 0) []))
    ≡ slot (entry 1 User (Seconds 10) 5) 5 user_alone ∷ []
by_calls = refl

by_touch : swept 700 (touched 0 600 (with_entry (entry 1 User (Seconds 10) 5) (with_entry (entry 0 Any Default 0) [])))
    ≡ slot (entry 0 Any Default 0) 600 but_user ∷ []
by_touch = refl
