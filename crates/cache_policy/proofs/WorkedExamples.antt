-- The definitions on worked examples, each by computation. One id and one session; the limits are the manual's.
use Rattle.std.{specs.Prelude.{◌≡◌, ℕ, ◌%◌, ◌^◌, List, [], ◌∷◌, ◌++◌, true, false, Some, None, refl}, proofs.Common.{inl, lit<, lit≤}}
use Rattle.agent_ports.specs.declared.session.SessionId.{SessionId}
use Rattle.cache_policy.specs.declared.{mode.Mode.{Mode, TheVariants.{Normal, User, Ssh, Any}}, life.{Life.{Life, TheVariants.{Default, Endless, Seconds}}, Limits.Limits}, mark.{Way.TheVariants.{Quiet, Prompt}, Mark.Mark}}
use Rattle.cache_policy.specs.declared.mark.{MarkStep.{MarkStep, TheVariants.{Ask, Seat, Close, Put, Clear, Flush, Peek, Stop}}, MarkReply.{MarkReply, TheVariants.{Given, Empty, Open, Done, Held as WhetherHeld, Stopping, Late}}}
use Rattle.cache_policy.specs.{declared.bounds.TheConstants.MAX_MARKS, Histories.History, Turns.since_when, Waits.since_by, Entries.entries, Seat.{seat, stopped}, Policy.{Ruling, Reply, Stand, policy}}
use Rattle.cache_policy.specs.{Runs.{turn_over, joined, last_base, moment_before, moment_of}, Legal.{FollowsPolicy, IsLegal, IsLegalRun}, OnePrompt.{before_close, NoneOpens, HasOnePrompt}}

abbrev limits : Limits
limits = record { ttl = 600; max = 7200; ttl_ssh = 1800; max_ssh = 7200 }

abbrev name : List ℕ
name = 105 ∷ 100 ∷ 49 ∷ []

abbrev word : List ℕ
word = 112 ∷ 119 ∷ []

abbrev mark : MarkStep → MarkReply → ℕ → Mark
mark step reply moment = record { session = record { pass = 0; count = 0 }; step = step; reply = reply; moment = moment }

-- a history of base 0 with these marks, nothing held and not stopped
abbrev of : List Mark → History
of marks = record { base = 0; held = None; stopped = false; marks = marks }

-- after these marks, the policy's answer to a step at a moment
abbrev answer : List Mark → MarkStep → ℕ → Ruling
answer marks step moment = policy limits (of marks) step moment

abbrev put : Mode → Life → ℕ → Mark
put mode life moment = mark (Put name mode life word) Done moment

abbrev ask : MarkReply → ℕ → Mark
ask reply moment = mark (Ask name User Quiet None) reply moment

-- an entry at its last second, and one past it
last_second : answer (put User (Seconds 10) 5 ∷ []) (Ask name User Quiet None) 15 ≡ Reply (Given 0)
last_second = refl

one_second_late : answer (put User (Seconds 10) 5 ∷ []) (Ask name User Quiet None) 16 ≡ Reply Empty
one_second_late = refl

-- each use starts the ttl again
used_again : answer (put Any Default 0 ∷ ask (Given 0) 600 ∷ ask (Given 0) 1200 ∷ []) (Ask name User Quiet None) 1800
    ≡ Reply (Given 0)
used_again = refl

used_late : answer (put Any Default 0 ∷ ask (Given 0) 600 ∷ ask (Given 0) 1200 ∷ []) (Ask name User Quiet None) 1801
    ≡ Reply Empty
used_late = refl

-- uses keep an entry up to its greatest age, and no longer
used_throughout : FollowsPolicy limits (of [])
    (put Any Default 0 ∷ ask (Given 0) 500 ∷ ask (Given 0) 1000 ∷ ask (Given 0) 1500 ∷ ask (Given 0) 2000 ∷ ask (Given 0) 2500
    ∷ ask (Given 0) 3000 ∷ ask (Given 0) 3500 ∷ ask (Given 0) 4000 ∷ ask (Given 0) 4500 ∷ ask (Given 0) 5000 ∷ ask (Given 0) 5500
    ∷ ask (Given 0) 6000 ∷ ask (Given 0) 6500 ∷ ask (Given 0) 7000 ∷ ask (Given 0) 7200 ∷ ask Empty 7201 ∷ [])
used_throughout =
    (refl, (refl, (refl, (refl, (refl, (refl, (refl, (refl, (refl, (refl, (refl, (refl, (refl, (refl, (refl, (refl, (refl, tt)))))))))))))))))

-- a look starts nothing again
looked_at : answer (put Any Default 0 ∷ mark (Peek name User) (WhetherHeld true) 600 ∷ [])
    (Ask name User Quiet None) 601 ≡ Reply Empty
looked_at = refl

-- the greatest age, and one second past it, also for an entry that is used all the time
greatest_age : answer (put Any Endless 0 ∷ ask (Given 0) 7000 ∷ []) (Ask name User Quiet None) 7200 ≡ Reply (Given 0)
greatest_age = refl

too_old : answer (put Any Endless 0 ∷ ask (Given 0) 7000 ∷ []) (Ask name User Quiet None) 7201 ≡ Reply Empty
too_old = refl

-- ssh has a default ttl of its own
ssh_ttl : answer (put Ssh Default 0 ∷ []) (Peek name Ssh) 1800 ≡ Reply (WhetherHeld true)
ssh_ttl = refl

-- a longer life under Any is hidden by a shorter one under User, for User alone and for good
hidden : FollowsPolicy limits (of [])
    (put Any Endless 0 ∷ put User (Seconds 10) 5 ∷ ask Empty 20 ∷ mark (Peek name Normal) (WhetherHeld true) 21 ∷ [])
hidden = (refl, (refl, (refl, (refl, tt))))

-- a Clear in User takes the one under Any too
cleared : FollowsPolicy limits (of [])
    (put Any Endless 0 ∷ put User (Seconds 10) 5 ∷ mark (Clear name User) Done 6 ∷ ask Empty 7
    ∷ mark (Peek name Normal) (WhetherHeld false) 8 ∷ [])
cleared = (refl, (refl, (refl, (refl, (refl, tt)))))

-- but one in Ssh leaves what is under User
cleared_elsewhere : answer (put User Endless 0 ∷ mark (Clear name Ssh) Done 6 ∷ []) (Ask name User Quiet None) 7
    ≡ Reply (Given 0)
cleared_elsewhere = refl

-- a flush takes everything, and a put after it serves again
flushed_away : answer (put User Endless 0 ∷ mark Flush Done 6 ∷ []) (Ask name User Quiet None) 7 ≡ Reply Empty
flushed_away = refl

flushed : answer (put User Endless 0 ∷ mark Flush Done 6 ∷ put User Endless 7 ∷ []) (Ask name User Quiet None) 8
    ≡ Reply (Given 2)
flushed = refl

-- a put with a ttl of 0 stores nothing, and hides nothing
stores_nothing : answer (put User Endless 0 ∷ put User (Seconds 0) 1 ∷ []) (Ask name User Quiet None) 2 ≡ Reply (Given 0)
stores_nothing = refl

-- one prompt at a time; what it ends with is kept by the Close of its ticket, and by no other
abbrev opened : List Mark
opened = mark (Ask name User Prompt None) Open 0 ∷ []

second_waits : answer opened (Ask name User Prompt None) 0 ≡ Stand
second_waits = refl

-- a step that stands before a held seat is late after a minute, unless an entry is live, the agent has stopped or the seat is free
second_waits_on : answer opened (Ask name User Prompt (Some 10)) 69 ≡ Stand
second_waits_on = refl

first_try_stands : answer opened (Ask name User Prompt None) 70 ≡ Stand
first_try_stands = refl

second_is_late : answer opened (Ask name User Prompt (Some 10)) 70 ≡ Reply Late
second_is_late = refl

late_for_the_seat : answer opened (Seat None (Some 10)) 70 ≡ Reply Late
late_for_the_seat = refl

late_but_free : answer (opened ++ mark (Close 0 None) Done 65 ∷ []) (Ask name User Prompt (Some 10)) 70 ≡ Reply Open
late_but_free = refl

late_but_given : answer (opened ++ put Any Default 65 ∷ []) (Ask name User Prompt (Some 10)) 70 ≡ Reply (Given 1)
late_but_given = refl

late_but_stopped : answer (opened ++ mark Stop Done 1 ∷ []) (Ask name User Prompt (Some 10)) 70 ≡ Reply Stopping
late_but_stopped = refl

quiet_is_never_late : answer opened (Ask name User Quiet (Some 10)) 70 ≡ Reply Empty
quiet_is_never_late = refl

-- a history with a step that stood, which is late and makes a mark
abbrev with_late : History
with_late = of (mark (Ask name User Prompt None) Open 0 ∷ mark (Ask name User Prompt (Some 10)) Late 70 ∷ mark (Close 0 None) Done 71 ∷ [])

late_is_legal : FollowsPolicy limits (of []) with_late.marks
late_is_legal = (refl, (refl, (refl, tt)))

late_leaves_the_seat : seat (of (mark (Seat None None) Open 0 ∷ mark (Seat None (Some 10)) Late 70 ∷ [])) ≡ Some (record { ticket = 0; under = None })
late_leaves_the_seat = refl

-- the wait that a step hands in counts for its own session alone
abbrev session : SessionId
session = record { pass = 0; count = 1 }

own_wait : since_by session (Some (record { session = session; since = 10 })) ≡ Some 10
own_wait = refl

wait_of_another : since_by session (Some (record { session = record { pass = 1; count = 1 }; since = 10 })) ≡ None
wait_of_another = refl

stands_since_now : since_when (Ask name User Prompt None) 69 ≡ 69
stands_since_now = refl

stands_since_then : since_when (Ask name User Prompt (Some 10)) 69 ≡ 10
stands_since_then = refl

kept : answer (opened ++ mark (Close 0 (Some word)) Done 1 ∷ []) (Ask name User Prompt None) 2 ≡ Reply (Given 1)
kept = refl

not_kept : answer (opened ++ mark (Close 0 None) Done 1 ∷ []) (Ask name User Prompt None) 2 ≡ Reply Open
not_kept = refl

foreign_ticket : answer (opened ++ mark (Close 5 (Some word)) Done 1 ∷ []) (Seat None None) 2 ≡ Stand
foreign_ticket = refl

kept_without_name : entries limits (of (mark (Seat None None) Open 0 ∷ mark (Close 0 (Some word)) Done 1 ∷ []))
    ≡ []
kept_without_name = refl

-- after a Stop no prompt is opened, and the cache goes on
stopping : answer (put User Endless 0 ∷ mark Stop Done 1 ∷ []) (Seat None None) 2 ≡ Reply Stopping
stopping = refl

still_given : answer (put User Endless 0 ∷ mark Stop Done 1 ∷ []) (Ask name User Prompt None) 2 ≡ Reply (Given 0)
still_given = refl

stopping_comes_first : answer (opened ++ mark Stop Done 1 ∷ []) (Ask name User Prompt None) 2 ≡ Reply Stopping
stopping_comes_first = refl

-- a ticket has the number of its Open, and what is kept by it has the default life
abbrev opened_later : List Mark
opened_later = put Ssh Endless 0 ∷ mark (Seat (Some (record { id = name; mode = User })) None) Open 1 ∷ []

its_number : seat (of opened_later) ≡ Some (record { ticket = 1; under = Some (record { id = name; mode = User }) })
its_number = refl

default_life : answer (opened_later ++ mark (Close 1 (Some word)) Done 5 ∷ []) (Ask name User Quiet None) 605
    ≡ Reply (Given 2)
default_life = refl

default_life_over : answer (opened_later ++ mark (Close 1 (Some word)) Done 5 ∷ []) (Ask name User Quiet None) 606
    ≡ Reply Empty
default_life_over = refl

foreign_keep : answer (opened_later ++ mark (Close 0 (Some word)) Done 5 ∷ []) (Ask name User Quiet None) 6 ≡ Reply Empty
foreign_keep = refl

closed_twice : answer (opened_later ++ mark (Close 1 None) Done 5 ∷ mark (Close 1 (Some word)) Done 6 ∷ [])
    (Ask name User Quiet None) 7 ≡ Reply Empty
closed_twice = refl

-- a ticket that was out at the start is closed in a later history, and the numbers go on from the base
abbrev later_history : List Mark → History
later_history marks = record {
  base = 131072;
  held = Some (record { ticket = 0; under = Some (record { id = name; mode = User }) });
  stopped = false;
  marks = marks;
}

still_out : policy limits (later_history []) (Seat None None) 9 ≡ Stand
still_out = refl

closed_later : policy limits (later_history (mark (Close 0 (Some word)) Done 9 ∷ []))
    (Ask name User Quiet None) 9 ≡ Reply (Given 131072)
closed_later = refl

-- such a history is legal, and so is the run of it alone
abbrev one_close : History
one_close = later_history (mark (Close 0 (Some word)) Done 9 ∷ ask (Given 131072) 10 ∷ [])

legal : IsLegal limits one_close
legal = record {
  replies = (refl, (refl, tt));
  moments = (lit≤ tt, lit≤ tt, (lit≤ tt, lit≤ tt, tt));
  base = refl;
  not_spent = inl (lit< tt);
  few = lit≤ tt;
  held = lit< tt;
}

legal_run : IsLegalRun limits (one_close ∷ [])
legal_run = record { turns_over = tt; each = (legal, tt); moments = legal.moments }

-- one prompt: the marks before the first Close of a ticket, or all where there is none
abbrev open_seat : Mark
open_seat = mark (Seat None None) Open 9

abbrev close : ℕ → Mark
close ticket = mark (Close ticket None) Done 9

up_to_the_close : before_close 0 (close 5 ∷ ask Empty 9 ∷ close 0 ∷ open_seat ∷ close 0 ∷ []) ≡ close 5 ∷ ask Empty 9 ∷ []
up_to_the_close = refl

never_closed : before_close 0 (close 5 ∷ open_seat ∷ []) ≡ close 5 ∷ open_seat ∷ []
never_closed = refl

-- a second Open after the ticket's Close, and one before the Close, since the ticket that opened there is 131073 and not 1
closed_between : NoneOpens (before_close 131073 (ask Empty 9 ∷ close 131073 ∷ open_seat ∷ []))
closed_between = (refl, tt)

opened_twice : HasOnePrompt (later_history []) (close 0 ∷ open_seat ∷ close 1 ∷ open_seat ∷ close 131073 ∷ []) → ⊥
opened_twice one =
    let none : true ≡ false = (one.opened (close 0 ∷ []) (close 1 ∷ open_seat ∷ close 131073 ∷ []) open_seat refl refl).1.0 in
    absurd (cc)

-- an Open before the Close of the ticket that was out at the start
opened_while_held : HasOnePrompt (later_history []) (ask Empty 9 ∷ open_seat ∷ close 0 ∷ []) → ⊥
opened_while_held one =
    let none : true ≡ false = one.held.1.0 in
    absurd (cc)

-- an agent is spent after a whole number of histories
spent_after_whole_histories : last_base % MAX_MARKS ≡ 0
spent_after_whole_histories = refl

-- readings that fall back, and readings past the greatest moment
reading_falls_back : moment_of 5 3 ≡ 5
reading_falls_back = refl

reading_is_cut : moment_of 5 (2 ^ 63) ≡ 2 ^ 62
reading_is_cut = refl

moment_of_the_last : moment_before (joined (one_close ∷ [])) ≡ 10
moment_of_the_last = refl

-- the next history goes on with the same ticket out, and stopped likewise
seat_turn_over : (history : History) → seat (turn_over history) ≡ seat history
seat_turn_over history = elim (seat history) as
    (λ held. seat (record { base = 0; held = held; stopped = false; marks = [] })
    ≡ held) [ None ↦ refl | Some held ↦ refl ]

stopped_turn_over : (history : History) → stopped (turn_over history) ≡ stopped history
stopped_turn_over history = elim (stopped history) as
    (λ b. stopped (record { base = 0; held = None; stopped = b; marks = [] }) ≡ b) [ true ↦ refl | false ↦ refl ]
