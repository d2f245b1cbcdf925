-- A legal history stays legal by a mark that follows the policy, and by a turn-over.
use Rattle.std.specs.{Prelude.{◌≡◌, ℕ, ◌+◌, ◌<◌, ◌≤◌, List, [], ◌∷◌, ◌++◌, length, reverse, fold, max, Bool, true, false, not, ◌&&◌, Option, Some, None, IfSome, refl, cond, if◌then◌else◌}, List.{AllByRecursion, list_any}}
use Rattle.std.{specs.Option.{option_or, option_map, option_and_then}, proofs.{Common.{ap, sym, ◌∙◌, subst, arith, inl, inr}, lemmas.{Bool.ne_eqb, List.{append_assoc, append-nil, length_push}}, Math.{Bool.or-false, Nat.add-mod_right}}}
use Rattle.cache_policy.specs.declared.{bounds.TheConstants.{MAX_MARKS, MAX_MOMENT}, mode.Mode.Mode, life.{Life.{Life, TheVariants.Default}, Limits.Limits}, mark.{Under.Under, Way.{Way, TheVariants.{Quiet, Prompt}}, Mark.Mark}}
use Rattle.cache_policy.specs.declared.mark.{MarkStep.{MarkStep, TheVariants.{Ask, Seat, Close, Put, Clear, Flush, Peek, Stop}}, MarkReply.{MarkReply, TheVariants.{Given, Empty, Open, Done, Held as WhetherHeld, Stopping, Late}}}
use Rattle.cache_policy.specs.{declared.{entry.Entry.Entry, history.Held.Held}, Entry.{serves, within}, Lifetimes.{ttl_of, max_of, is_zero}, Histories.{History, next_number, start_of, with_marks, with_mark, moments}}
use Rattle.cache_policy.specs.{Entries.{entry_of, kept_under, kept, stored, entries_after, entries, AreNumbered}, Seat.{is_open, under_of, gives_back, last_open, unless_back, seat, stopped}, Live.{newest, gives, last_use, is_live, live}}
use Rattle.cache_policy.{specs.{Policy.{Reply, policy, prompt_ruling, ask_ruling}, Waits.is_late, Runs.{last_base, turn_over, moment_before}, Legal.{FollowsPolicy, NeverFall, IsLegal}}, proofs.Lists.{all_reverse, all_find, filter_none}}
use Rattle.cache_policy.proofs.OneMore.{next_number_with_mark, gone_newest, last_use_with_mark}

-- one mark more that follows the policy
pub follows_push : (limits : Limits) (start : History) (marks : List Mark) (mark : Mark) → FollowsPolicy limits start marks
    → policy limits (with_marks start marks) mark.step mark.moment ≡ Reply mark.reply
    → FollowsPolicy limits start (marks ++ mark ∷ [])
follows_push limits start [] mark follows rules =
    (ap (λ (marks : List Mark). policy limits (record start { marks = marks }) mark.step mark.moment) (sym (append-nil start.marks)) ∙ rules, tt)
follows_push limits start (first ∷ later) mark follows rules = (
  follows.0,
  follows_push limits (with_mark start first) later mark follows.1
      (ap (λ (marks : List Mark). policy limits (record start { marks = marks }) mark.step mark.moment) (append_assoc start.marks (first ∷ []) later) ∙ rules),
)

-- one mark more whose moment isn't below the last one
pub never_fall_push : (since : ℕ) (marks : List Mark) (mark : Mark) → NeverFall since marks
    → fold (λ _ (m : Mark). m.moment) since marks ≤ mark.moment → mark.moment ≤ MAX_MOMENT
    → NeverFall since (marks ++ mark ∷ [])
never_fall_push since [] mark moments later within = (later, within, tt)
never_fall_push since (first ∷ others) mark moments later within =
    (moments.0, moments.1, never_fall_push first.moment others mark moments.2 later within)

-- a legal history with one mark more is legal, where the mark follows the policy, has room, and its moment doesn't fall
pub legal_with_mark : (limits : Limits) (history : History) (mark : Mark) → IsLegal limits history
    → policy limits history mark.step mark.moment ≡ Reply mark.reply → moment_before history.marks ≤ mark.moment
    → mark.moment ≤ MAX_MOMENT → history.base < last_base → length history.marks < MAX_MARKS
    → IsLegal limits (with_mark history mark)
legal_with_mark limits history mark legal rules later within going few = record {
  replies = follows_push limits (start_of history) history.marks mark legal.replies rules;
  moments = never_fall_push 0 history.marks mark legal.moments later within;
  base = legal.base;
  not_spent = inl going;
  few = omega (arith, length_push history.marks mark);
  held = legal.held;
}

-- numbers that rise up to some bound rise up to a greater one
numbered_wider : (low : ℕ) (list : List Entry) (high higher : ℕ) → AreNumbered low list high → high ≤ higher → AreNumbered low list higher
numbered_wider low [] high higher numbered wider = omega (arith, numbered)
numbered_wider low (entry ∷ later) high higher numbered wider =
    (numbered.0, numbered_wider (entry.number + 1) later high higher numbered.1 wider)

-- and go on from there
numbered_append : (low : ℕ) (list more : List Entry) (mid high : ℕ) → AreNumbered low list mid → AreNumbered mid more high
    → AreNumbered low (list ++ more) high
numbered_append low [] [] mid high one two = omega (arith, one, two)
numbered_append low [] (entry ∷ later) mid high one two = (omega (arith, one, two.0), two.1)
numbered_append low (entry ∷ later) more mid high one two = (one.0, numbered_append (entry.number + 1) later more mid high one.1 two)

entry_numbered : (limits : Limits) (number moment : ℕ) (id : List ℕ) (mode : Mode) (life : Life) (secret : List ℕ)
    → AreNumbered number (entry_of limits number moment id mode life secret) (number + 1)
entry_numbered limits number moment id mode life secret =
    elim (is_zero (ttl_of limits mode life)) as (λ b. AreNumbered number (cond b [] (record { number = number; id = id; mode = mode; secret = secret; entered = moment; ttl = ttl_of limits mode life; max = max_of limits mode } ∷ []))
    (number + 1)) [
      | true ↦ omega arith
      | false ↦ (omega arith, omega arith)
    ]

kept_numbered : (limits : Limits) (number moment : ℕ) (under : Option Under) (keep : Option (List ℕ))
    → AreNumbered number (kept limits number moment under keep) (number + 1)
kept_numbered limits number moment (Some under) (Some secret) = entry_numbered limits number moment under.id under.mode Default secret
kept_numbered limits number moment (Some under) None = omega arith
kept_numbered limits number moment None keep = omega arith

-- what a step stores has the next number
pub stored_numbered : (limits : Limits) (before : History) (asked : MarkStep) (moment : ℕ)
    → AreNumbered (next_number before) (stored limits before asked moment) (next_number before + 1)
stored_numbered limits before (Put id mode life secret) moment = entry_numbered limits (next_number before) moment id mode life secret
stored_numbered limits before (Close ticket keep) moment = kept_numbered limits (next_number before) moment (kept_under (seat before) ticket) keep
stored_numbered limits before (Ask id mode way since) moment = omega arith
stored_numbered limits before (Seat under since) moment = omega arith
stored_numbered limits before (Clear id mode) moment = omega arith
stored_numbered limits before Flush moment = omega arith
stored_numbered limits before (Peek id mode) moment = omega arith
stored_numbered limits before Stop moment = omega arith

entries_after_numbered : (limits : Limits) (before : History) (marks : List Mark)
    → AreNumbered (next_number before) (entries_after limits before marks) (next_number before + length marks)
entries_after_numbered limits before [] = omega arith
entries_after_numbered limits before (mark ∷ later) =
    let more : AreNumbered (next_number (with_mark before mark)) (entries_after limits (with_mark before mark) later)
    (next_number (with_mark before mark) + length later) = entries_after_numbered limits (with_mark before mark) later in
    numbered_append (next_number before) (stored limits before mark.step mark.moment)
    (entries_after limits (with_mark before mark) later) (next_number before + 1) (next_number before + length (mark ∷ later))
    (stored_numbered limits before mark.step mark.moment)
    (subst (λ (n : ℕ). AreNumbered n (entries_after limits (with_mark before mark) later) (next_number before + length (mark ∷ later))) (next_number_with_mark before mark)
    (numbered_wider (next_number (with_mark before mark)) (entries_after limits (with_mark before mark) later)
    (next_number (with_mark before mark) + length later) (next_number before + length (mark ∷ later)) more (omega (arith, next_number_with_mark before mark))))

-- the entries of a history have the numbers of marks of it, which rise
pub entries_numbered : (limits : Limits) (history : History) → AreNumbered history.base (entries limits history) (next_number history)
entries_numbered limits history =
    numbered_wider history.base (entries limits history) (history.base + length history.marks) (next_number history)
    (subst (λ (n : ℕ). AreNumbered n (entries limits history) (n + length history.marks)) start (entries_after_numbered limits (start_of history) history.marks)) (omega arith)
  where
    start : next_number (start_of history) ≡ history.base
    start = omega arith

-- so each is below the next number
pub all_below : (low : ℕ) (list : List Entry) (high : ℕ) → AreNumbered low list high → AllByRecursion (λ entry. entry.number < high) list
all_below low [] high numbered = tt
all_below low (entry ∷ later) high numbered = (rises entry.number later high numbered.1, all_below (entry.number + 1) later high numbered.1)
  where
    rises : (number : ℕ) (list : List Entry) (high : ℕ) → AreNumbered (number + 1) list high → number < high
    rises number [] high h = omega (arith, h)
    rises number (first ∷ others) high h = omega (arith, h.0, rises first.number others high h.1)

-- the newest entry for a request is older than the next mark
pub newest_below : (limits : Limits) (history : History) (id : List ℕ) (mode : Mode)
    → IfSome (newest limits history id mode) (λ entry. entry.number < next_number history)
newest_below limits history id mode =
    all_find (λ entry. entry.number < next_number history) (serves id mode) (reverse (entries limits history))
    (all_reverse (λ entry. entry.number < next_number history) (entries limits history)
    (all_below history.base (entries limits history) (next_number history) (entries_numbered limits history)))

live_below : (limits : Limits) (history : History) (id : List ℕ) (mode : Mode) (moment : ℕ)
    → IfSome (live limits history id mode moment) (λ entry. entry.number < next_number history)
live_below limits history id mode moment = at (newest limits history id mode) (newest_below limits history id mode)
  where
    at : (o : Option Entry) → IfSome o (λ entry. entry.number < next_number history)
        → IfSome (option_and_then (λ entry. if is_live history moment entry then Some entry else None) o) (λ entry. entry.number < next_number history)
    at None h = tt
    at (Some entry) h = elim (is_live history moment entry) as (λ b. IfSome (cond b (Some entry) None) (λ e. e.number < next_number history)) [ true ↦ h | false ↦ tt ]

prompt_gives_none : (stops : Bool) (held : Option Held) (late : Bool) (number : ℕ) → prompt_ruling stops held late ≡ Reply (Given number) → ⊥
prompt_gives_none true held late number h = cc
prompt_gives_none false (Some ticket) true number h = cc
prompt_gives_none false (Some ticket) false number h = cc
prompt_gives_none false None late number h = cc

-- what the policy gives is older than the mark that it is given by
pub gives_older : (limits : Limits) (history : History) (asked : MarkStep) (moment number : ℕ)
    → policy limits history asked moment ≡ Reply (Given number) → number < next_number history
gives_older limits history (Ask id mode way since) moment number rules = by_live (live limits history id mode moment) way (live_below limits history id mode moment) rules
  where
    by_live : (o : Option Entry) (way : Way) → IfSome o (λ entry. entry.number < next_number history)
        → ask_ruling o way (stopped history) (seat history) (is_late since moment) ≡ Reply (Given number) → number < next_number history
    by_live (Some entry) way below is = let same : entry.number ≡ number = cc in omega (arith, below, same)
    by_live None Quiet below is = absurd (cc)
    by_live None Prompt below is = absurd (prompt_gives_none (stopped history) (seat history) (is_late since moment) number is)
gives_older limits history (Seat under since) moment number rules = absurd (prompt_gives_none (stopped history) (seat history) (is_late since moment) number rules)
gives_older limits history (Close ticket keep) moment number rules = cc
gives_older limits history (Put id mode life secret) moment number rules = cc
gives_older limits history (Clear id mode) moment number rules = cc
gives_older limits history Flush moment number rules = cc
gives_older limits history (Peek id mode) moment number rules = cc
gives_older limits history Stop moment number rules = cc

-- no mark of a legal history gives an entry with a number that is yet to come
none_gives : (limits : Limits) (start : History) (marks : List Mark) (number : ℕ) → FollowsPolicy limits start marks
    → next_number start + length marks ≤ number → AllByRecursion (λ mark. gives number mark.reply ≡ false) marks
none_gives limits start [] number follows later = tt
none_gives limits start (mark ∷ others) number follows later = (
  not_given mark.reply refl,
  none_gives limits (with_mark start mark) others number follows.1 (omega (arith, later, next_number_with_mark start mark)),
)
  where
    not_given : (reply : MarkReply) → mark.reply ≡ reply → gives number reply ≡ false
    not_given (Given other) is =
        let older : other < next_number start = gives_older limits start mark.step mark.moment other (follows.0 ∙ ap Reply is) in
        ne_eqb other number (λ e. omega (arith, older, later, e))
    not_given Empty is = refl
    not_given Open is = refl
    not_given Done is = refl
    not_given (WhetherHeld held) is = refl
    not_given Stopping is = refl
    not_given Late is = refl

pub unused_yet : (limits : Limits) (history : History) (number : ℕ) → IsLegal limits history → next_number history ≤ number
    → AllByRecursion (λ mark. gives number mark.reply ≡ false) history.marks
unused_yet limits history number legal later = none_gives limits (start_of history) history.marks number legal.replies (omega arith)

-- the number of a ticket that an Open mark gave is a mark's
last_open_below : (number : ℕ) (marks : List Mark)
    → IfSome (last_open number marks) (λ (found : Held × List Mark). found.0.ticket < number + length marks)
last_open_below number [] = tt
last_open_below number (mark ∷ later) =
    elim (last_open (number + 1) later) as (λ o. IfSome o (λ (found : Held × List Mark). found.0.ticket < number + 1 + length later)
    → IfSome (option_or o (if is_open mark.reply then Some (record { ticket = number; under = under_of mark.step }, later) else None))
    (λ (found : Held × List Mark). found.0.ticket < number + length (mark ∷ later))) [
      | Some found ↦ λ below. omega (arith, below)
      | None ↦ λ below. elim (is_open mark.reply) as (λ b. IfSome (cond b (Some (record { ticket = number; under = under_of mark.step }, later)) None)
          (λ (found : Held × List Mark). found.0.ticket < number + length (mark ∷ later))) [ true ↦ omega arith | false ↦ tt ]
    ] (last_open_below (number + 1) later)

-- a ticket that is out is older than the next mark
pub seat_below : (history : History) → IfSome history.held (λ held. held.ticket < history.base)
    → IfSome (seat history) (λ held. held.ticket < next_number history)
seat_below history older =
    by_found (option_or (last_open history.base history.marks) (option_map (λ held. (held, history.marks)) history.held))
    (elim (last_open history.base history.marks) as (λ o. IfSome o (λ (found : Held × List Mark). found.0.ticket < next_number history)
    → IfSome (option_or o (option_map (λ held. (held, history.marks)) history.held)) (λ (found : Held × List Mark). found.0.ticket < next_number history)) [
      | Some found ↦ λ below. below
      | None ↦ λ below. elim history.held as (λ h. IfSome h (λ held. held.ticket < history.base)
          → IfSome (option_map (λ held. (held, history.marks)) h) (λ (found : Held × List Mark). found.0.ticket < next_number history)) [
            | Some held ↦ λ below. omega (arith, below)
            | None ↦ λ below. tt
          ] older
    ] (last_open_below history.base history.marks))
  where
    by_found : (o : Option (Held × List Mark)) → IfSome o (λ (found : Held × List Mark). found.0.ticket < next_number history)
        → IfSome (option_and_then unless_back o) (λ held. held.ticket < next_number history)
    by_found None below = tt
    by_found (Some (held, later)) below = elim (list_any (λ (m : Mark). gives_back held.ticket m.step) later) as (λ b. IfSome (cond b None (Some held))
        (λ h. h.ticket < next_number history)) [ true ↦ tt | false ↦ below ]

-- the seat and 'stopped' are kept over a turn-over, and no entry is
pub seat_turn_over : (history : History) → seat (turn_over history) ≡ seat history
seat_turn_over history = elim (seat history) as (λ h. option_and_then unless_back (option_map (λ held. (held, [])) h) ≡ h) [ Some held ↦ refl | None ↦ refl ]

pub stopped_turn_over : (history : History) → stopped (turn_over history) ≡ stopped history
stopped_turn_over history = or-false (stopped history)

pub live_turn_over : (limits : Limits) (history : History) (id : List ℕ) (mode : Mode) (moment : ℕ)
    → live limits (turn_over history) id mode moment ≡ None
live_turn_over limits history id mode moment = refl

-- the history that follows a legal full one is legal
pub legal_turn_over : (limits : Limits) (history : History) → IsLegal limits history → length history.marks ≡ MAX_MARKS
    → IsLegal limits (turn_over history)
legal_turn_over limits history legal full = record {
  replies = tt;
  moments = tt;
  base = add-mod_right history.base MAX_MARKS ∙ legal.base;
  not_spent = inr refl;
  few = omega arith;
  held = elim (seat history) as (λ h. IfSome h (λ held. held.ticket < next_number history) → IfSome h (λ held. held.ticket < history.base + MAX_MARKS)) [
    | Some held ↦ λ below. omega (arith, below, full)
    | None ↦ λ below. tt
  ] (seat_below history legal.held);
}

-- an entry that the last mark stored, and didn't give, is live from its own moment on
pub is_live_stored : (limits : Limits) (history : History) (mark : Mark) (entry : Entry) (moment : ℕ) → IsLegal limits history
    → entry.number ≡ next_number history → gives entry.number mark.reply ≡ false
    → is_live (with_mark history mark) moment entry ≡ within entry entry.entered moment
is_live_stored limits history mark entry moment legal same kept =
    ap (λ (b : Bool). not b && within entry (last_use (with_mark history mark) entry) moment) (gone_newest history mark entry same)
    ∙ ap (λ (last : ℕ). within entry last moment)
    (last_use_with_mark history mark entry ∙ ap (λ (b : Bool). if b then max (last_use history entry) mark.moment else last_use history entry) kept ∙ never_used)
  where
    never_used : last_use history entry ≡ entry.entered
    never_used = ap (λ (marks : List Mark). fold max entry.entered (moments marks))
        (filter_none (λ (m : Mark). gives entry.number m.reply) history.marks (unused_yet limits history entry.number legal (omega (arith, same))))
