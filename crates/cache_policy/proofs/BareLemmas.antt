-- The policy reads no byte of a secret: seat, entries, live and replies are those of the history without them.
use Rattle.std.specs.{Prelude.{◌≡◌, ℕ, ◌+◌, ◌-◌, List, [], ◌∷◌, ◌++◌, length, map, reverse, find, filter, fold, max, Bool, true, false, not, ◌&&◌, ◌||◌, Option, Some, None, refl, cond, if◌then◌else◌}, List.list_any}
use Rattle.std.{specs.Option.{option_or, option_map, option_and_then, is_some}, proofs.{Common.{ap, sym, ◌∙◌, subst, arith, inl, inr, suc}, lemmas.List.{map-append, drop-map}}}
use Rattle.cache_policy.specs.declared.{mode.Mode.Mode, life.{Life.{Life, TheVariants.Default}, Limits.Limits}, mark.{Under.Under, Way.{Way, TheVariants.{Quiet, Prompt}}, Mark.Mark, MarkStep.MarkStep}}
use Rattle.cache_policy.specs.{declared.{mark.{MarkStep.TheVariants.{Ask, Seat, Close, Put, Clear, Flush, Peek, Stop}, MarkReply.TheVariants.Held as WhetherHeld}, entry.Entry.Entry, history.Held.Held}, Entry.{serves, within}}
use Rattle.cache_policy.specs.{Lifetimes.{ttl_of, max_of, is_zero}, Histories.{History, next_number, start_of, with_mark, marks_after, moments}, Entries.{entry_of, kept_under, kept, stored, entries_after, entries}}
use Rattle.cache_policy.specs.{Seat.{under_of, is_open, gives_back, is_stop, last_open, unless_back, seat, stopped}, Live.{newest, takes_away, gone, gives, last_use, is_live, live}, Policy.{Reply, policy, prompt_ruling, ask_ruling}}
use Rattle.cache_policy.{specs.{Waits.is_late, Legal.{FollowsPolicy, NeverFall, IsLegal}, Bare.{bare_step, bare_mark, bare, bare_entry}}, proofs.Lists.{map_reverse, find_map}}

module _ {A : Type 0} (change : A → A) (test other : A → Bool) (same : (x : A) → test (change x) ≡ other x) where
  any_map : (xs : List A) → list_any test (map change xs) ≡ list_any other xs
  any_map [] = refl
  any_map (x ∷ xs) = ap (λ (b : Bool). b || list_any test (map change xs)) (same x) ∙ ap (λ (b : Bool). other x || b) (any_map xs)

  filter_map : (xs : List A) → filter test (map change xs) ≡ map change (filter other xs)
  filter_map [] = refl
  filter_map (x ∷ xs) =
      ap (λ (b : Bool). cond b (change x ∷ filter test (map change xs)) (filter test (map change xs))) (same x)
      ∙ elim (other x) as (λ b. cond b (change x ∷ filter test (map change xs)) (filter test (map change xs)) ≡ map change (cond b (x ∷ filter other xs) (filter other xs)))
      [ true ↦ ap (λ (l : List A). change x ∷ l) (filter_map xs) | false ↦ filter_map xs ]

length_bare : (marks : List Mark) → length (map bare_mark marks) ≡ length marks
length_bare [] = refl
length_bare (mark ∷ later) = ap (λ (n : ℕ). suc n) (length_bare later)

under_bare : (asked : MarkStep) → under_of (bare_step asked) ≡ under_of asked
under_bare (Ask id mode way since) = refl
under_bare (Seat under since) = refl
under_bare (Close ticket keep) = refl
under_bare (Put id mode life secret) = refl
under_bare (Clear id mode) = refl
under_bare Flush = refl
under_bare (Peek id mode) = refl
under_bare Stop = refl

back_bare : (ticket : ℕ) (asked : MarkStep) → gives_back ticket (bare_step asked) ≡ gives_back ticket asked
back_bare ticket (Ask id mode way since) = refl
back_bare ticket (Seat under since) = refl
back_bare ticket (Close other keep) = refl
back_bare ticket (Put id mode life secret) = refl
back_bare ticket (Clear id mode) = refl
back_bare ticket Flush = refl
back_bare ticket (Peek id mode) = refl
back_bare ticket Stop = refl

stop_bare : (asked : MarkStep) → is_stop (bare_step asked) ≡ is_stop asked
stop_bare (Ask id mode way since) = refl
stop_bare (Seat under since) = refl
stop_bare (Close ticket keep) = refl
stop_bare (Put id mode life secret) = refl
stop_bare (Clear id mode) = refl
stop_bare Flush = refl
stop_bare (Peek id mode) = refl
stop_bare Stop = refl

away_bare : (entry : Entry) (asked : MarkStep) → takes_away (bare_entry entry) (bare_step asked) ≡ takes_away entry asked
away_bare entry (Ask id mode way since) = refl
away_bare entry (Seat under since) = refl
away_bare entry (Close ticket keep) = refl
away_bare entry (Put id mode life secret) = refl
away_bare entry (Clear id mode) = refl
away_bare entry Flush = refl
away_bare entry (Peek id mode) = refl
away_bare entry Stop = refl

pub stopped_bare : (history : History) → stopped (bare history) ≡ stopped history
stopped_bare history = ap (λ (b : Bool). history.stopped || b) (any_map bare_mark (λ (m : Mark). is_stop m.step) (λ (m : Mark). is_stop m.step) (λ m. stop_bare m.step) history.marks)

abbrev bare_found : Held × List Mark → Held × List Mark
bare_found (held, later) = (held, map bare_mark later)

last_open_bare : (number : ℕ) (marks : List Mark) → last_open number (map bare_mark marks) ≡ option_map bare_found (last_open number marks)
last_open_bare number [] = refl
last_open_bare number (mark ∷ later) =
    ap (λ (o : Option (Held × List Mark)). option_or o (if is_open mark.reply then Some (record { ticket = number; under = under_of (bare_step mark.step) }, map bare_mark later) else None)) (last_open_bare (number + 1) later)
    ∙ ap (λ (u : Option Under). option_or (option_map bare_found (last_open (number + 1) later)) (if is_open mark.reply then Some (record { ticket = number; under = u }, map bare_mark later) else None)) (under_bare mark.step)
    ∙ elim (last_open (number + 1) later) as (λ o. option_or (option_map bare_found o) (if is_open mark.reply then Some (record { ticket = number; under = under_of mark.step }, map bare_mark later) else None)
    ≡ option_map bare_found (option_or o (if is_open mark.reply then Some (record { ticket = number; under = under_of mark.step }, later) else None))) [
      | Some found ↦ refl
      | None ↦ elim (is_open mark.reply) as (λ b. cond b (Some (record { ticket = number; under = under_of mark.step }, map bare_mark later)) None
          ≡ option_map bare_found (cond b (Some (record { ticket = number; under = under_of mark.step }, later)) None)) [ true ↦ refl | false ↦ refl ]
    ]

unless_back_bare : (found : Held × List Mark) → unless_back (bare_found found) ≡ unless_back found
unless_back_bare (held, later) = ap (λ (b : Bool). cond b None (Some held)) (any_map bare_mark (λ (m : Mark). gives_back held.ticket m.step) (λ (m : Mark). gives_back held.ticket m.step) (λ m. back_bare held.ticket m.step) later)

pub seat_bare : (history : History) → seat (bare history) ≡ seat history
seat_bare history =
    ap (λ (o : Option (Held × List Mark)). option_and_then unless_back (option_or o (option_map (λ held. (held, map bare_mark history.marks)) history.held))) (last_open_bare history.base history.marks)
    ∙ elim (last_open history.base history.marks) as (λ o. option_and_then unless_back (option_or (option_map bare_found o) (option_map (λ held. (held, map bare_mark history.marks)) history.held))
    ≡ option_and_then unless_back (option_or o (option_map (λ held. (held, history.marks)) history.held))) [
      | Some found ↦ unless_back_bare found
      | None ↦ elim history.held as (λ h. option_and_then unless_back (option_map (λ held. (held, map bare_mark history.marks)) h) ≡ option_and_then unless_back (option_map (λ held. (held, history.marks)) h)) [
        | Some held ↦ unless_back_bare (held, history.marks)
        | None ↦ refl
      ]
    ]

entry_bare : (limits : Limits) (number moment : ℕ) (id : List ℕ) (mode : Mode) (life : Life) (secret : List ℕ)
    → entry_of limits number moment id mode life [] ≡ map bare_entry (entry_of limits number moment id mode life secret)
entry_bare limits number moment id mode life secret =
    elim (is_zero (ttl_of limits mode life)) as (λ b. cond b [] (record { number = number; id = id; mode = mode; secret = []; entered = moment; ttl = ttl_of limits mode life; max = max_of limits mode } ∷ [])
    ≡ map bare_entry (cond b [] (record { number = number; id = id; mode = mode; secret = secret; entered = moment; ttl = ttl_of limits mode life; max = max_of limits mode } ∷ []))) [ true ↦ refl | false ↦ refl ]

kept_bare : (limits : Limits) (number moment : ℕ) (under : Option Under) (keep : Option (List ℕ))
    → kept limits number moment under (option_map (λ secret. []) keep) ≡ map bare_entry (kept limits number moment under keep)
kept_bare limits number moment None None = refl
kept_bare limits number moment None (Some secret) = refl
kept_bare limits number moment (Some under) None = refl
kept_bare limits number moment (Some under) (Some secret) = entry_bare limits number moment under.id under.mode Default secret

next_number_bare : (history : History) → next_number (bare history) ≡ next_number history
next_number_bare history = ap (λ (n : ℕ). history.base + n) (length_bare history.marks)

stored_bare : (limits : Limits) (before : History) (asked : MarkStep) (moment : ℕ)
    → stored limits (bare before) (bare_step asked) moment ≡ map bare_entry (stored limits before asked moment)
stored_bare limits before (Put id mode life secret) moment =
    ap (λ (n : ℕ). entry_of limits n moment id mode life []) (next_number_bare before) ∙ entry_bare limits (next_number before) moment id mode life secret
stored_bare limits before (Close ticket keep) moment =
    ap (λ (n : ℕ). kept limits n moment (kept_under (seat (bare before)) ticket) (option_map (λ secret. []) keep)) (next_number_bare before)
    ∙ ap (λ (held : Option Held). kept limits (next_number before) moment (kept_under held ticket) (option_map (λ secret. []) keep)) (seat_bare before)
    ∙ kept_bare limits (next_number before) moment (kept_under (seat before) ticket) keep
stored_bare limits before (Ask id mode way since) moment = refl
stored_bare limits before (Seat under since) moment = refl
stored_bare limits before (Clear id mode) moment = refl
stored_bare limits before Flush moment = refl
stored_bare limits before (Peek id mode) moment = refl
stored_bare limits before Stop moment = refl

entries_after_bare : (limits : Limits) (before : History) (marks : List Mark)
    → entries_after limits (bare before) (map bare_mark marks) ≡ map bare_entry (entries_after limits before marks)
entries_after_bare limits before [] = refl
entries_after_bare limits before (mark ∷ later) =
    ap (λ (list : List Entry). list ++ entries_after limits (with_mark (bare before) (bare_mark mark)) (map bare_mark later)) (stored_bare limits before mark.step mark.moment)
    ∙ ap (λ (marks : List Mark). map bare_entry (stored limits before mark.step mark.moment) ++ entries_after limits (record (bare before) { marks = marks }) (map bare_mark later)) (sym (map-append bare_mark before.marks (mark ∷ [])))
    ∙ ap (λ (list : List Entry). map bare_entry (stored limits before mark.step mark.moment) ++ list) (entries_after_bare limits (with_mark before mark) later)
    ∙ sym (map-append bare_entry (stored limits before mark.step mark.moment) (entries_after limits (with_mark before mark) later))

pub entries_bare : (limits : Limits) (history : History) → entries limits (bare history) ≡ map bare_entry (entries limits history)
entries_bare limits history = entries_after_bare limits (start_of history) history.marks

pub newest_bare : (limits : Limits) (history : History) (id : List ℕ) (mode : Mode)
    → newest limits (bare history) id mode ≡ option_map bare_entry (newest limits history id mode)
newest_bare limits history id mode =
    ap (λ (list : List Entry). find (serves id mode) (reverse list)) (entries_bare limits history)
    ∙ ap (find (serves id mode)) (sym (map_reverse bare_entry (entries limits history)))
    ∙ find_map bare_entry (serves id mode) (λ entry. refl) (reverse (entries limits history))

gone_bare : (history : History) (entry : Entry) → gone (bare history) (bare_entry entry) ≡ gone history entry
gone_bare history entry =
    ap (list_any (λ (m : Mark). takes_away (bare_entry entry) m.step)) (drop-map bare_mark (entry.number + 1 - history.base) history.marks)
    ∙ any_map bare_mark (λ (m : Mark). takes_away (bare_entry entry) m.step) (λ (m : Mark). takes_away entry m.step) (λ m. away_bare entry m.step) (marks_after history entry.number)

moments_bare : (marks : List Mark) → moments (map bare_mark marks) ≡ moments marks
moments_bare [] = refl
moments_bare (mark ∷ later) = ap (λ (list : List ℕ). mark.moment ∷ list) (moments_bare later)

pub last_use_bare : (history : History) (entry : Entry) → last_use (bare history) (bare_entry entry) ≡ last_use history entry
last_use_bare history entry =
    ap (λ (marks : List Mark). fold max entry.entered (moments marks)) (filter_map bare_mark (λ (m : Mark). gives entry.number m.reply) (λ (m : Mark). gives entry.number m.reply) (λ m. refl) history.marks)
    ∙ ap (fold max entry.entered) (moments_bare (filter (λ (m : Mark). gives entry.number m.reply) history.marks))

pub live_bare : (limits : Limits) (history : History) (id : List ℕ) (mode : Mode) (moment : ℕ)
    → live limits (bare history) id mode moment ≡ option_map bare_entry (live limits history id mode moment)
live_bare limits history id mode moment =
    ap (option_and_then (λ entry. if is_live (bare history) moment entry then Some entry else None)) (newest_bare limits history id mode)
    ∙ at (newest limits history id mode)
  where
    at : (o : Option Entry) → option_and_then (λ entry. if is_live (bare history) moment entry then Some entry else None) (option_map bare_entry o)
        ≡ option_map bare_entry (option_and_then (λ entry. if is_live history moment entry then Some entry else None) o)
    at None = refl
    at (Some entry) =
        ap (λ (b : Bool). if (not b && within (bare_entry entry) (last_use (bare history) (bare_entry entry)) moment) then Some (bare_entry entry) else None) (gone_bare history entry)
        ∙ ap (λ (last : ℕ). if (not (gone history entry) && within entry last moment) then Some (bare_entry entry) else None) (last_use_bare history entry)
        ∙ elim (is_live history moment entry) as (λ b. cond b (Some (bare_entry entry)) None ≡ option_map bare_entry (cond b (Some entry) None)) [ true ↦ refl | false ↦ refl ]

-- a step is ruled as it is without the bytes of secrets
pub policy_bare : (limits : Limits) (history : History) (asked : MarkStep) (moment : ℕ)
    → policy limits (bare history) (bare_step asked) moment ≡ policy limits history asked moment
policy_bare limits history (Ask id mode way since) moment =
    ap (λ (o : Option Entry). ask_ruling o way (stopped (bare history)) (seat (bare history)) (is_late since moment)) (live_bare limits history id mode moment)
    ∙ ap (λ (stops : Bool). ask_ruling (option_map bare_entry (live limits history id mode moment)) way stops (seat (bare history)) (is_late since moment)) (stopped_bare history)
    ∙ ap (λ (held : Option Held). ask_ruling (option_map bare_entry (live limits history id mode moment)) way (stopped history) held (is_late since moment)) (seat_bare history)
    ∙ by_number (live limits history id mode moment) way
  where
    by_number : (o : Option Entry) (way : Way)
        → ask_ruling (option_map bare_entry o) way (stopped history) (seat history) (is_late since moment)
        ≡ ask_ruling o way (stopped history) (seat history) (is_late since moment)
    by_number None Quiet = refl
    by_number None Prompt = refl
    by_number (Some entry) way = refl
policy_bare limits history (Seat under since) moment =
    ap (λ (stops : Bool). prompt_ruling stops (seat (bare history)) (is_late since moment)) (stopped_bare history)
    ∙ ap (λ (held : Option Held). prompt_ruling (stopped history) held (is_late since moment)) (seat_bare history)
policy_bare limits history (Peek id mode) moment =
    ap (λ (o : Option Entry). Reply (WhetherHeld (is_some o))) (live_bare limits history id mode moment)
    ∙ elim (live limits history id mode moment) as (λ o. Reply (WhetherHeld (is_some (option_map bare_entry o))) ≡ Reply (WhetherHeld (is_some o))) [ Some entry ↦ refl | None ↦ refl ]
policy_bare limits history (Close ticket keep) moment = refl
policy_bare limits history (Put id mode life secret) moment = refl
policy_bare limits history (Clear id mode) moment = refl
policy_bare limits history Flush moment = refl
policy_bare limits history Stop moment = refl

follows_bare : (limits : Limits) (before : History) (marks : List Mark) → FollowsPolicy limits before marks
    → FollowsPolicy limits (bare before) (map bare_mark marks)
follows_bare limits before [] follows = tt
follows_bare limits before (mark ∷ later) follows = (
  policy_bare limits before mark.step mark.moment ∙ follows.0,
  subst (λ (marks : List Mark). FollowsPolicy limits (record before { marks = marks }) (map bare_mark later)) (map-append bare_mark before.marks (mark ∷ []))
      (follows_bare limits (with_mark before mark) later follows.1),
)

never_fall_bare : (since : ℕ) (marks : List Mark) → NeverFall since marks → NeverFall since (map bare_mark marks)
never_fall_bare since [] moments = tt
never_fall_bare since (mark ∷ later) moments = (moments.0, moments.1, never_fall_bare mark.moment later moments.2)

-- a legal history is legal without the bytes of its secrets
pub legal_bare : (limits : Limits) (history : History) → IsLegal limits history → IsLegal limits (bare history)
legal_bare limits history legal = record {
  replies = follows_bare limits (start_of history) history.marks legal.replies;
  moments = never_fall_bare 0 history.marks legal.moments;
  base = legal.base;
  not_spent = elim legal.not_spent [
    | inl going ↦ inl going
    | inr none ↦ inr (ap (map bare_mark) none)
  ];
  few = omega (arith, legal.few, length_bare history.marks);
  held = legal.held;
}
