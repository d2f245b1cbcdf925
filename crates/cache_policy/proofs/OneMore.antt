-- A history that goes on by one mark: its seat, whether it has stopped, and which entries are gone, used, newest and live.
use Rattle.std.specs.{Prelude.{◌≡◌, ℕ, ◌+◌, ◌-◌, ◌<◌, List, [], ◌∷◌, ◌++◌, length, drop, reverse, find, filter, fold, max, Bool, true, false, not, ◌&&◌, ◌||◌, Option, Some, None, refl, cond, if◌then◌else◌}, List.list_any}
use Rattle.std.{specs.Option.{option_or, option_map, option_and_then}, proofs.{Common.{ap, sym, ◌∙◌, arith}, lemmas.List.{map-append, length_push, reverse-append, drop-append-le, Elements.filter-append}}}
use Rattle.std.proofs.{lemmas.List.{Folds.{find-append, list_any-append}, Sums.fold-append}, Math.{Bool.{or_assoc, or-false}, Seq.drop-append-add}}
use Rattle.cache_policy.specs.{declared.{mode.Mode.Mode, life.Limits.Limits, mark.Mark.Mark, entry.Entry.Entry, history.Held.Held}, Entry.{serves, within}, Histories.{History, next_number, with_mark, marks_after, moments}}
use Rattle.cache_policy.specs.{Entries.{stored, entries}, Seat.{under_of, is_open, gives_back, is_stop, last_open, unless_back, unless_given_back, seat, stopped}, Live.{newest_of, newest, takes_away, gone, gives, last_use, is_live}}
use Rattle.cache_policy.proofs.EntriesLemmas.{entries_with_mark}

pub next_number_with_mark : (history : History) (mark : Mark) → next_number (with_mark history mark) ≡ next_number history + 1
next_number_with_mark history mark = omega (arith, length_push history.marks mark)

-- it has stopped where it had, or where the mark is a Stop
pub stopped_with_mark : (history : History) (mark : Mark) → stopped (with_mark history mark) ≡ (stopped history || is_stop mark.step)
stopped_with_mark history mark =
    ap (λ (b : Bool). history.stopped || b)
    (list_any-append (λ (m : Mark). is_stop m.step) history.marks (mark ∷ []) ∙ ap (λ (b : Bool). list_any (λ (m : Mark). is_stop m.step) history.marks || b) (or-false (is_stop mark.step)))
    ∙ sym (or_assoc history.stopped (list_any (λ (m : Mark). is_stop m.step) history.marks) (is_stop mark.step))

-- an entry that was stored before is gone where it was, or where the mark takes it away
pub gone_with_mark : (history : History) (mark : Mark) (entry : Entry) → entry.number < next_number history
    → gone (with_mark history mark) entry ≡ (gone history entry || takes_away entry mark.step)
gone_with_mark history mark entry older =
    ap (λ (marks : List Mark). list_any (λ (m : Mark). takes_away entry m.step) marks)
    (drop-append-le (entry.number + 1 - history.base) history.marks (mark ∷ []) (omega arith))
    ∙ list_any-append (λ (m : Mark). takes_away entry m.step) (marks_after history entry.number) (mark ∷ [])
    ∙ ap (λ (b : Bool). gone history entry || b) (or-false (takes_away entry mark.step))

-- an entry that the mark itself stored isn't
pub gone_newest : (history : History) (mark : Mark) (entry : Entry) → entry.number ≡ next_number history → gone (with_mark history mark) entry ≡ false
gone_newest history mark entry same =
    let place : entry.number + 1 - history.base ≡ length history.marks + 1 = omega (arith, same) in
    ap (λ (k : ℕ). list_any (λ (m : Mark). takes_away entry m.step) (drop k (history.marks ++ mark ∷ []))) place
    ∙ ap (λ (marks : List Mark). list_any (λ (m : Mark). takes_away entry m.step) marks) (drop-append-add history.marks (mark ∷ []) 1)

-- the last use is the mark's moment, where that gives the entry and is later
pub last_use_with_mark : (history : History) (mark : Mark) (entry : Entry)
    → last_use (with_mark history mark) entry ≡ (if gives entry.number mark.reply then max (last_use history entry) mark.moment else last_use history entry)
last_use_with_mark history mark entry =
    ap (λ (marks : List Mark). fold max entry.entered (moments marks)) (filter-append given history.marks (mark ∷ []))
    ∙ ap (λ (all : List ℕ). fold max entry.entered all) (map-append (λ (m : Mark). m.moment) (filter given history.marks) (filter given (mark ∷ [])))
    ∙ fold-append max entry.entered (moments (filter given history.marks)) (moments (filter given (mark ∷ [])))
    ∙ elim (given mark) as (λ b. fold max (last_use history entry) (moments (cond b (mark ∷ []) []))
    ≡ cond b (max (last_use history entry) mark.moment) (last_use history entry)) [ true ↦ refl | false ↦ refl ]
  where
    given : Mark → Bool
    given m = gives entry.number m.reply

-- the newest of more entries is that of the later ones, if they have one
pub newest_of_append : (id : List ℕ) (mode : Mode) (list more : List Entry)
    → newest_of id mode (list ++ more) ≡ option_or (newest_of id mode more) (newest_of id mode list)
newest_of_append id mode list more =
    ap (find (serves id mode)) (reverse-append list more) ∙ find-append (serves id mode) (reverse more) (reverse list)

pub newest_with_mark : (limits : Limits) (history : History) (mark : Mark) (id : List ℕ) (mode : Mode)
    → newest limits (with_mark history mark) id mode ≡ option_or (newest_of id mode (stored limits history mark.step mark.moment)) (newest limits history id mode)
newest_with_mark limits history mark id mode =
    ap (newest_of id mode) (entries_with_mark limits history mark)
    ∙ newest_of_append id mode (entries limits history) (stored limits history mark.step mark.moment)

-- the same ticket, with one mark more after it
abbrev later_by : Mark → Held × List Mark → Held × List Mark
later_by mark (held, later) = (held, later ++ mark ∷ [])

-- the last Open mark of more marks is the one more, or else the one before
last_open_with_mark : (number : ℕ) (marks : List Mark) (mark : Mark)
    → last_open number (marks ++ mark ∷ [])
    ≡ (if is_open mark.reply then Some (record { ticket = number + length marks; under = under_of mark.step }, []) else option_map (later_by mark) (last_open number marks))
last_open_with_mark number [] mark =
    ap (λ (n : ℕ). if is_open mark.reply then Some (record { ticket = n; under = under_of mark.step }, []) else None) (omega arith)
last_open_with_mark number (first ∷ marks) mark =
    ap (λ o. option_or o (at_first (marks ++ mark ∷ []))) (last_open_with_mark (number + 1) marks mark)
    ∙ elim (is_open mark.reply) as (λ b. option_or (cond b (Some (record { ticket = number + 1 + length marks; under = under_of mark.step }, []))
    (option_map (later_by mark) (last_open (number + 1) marks))) (at_first (marks ++ mark ∷ []))
    ≡ cond b (Some (record { ticket = number + length (first ∷ marks); under = under_of mark.step }, [])) (option_map (later_by mark) (option_or (last_open (number + 1) marks) (at_first marks)))) [
      | true ↦ ap (λ (n : ℕ). Some (record { ticket = n; under = under_of mark.step }, [])) (omega arith)
      | false ↦ elim (last_open (number + 1) marks) as (λ o. option_or (option_map (later_by mark) o) (at_first (marks ++ mark ∷ [])) ≡ option_map (later_by mark) (option_or o (at_first marks))) [
        | Some found ↦ refl
        | None ↦ elim (is_open first.reply) as (λ b. cond b (Some (record { ticket = number; under = under_of first.step }, marks ++ mark ∷ [])) None
            ≡ option_map (later_by mark) (cond b (Some (record { ticket = number; under = under_of first.step }, marks)) None)) [ true ↦ refl | false ↦ refl ]
      ]
    ]
  where
    at_first : List Mark → Option (Held × List Mark)
    at_first later = if is_open first.reply then Some (record { ticket = number; under = under_of first.step }, later) else None

unless_back_later : (mark : Mark) (found : Held × List Mark)
    → unless_back (later_by mark found) ≡ option_and_then (unless_given_back mark.step) (unless_back found)
unless_back_later mark (held, later) =
    ap (λ (b : Bool). cond b None (Some held))
    (list_any-append (λ (m : Mark). gives_back held.ticket m.step) later (mark ∷ [])
    ∙ ap (λ (b : Bool). list_any (λ (m : Mark). gives_back held.ticket m.step) later || b) (or-false (gives_back held.ticket mark.step)))
    ∙ elim (list_any (λ (m : Mark). gives_back held.ticket m.step) later) as (λ b. cond (b || gives_back held.ticket mark.step) None (Some held)
    ≡ option_and_then (unless_given_back mark.step) (cond b None (Some held))) [ true ↦ refl | false ↦ refl ]

-- an Open mark's ticket is out after it; after any other mark the one that was out, unless that mark gives it back
pub seat_with_mark : (history : History) (mark : Mark)
    → seat (with_mark history mark)
    ≡ (if is_open mark.reply then Some (record { ticket = next_number history; under = under_of mark.step }) else option_and_then (unless_given_back mark.step) (seat history))
seat_with_mark history mark =
    ap (λ o. option_and_then unless_back (option_or o (option_map (λ held. (held, history.marks ++ mark ∷ [])) history.held)))
    (last_open_with_mark history.base history.marks mark)
    ∙ elim (is_open mark.reply) as (λ b. option_and_then unless_back (option_or (cond b (Some (record { ticket = next_number history; under = under_of mark.step }, []))
    (option_map (later_by mark) (last_open history.base history.marks))) (option_map (λ held. (held, history.marks ++ mark ∷ [])) history.held))
    ≡ cond b (Some (record { ticket = next_number history; under = under_of mark.step })) (option_and_then (unless_given_back mark.step) (seat history))) [
      | true ↦ refl
      | false ↦ elim (last_open history.base history.marks) as (λ o. option_and_then unless_back (option_or (option_map (later_by mark) o)
          (option_map (λ held. (held, history.marks ++ mark ∷ [])) history.held))
          ≡ option_and_then (unless_given_back mark.step) (option_and_then unless_back (option_or o (option_map (λ held. (held, history.marks)) history.held)))) [
            | Some found ↦ unless_back_later mark found
            | None ↦ elim history.held as (λ h. option_and_then unless_back (option_map (λ held. (held, history.marks ++ mark ∷ [])) h)
                ≡ option_and_then (unless_given_back mark.step) (option_and_then unless_back (option_map (λ held. (held, history.marks)) h))) [
                  | Some held ↦ unless_back_later mark (held, history.marks)
                  | None ↦ refl
                ]
          ]
    ]

-- an entry that was stored before is live after the mark where that doesn't take it away, and by its last use up to there
pub is_live_with_mark : (history : History) (mark : Mark) (entry : Entry) (moment : ℕ) → entry.number < next_number history
    → is_live (with_mark history mark) moment entry ≡ (not (gone history entry || takes_away entry mark.step)
    && within entry (if gives entry.number mark.reply then max (last_use history entry) mark.moment else last_use history entry) moment)
is_live_with_mark history mark entry moment older =
    ap (λ (b : Bool). not b && within entry (last_use (with_mark history mark) entry) moment) (gone_with_mark history mark entry older)
    ∙ ap (λ (last : ℕ). not (gone history entry || takes_away entry mark.step) && within entry last moment) (last_use_with_mark history mark entry)
