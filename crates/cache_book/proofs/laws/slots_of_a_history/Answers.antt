use Rattle.std.{specs.Prelude.{◌≡◌, ℕ, [], ◌∷◌, false, refl}, proofs.Common.ap}
use Rattle.cache_policy.specs.{declared.{mark.MarkStep.{MarkStep, TheVariants.{Ask, Seat, Close, Put, Clear, Flush, Peek, Stop}}, life.Limits.Limits, entry.Entry.Entry}, Histories.History, Entries.stored, Live.{takes_away, gives}}
use Rattle.cache_book.proofs.{Marking.{slots_later, slots_same, slots_flushed, slots_cleared}, Storing.{slots_given, slots_stored}, Live.{grant_is_live, none_live, live_is_live}}
use Rattle.cache_book.proofs.laws.slots_of_a_history.Goals as goal

pub returns-clause-later : goal.returns-clause-later
returns-clause-later c = λ limits history now later h. slots_later limits history now later h

pub returns-clause-same : goal.returns-clause-same
returns-clause-same c = λ limits history mark moment none keeps unused. slots_same limits history mark moment none keeps unused

pub returns-clause-cleared : goal.returns-clause-cleared
returns-clause-cleared c = λ limits history mark moment id mode is done.
    slots_cleared limits history mark moment id mode (ap (λ (s : MarkStep). stored limits history s mark.moment) is)
    (λ entry. ap (takes_away entry) is) (λ number. ap (gives number) done)

pub returns-clause-flushed : goal.returns-clause-flushed
returns-clause-flushed c = λ limits history mark moment is.
    slots_flushed limits history mark moment (ap (λ (s : MarkStep). stored limits history s mark.moment) is) (λ entry. ap (takes_away entry) is)

pub returns-clause-found : goal.returns-clause-found
returns-clause-found c = λ limits history id mode moment grant from. (grant_is_live limits history id mode moment grant from).live_is

pub returns-clause-none : goal.returns-clause-none
returns-clause-none c = λ limits history id mode moment none. none_live limits history id mode moment none

pub returns-clause-given : goal.returns-clause-given
returns-clause-given c = λ limits history mark id mode way since entry is lives given.
    slots_given limits history mark entry.number (ap (λ (s : MarkStep). stored limits history s mark.moment) is)
    (λ other. ap (takes_away other) is) (λ number. ap (gives number) given)
    (λ other known same. live_is_live limits history id mode mark.moment entry other lives known same)

-- what stores takes nothing away
keeps : (limits : Limits) (history : History) (step_of : MarkStep) (moment : ℕ) (entry other : Entry)
    → stored limits history step_of moment ≡ entry ∷ [] → takes_away other step_of ≡ false
keeps limits history (Ask id mode way since) moment entry other is = refl
keeps limits history (Seat under since) moment entry other is = refl
keeps limits history (Close ticket keep) moment entry other is = refl
keeps limits history (Put id mode life secret) moment entry other is = refl
keeps limits history (Clear id mode) moment entry other is = cc
keeps limits history Flush moment entry other is = cc
keeps limits history (Peek id mode) moment entry other is = refl
keeps limits history Stop moment entry other is = refl

pub returns-clause-stored : goal.returns-clause-stored
returns-clause-stored c = λ limits history mark entry legal is number entered done.
    slots_stored limits history mark entry (record {
      legal = legal;
      stored_is = is;
      number = number;
      entered = entered;
      keeps = λ other. keeps limits history mark.step mark.moment entry other is;
      unused = λ n. ap (gives n) done;
    })
