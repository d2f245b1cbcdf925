-- Steps of other sessions at a desk.
use Rattle.std.{specs.{Prelude.{◌≡◌, ℕ, List, Bool, true, false, Option, Some, None, IfSome, refl, if◌then◌else◌}, Option.is_some}, proofs.Common.{ap, sym, ◌∙◌, subst}}
use Rattle.{agent_ports.specs.{Readings.Readings, declared.session.SessionId.SessionId}, cache_policy.specs.{declared.{life.Limits.Limits, mark.MarkStep.MarkStep}, Histories.History}}
use Rattle.cache_policy.specs.{Turns.{Turn, Given, Empty, Open, Stand, Done, Held, Refused, Stopping, Late, closes}, Waits.is_session}
use Rattle.agent_core.specs.declared.{foreign.{Foreign.Foreign, ForeignStep.{ForeignStep, TheVariants.{Ask, Seat, CloseHeld, Put, Clear, Flush, Peek, Stop}}}, holder.Holder.Holder}
use Rattle.agent_core.specs.{Foreigners.{IsForeign, ticket_of, close_of, told_step, foreign_step, holder_after, opened}, Known.IsOut, Seating.Seated, Solos.{AtSolo, TakesReading, PlaysStep, played, passed_over}}
use Rattle.agent_core.proofs.Seating.{SeatMoves, IsNotOpen, opened as seat_opened, moved as seat_moved, stood as seat_stood, refused as seat_refused, ended as seat_ended, none_seated, their_out}
use Rattle.cache_policy.specs.declared.mark.MarkStep.TheVariants as mark

-- the other session's ticket, by its number
abbrev pub HasTicket : Option Holder → ℕ → Type 0
HasTicket holder number = (h : Holder) × (holder ≡ Some h) × (h.ticket ≡ number)

-- a Close that a session takes is of its own ticket
pub told_closes : (holder : Option Holder) (session : SessionId) (told : ForeignStep) (asked : MarkStep) → told_step (ticket_of holder session) told ≡ Some asked
    → IfSome (closes asked) (HasTicket holder)
told_closes holder session (Ask id mode way) asked is = let e : mark.Ask id mode way None ≡ asked = cc is in subst (λ (a : MarkStep). IfSome (closes a) (HasTicket holder)) e tt
told_closes holder session (Seat under) asked is = let e : mark.Seat under None ≡ asked = cc is in subst (λ (a : MarkStep). IfSome (closes a) (HasTicket holder)) e tt
told_closes holder session (Put id mode life secret) asked is = let e : mark.Put id mode life secret ≡ asked = cc is in subst (λ (a : MarkStep). IfSome (closes a) (HasTicket holder)) e tt
told_closes holder session (Clear id mode) asked is = let e : mark.Clear id mode ≡ asked = cc is in subst (λ (a : MarkStep). IfSome (closes a) (HasTicket holder)) e tt
told_closes holder session Flush asked is = let e : mark.Flush ≡ asked = cc is in subst (λ (a : MarkStep). IfSome (closes a) (HasTicket holder)) e tt
told_closes holder session (Peek id mode) asked is = let e : mark.Peek id mode ≡ asked = cc is in subst (λ (a : MarkStep). IfSome (closes a) (HasTicket holder)) e tt
told_closes holder session Stop asked is = let e : mark.Stop ≡ asked = cc is in subst (λ (a : MarkStep). IfSome (closes a) (HasTicket holder)) e tt
told_closes holder session (CloseHeld keep) asked is = by holder is
  where
    by : (h : Option Holder) → close_of (ticket_of h session) keep ≡ Some asked → IfSome (closes asked) (HasTicket h)
    by None is = absurd (cc is)
    by (Some h) is =
        elim (is_session session h.session) as (λ b. close_of (if b then Some h.ticket else None) keep ≡ Some asked → IfSome (closes asked) (HasTicket (Some h))) [
          | true ↦ λ is. let e : mark.Close h.ticket keep ≡ asked = cc is in subst (λ (a : MarkStep). IfSome (closes a) (HasTicket (Some h))) e (h, refl, refl)
          | false ↦ λ is. absurd (cc is)
        ] is

pub their_outs : (run : List History) (out : Option ℕ) (holder : Option Holder) (closed : Option ℕ) → IfSome closed (HasTicket holder)
    → Seated run out holder → IfSome closed (IsOut run)
their_outs run out holder None has seated = tt
their_outs run out holder (Some number) has seated = subst (IsOut run) has.2 (their_out run out holder has.0 has.1 seated)

-- a turn that gives a ticket
pub opened_is : (turn : Turn) (number : ℕ) → Some number ≡ opened turn → turn ≡ Open number
opened_is (Open other) number is = let e : other ≡ number = cc is in ap Open e
opened_is (Given grant) number is = absurd (cc is)
opened_is Empty number is = absurd (cc is)
opened_is (Stand wait) number is = absurd (cc is)
opened_is Done number is = absurd (cc is)
opened_is (Held held) number is = absurd (cc is)
opened_is Stopping number is = absurd (cc is)
opened_is Late number is = absurd (cc is)
opened_is Refused number is = absurd (cc is)

-- who has a ticket then
pub holder_opened : (holder : Option Holder) (session : SessionId) (asked : MarkStep) (turn : Turn) (number : ℕ) → Some number ≡ opened turn
    → Some (record { session = session; ticket = number }) ≡ holder_after holder session asked turn
holder_opened holder session asked turn number is =
    subst (λ (t : Turn). Some (record { session = session; ticket = number }) ≡ holder_after holder session asked t) (sym (opened_is turn number is)) refl

pub holder_shut : (holder : Option Holder) (session : SessionId) (asked : MarkStep) (turn : Turn) → ((number : ℕ) → Some number ≡ opened turn → ⊥)
    → (if is_some (closes asked) then None else holder) ≡ holder_after holder session asked turn
holder_shut holder session asked (Open number) none = absurd (none number refl)
holder_shut holder session asked (Given grant) none = refl
holder_shut holder session asked Empty none = refl
holder_shut holder session asked (Stand wait) none = refl
holder_shut holder session asked Done none = refl
holder_shut holder session asked (Held held) none = refl
holder_shut holder session asked Stopping none = refl
holder_shut holder session asked Late none = refl
holder_shut holder session asked Refused none = refl

-- the other session stays foreign
pub holder_foreign : (own session : SessionId) (holder : Option Holder) (asked : MarkStep) (turn : Turn) → is_session own session ≡ false
    → IfSome holder (λ h. is_session own h.session ≡ false) → IfSome (holder_after holder session asked turn) (λ h. is_session own h.session ≡ false)
holder_foreign own session holder asked (Open number) other was = other
holder_foreign own session holder asked (Given grant) other was = elim (is_some (closes asked)) as (λ b. IfSome (if b then None else holder) (λ h. is_session own h.session ≡ false)) [ true ↦ tt | false ↦ was ]
holder_foreign own session holder asked Empty other was = elim (is_some (closes asked)) as (λ b. IfSome (if b then None else holder) (λ h. is_session own h.session ≡ false)) [ true ↦ tt | false ↦ was ]
holder_foreign own session holder asked (Stand wait) other was = elim (is_some (closes asked)) as (λ b. IfSome (if b then None else holder) (λ h. is_session own h.session ≡ false)) [ true ↦ tt | false ↦ was ]
holder_foreign own session holder asked Done other was = elim (is_some (closes asked)) as (λ b. IfSome (if b then None else holder) (λ h. is_session own h.session ≡ false)) [ true ↦ tt | false ↦ was ]
holder_foreign own session holder asked (Held held) other was = elim (is_some (closes asked)) as (λ b. IfSome (if b then None else holder) (λ h. is_session own h.session ≡ false)) [ true ↦ tt | false ↦ was ]
holder_foreign own session holder asked Stopping other was = elim (is_some (closes asked)) as (λ b. IfSome (if b then None else holder) (λ h. is_session own h.session ≡ false)) [ true ↦ tt | false ↦ was ]
holder_foreign own session holder asked Late other was = elim (is_some (closes asked)) as (λ b. IfSome (if b then None else holder) (λ h. is_session own h.session ≡ false)) [ true ↦ tt | false ↦ was ]
holder_foreign own session holder asked Refused other was = elim (is_some (closes asked)) as (λ b. IfSome (if b then None else holder) (λ h. is_session own h.session ≡ false)) [ true ↦ tt | false ↦ was ]

-- a step that is played, by what it leaves
pub plays_step : (before : AtSolo) (foreign : Foreign) (asked : MarkStep) (turn : Turn) (limits : Limits) (run : List History) (clock : Readings) (holder : Option Holder)
    → IsForeign before.session foreign → Some asked ≡ foreign_step before.holder foreign
    → TakesReading before foreign.session asked turn (record before { limits = limits; run = run; clock = clock; holder = holder })
    → limits ≡ before.limits → holder ≡ holder_after before.holder foreign.session asked turn
    → PlaysStep before foreign (record before { limits = limits; run = run; clock = clock; holder = holder })
plays_step before foreign asked turn limits run clock holder other told takes same now =
    played asked turn other (sym told) takes
    (ap (λ (l : Limits). record before { limits = l; run = run; clock = clock; holder = holder }) same
    ∙ ap (λ (h : Option Holder). record before { run = run; clock = clock; holder = h }) now)

-- a ticket is given where nobody has one
pub opened_nobody : (run after : List History) (asked : MarkStep) (turn : Turn) (number : ℕ) (out : Option ℕ) (holder : Option Holder) → SeatMoves run asked turn after
    → Some number ≡ opened turn → Seated run out holder → holder ≡ None
opened_nobody run after asked turn number out holder (seat_opened n ticket more none now num) is seated = (none_seated run out holder more none seated).1
opened_nobody run after asked turn number out holder (seat_moved more other now) is seated = absurd (subst IsNotOpen (opened_is turn number is) other)
opened_nobody run after asked turn number out holder (seat_stood same) is seated = absurd (cc is)
opened_nobody run after asked turn number out holder (seat_refused same) is seated = absurd (cc is)
opened_nobody run after asked turn number out holder (seat_ended all same) is seated = absurd (cc is)

pub none_held : (closed : Bool) (holder now replaced : Option Holder) (found : Holder) → holder ≡ None → now ≡ (if closed then None else holder) → replaced ≡ now
    → replaced ≡ Some found → ⊥
none_held true holder now replaced found none is same some = cc (is, same, some)
none_held false holder now replaced found none is same some = cc (none, is, same, some)

pub plays_session : (before : AtSolo) (foreign : Foreign) (after : AtSolo) → PlaysStep before foreign after → after.session ≡ before.session
plays_session before foreign after (played asked turn other told takes same) = ap (λ (s : AtSolo). s.session) same
plays_session before foreign after (passed_over none same) = ap (λ (s : AtSolo). s.session) same
