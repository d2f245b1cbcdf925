-- Whether a step comes to the seat, by the policy.
use Rattle.std.specs.{Prelude.{◌≡◌, ℕ, ◌+◌, ◌<◌, ◌≤◌, ◌==◌, ◌&&◌, List, Bool, true, false, not, Option, Some, None, IsSome, refl, ◌⊎◌, if◌then◌else◌}, Option.{is_some, option_and_then}}
use Rattle.std.proofs.{Common.{ap, sym, ◌∙◌, subst, inl, inr, arith}, lemmas.Bool.Decides.nat_tests}
use Rattle.{agent_ports.specs.declared.session.SessionId.SessionId, cache_policy.specs.declared.{bounds.TheConstants.{MAX_MARKS, MAX_MOMENT}, entry.Entry.Entry, grant.Grant.Grant, history.Held.Held as Ticket, life.Limits.Limits}}
use Rattle.cache_policy.specs.declared.{mode.Mode.Mode, mark.{MarkReply.MarkReply, MarkStep.{MarkStep, TheVariants.{Ask, Seat, Close, Put, Clear, Flush, Peek, Stop}}, Under.Under, Way.{Way, TheVariants.{Quiet, Prompt}}}}
use Rattle.cache_policy.specs.{Histories.{History, next_number, with_mark}, Policy.{Ruling, Reply, Stand, policy, prompt_ruling, ask_ruling}, Legal.IsLegal, Runs.{next_history, moment_of}}
use Rattle.cache_policy.{specs.{Seat.{seat, stopped, is_open, under_of, unless_given_back}, Turns.{Refused, FitsReply, closes}, Waits.is_late}, proofs.OneMore.seat_with_mark}
use Rattle.agent_core.specs.{declared.state.State.State, Cores.{AtCore, StandsFor, mark_of}, Adding.{comes_to_seat, leaves_ticket, needs_room}, States.{seen, held_of}, Taking.{Finds, may_open, ComesToSeat, next_slots}}
use Rattle.agent_core.proofs.{Standing.{IsReady, ready}, Stepping.{live_found, live_none}}
use Rattle.cache_policy.specs.declared.mark.MarkReply.TheVariants as reply

comes_prompt : (stops : Bool) (held : Option Ticket) (late : Bool) → comes_to_seat (prompt_ruling stops held late) ≡ (not stops && not (is_some held && late))
comes_prompt true held late = refl
comes_prompt false (Some ticket) true = refl
comes_prompt false (Some ticket) false = refl
comes_prompt false None late = refl

comes_quiet : (found : Option Entry) (stops : Bool) (held : Option Ticket) (late : Bool) → comes_to_seat (ask_ruling found Quiet stops held late) ≡ false
comes_quiet (Some entry) stops held late = refl
comes_quiet None stops held late = refl

some_held : (holder : Option ℕ) (under : Option Under) → is_some holder ≡ is_some (held_of holder under)
some_held None under = refl
some_held (Some ticket) under = refl

module _ (before : State) (history : History) (moment : ℕ) (is : IsReady before history moment) where
  comes_stops : (since : Option ℕ) → may_open before since moment ≡ comes_to_seat (prompt_ruling (stopped (next_history history)) (seat (next_history history)) (is_late since moment))
  comes_stops since =
      ap (λ (b : Bool). not b && not (is_some before.seat && is_late since moment)) is.next.stopped_is
      ∙ (ap (λ (b : Bool). not (stopped (next_history history)) && not (b && is_late since moment))
      (some_held before.seat before.under ∙ ap is_some is.next.seat_is)
      ∙ sym (comes_prompt (stopped (next_history history)) (seat (next_history history)) (is_late since moment)))

  comes_found : (id : List ℕ) (mode : Mode) (since : Option ℕ) (found : Option Grant) → Finds (next_slots before) id mode moment found
      → (if is_some found then false else may_open before since moment) ≡ comes_to_seat (policy before.limits (next_history history) (Ask id mode Prompt since) moment)
  comes_found id mode since (Some grant) from =
      sym (ap (λ (o : Option Entry). comes_to_seat (ask_ruling o Prompt (stopped (next_history history)) (seat (next_history history)) (is_late since moment)))
      (live_found before history moment id mode grant is from).live_is)
  comes_found id mode since None none =
      comes_stops since
      ∙ sym (ap (λ (o : Option Entry). comes_to_seat (ask_ruling o Prompt (stopped (next_history history)) (seat (next_history history)) (is_late since moment)))
      (live_none before history moment id mode is none))

  pub comes_policy : (asked : MarkStep) (comes : Bool) → ComesToSeat before moment asked comes
      → comes ≡ comes_to_seat (policy before.limits (next_history history) asked moment)
  comes_policy (Ask id mode Quiet since) comes does = does ∙ sym (comes_quiet _ (stopped (next_history history)) (seat (next_history history)) (is_late since moment))
  comes_policy (Ask id mode Prompt since) comes does = does.2 ∙ comes_found id mode since does.0 does.1
  comes_policy (Seat under since) comes does = does ∙ comes_stops since
  comes_policy (Close ticket keep) comes does = does
  comes_policy (Put id mode life secret) comes does = does
  comes_policy (Clear id mode) comes does = does
  comes_policy Flush comes does = does
  comes_policy (Peek id mode) comes does = does
  comes_policy Stop comes does = does

-- a step that comes to a free seat opens, and only a free seat is opened
free_prompt : (stops : Bool) (held : Option Ticket) (late : Bool) → held ≡ None → comes_to_seat (prompt_ruling stops held late) ≡ true
    → prompt_ruling stops held late ≡ Reply reply.Open
free_prompt true held late free comes = absurd (cc comes)
free_prompt false (Some ticket) late free comes = absurd (cc free)
free_prompt false None late free comes = refl

free_ask : (found : Option Entry) (way : Way) (stops : Bool) (held : Option Ticket) (late : Bool) → held ≡ None
    → comes_to_seat (ask_ruling found way stops held late) ≡ true → ask_ruling found way stops held late ≡ Reply reply.Open
free_ask (Some entry) way stops held late free comes = absurd (cc comes)
free_ask None Quiet stops held late free comes = absurd (cc comes)
free_ask None Prompt stops held late free comes = free_prompt stops held late free comes

free_opens : (limits : Limits) (history : History) (asked : MarkStep) (moment : ℕ) → seat history ≡ None
    → comes_to_seat (policy limits history asked moment) ≡ true → policy limits history asked moment ≡ Reply reply.Open
free_opens limits history (Ask id mode way since) moment free comes = free_ask _ way (stopped history) (seat history) (is_late since moment) free comes
free_opens limits history (Seat under since) moment free comes = free_prompt (stopped history) (seat history) (is_late since moment) free comes
free_opens limits history (Close ticket keep) moment free comes = absurd (cc comes)
free_opens limits history (Put id mode life secret) moment free comes = absurd (cc comes)
free_opens limits history (Clear id mode) moment free comes = absurd (cc comes)
free_opens limits history Flush moment free comes = absurd (cc comes)
free_opens limits history (Peek id mode) moment free comes = absurd (cc comes)
free_opens limits history Stop moment free comes = absurd (cc comes)

opens_free_prompt : (stops : Bool) (held : Option Ticket) (late : Bool) → prompt_ruling stops held late ≡ Reply reply.Open → held ≡ None
opens_free_prompt true held late is = absurd (cc is)
opens_free_prompt false (Some ticket) true is = absurd (cc is)
opens_free_prompt false (Some ticket) false is = absurd (cc is)
opens_free_prompt false None late is = refl

opens_free_ask : (found : Option Entry) (way : Way) (stops : Bool) (held : Option Ticket) (late : Bool) → ask_ruling found way stops held late ≡ Reply reply.Open → held ≡ None
opens_free_ask (Some entry) way stops held late is = absurd (cc is)
opens_free_ask None Quiet stops held late is = absurd (cc is)
opens_free_ask None Prompt stops held late is = opens_free_prompt stops held late is

pub opens_free : (limits : Limits) (history : History) (asked : MarkStep) (moment : ℕ) → policy limits history asked moment ≡ Reply reply.Open → seat history ≡ None
opens_free limits history (Ask id mode way since) moment is = opens_free_ask _ way (stopped history) (seat history) (is_late since moment) is
opens_free limits history (Seat under since) moment is = opens_free_prompt (stopped history) (seat history) (is_late since moment) is
opens_free limits history (Close ticket keep) moment is = absurd (cc is)
opens_free limits history (Put id mode life secret) moment is = absurd (cc is)
opens_free limits history (Clear id mode) moment is = absurd (cc is)
opens_free limits history Flush moment is = absurd (cc is)
opens_free limits history (Peek id mode) moment is = absurd (cc is)
opens_free limits history Stop moment is = absurd (cc is)

-- a step that opens isn't a Close
pub opens_keeps : (limits : Limits) (history : History) (asked : MarkStep) (moment : ℕ) (answer : MarkReply) → policy limits history asked moment ≡ Reply answer
    → is_open answer ≡ true → closes asked ≡ None
opens_keeps limits history (Close ticket keep) moment reply.Open is opened = absurd (cc is)
opens_keeps limits history (Close ticket keep) moment _ is opened = absurd (cc opened)
opens_keeps limits history (Ask id mode way since) moment answer is opened = refl
opens_keeps limits history (Seat under since) moment answer is opened = refl
opens_keeps limits history (Put id mode life secret) moment answer is opened = refl
opens_keeps limits history (Clear id mode) moment answer is opened = refl
opens_keeps limits history Flush moment answer is opened = refl
opens_keeps limits history (Peek id mode) moment answer is opened = refl
opens_keeps limits history Stop moment answer is opened = refl

-- a step that doesn't come to the seat makes a mark
pub record IsReplied (ruling : Ruling) : Type 0 where
  pub answer : MarkReply
  pub is : ruling ≡ Reply answer

replied : (ruling : Ruling) → comes_to_seat ruling ≡ false → IsReplied ruling
replied (Reply answer) comes = record { answer = answer; is = refl }
replied Stand comes = absurd (cc comes)

-- a step that isn't a Close gives no ticket back
pub gives_none : (asked : MarkStep) (ticket : Ticket) → closes asked ≡ None → unless_given_back asked ticket ≡ Some ticket
gives_none (Ask id mode way since) ticket none = refl
gives_none (Seat under since) ticket none = refl
gives_none (Close number keep) ticket none = absurd (cc none)
gives_none (Put id mode life secret) ticket none = refl
gives_none (Clear id mode) ticket none = refl
gives_none Flush ticket none = refl
gives_none (Peek id mode) ticket none = refl
gives_none Stop ticket none = refl

-- the ticket that is out after a mark
some_after : (opened : Bool) (asked : MarkStep) (fresh : Ticket) (held : Option Ticket) → closes asked ≡ None
    → is_some held ≡ true → IsSome (if opened then Some fresh else option_and_then (unless_given_back asked) held)
some_after true asked fresh held none some = refl
some_after false asked fresh (Some ticket) none some = subst (λ (o : Option Ticket). IsSome o) (sym (gives_none asked ticket none)) refl
some_after false asked fresh None none some = absurd (cc some)

-- a step that leaves a ticket out, by the code, makes a mark after which one is out
pub record LeavesTicket (limits : Limits) (history : History) (session : SessionId) (asked : MarkStep) (moment : ℕ) : Type 0 where
  pub answer : MarkReply
  pub rules : policy limits history asked moment ≡ Reply answer
  pub held : IsSome (seat (with_mark history (mark_of session asked answer moment)))

pub leaves_held : (limits : Limits) (history : History) (session : SessionId) (asked : MarkStep) (moment : ℕ) → closes asked ≡ None
    → leaves_ticket (is_some (seat history)) (comes_to_seat (policy limits history asked moment)) ≡ true → LeavesTicket limits history session asked moment
leaves_held limits history session asked moment none leaves = by (seat history) refl leaves
  where
    by : (held : Option Ticket) → seat history ≡ held → leaves_ticket (is_some held) (comes_to_seat (policy limits history asked moment)) ≡ true
        → LeavesTicket limits history session asked moment
    by (Some ticket) out leaves =
        let made = replied (policy limits history asked moment) (not_true _ leaves) in
        record {
          answer = made.answer;
          rules = made.is;
          held = subst (λ (o : Option Ticket). IsSome o) (sym (seat_with_mark history (mark_of session asked made.answer moment)))
              (some_after (is_open made.answer) asked (record { ticket = next_number history; under = under_of asked }) (seat history) none (ap is_some out));
        }
      where
        not_true : (b : Bool) → not b ≡ true → b ≡ false
        not_true true is = absurd (cc is)
        not_true false is = refl
    by None out leaves = record {
      answer = reply.Open;
      rules = free_opens limits history asked moment out leaves;
      held = subst (λ (o : Option Ticket). IsSome o) (sym (seat_with_mark history (mark_of session asked reply.Open moment))) refl;
    }

-- and the other way round
still_leaves : (asked : MarkStep) (comes : Bool) (held : Option Ticket) → comes ≡ false → IsSome (option_and_then (unless_given_back asked) held)
    → leaves_ticket (is_some held) comes ≡ true
still_leaves asked comes (Some ticket) none some = ap not none
still_leaves asked comes None none some = absurd (cc some)

pub held_leaves : (limits : Limits) (history : History) (asked : MarkStep) (moment : ℕ) (answer : MarkReply) → policy limits history asked moment ≡ Reply answer
    → (is_open answer ≡ true) ⊎ IsSome (option_and_then (unless_given_back asked) (seat history))
    → leaves_ticket (is_some (seat history)) (comes_to_seat (policy limits history asked moment)) ≡ true
held_leaves limits history asked moment reply.Open rules some =
    ap (λ (o : Option Ticket). leaves_ticket (is_some o) (comes_to_seat (policy limits history asked moment))) (opens_free limits history asked moment rules)
    ∙ ap comes_to_seat rules
held_leaves limits history asked moment (reply.Given number) rules (inr some) = still_leaves asked _ (seat history) (ap comes_to_seat rules) some
held_leaves limits history asked moment reply.Empty rules (inr some) = still_leaves asked _ (seat history) (ap comes_to_seat rules) some
held_leaves limits history asked moment reply.Done rules (inr some) = still_leaves asked _ (seat history) (ap comes_to_seat rules) some
held_leaves limits history asked moment (reply.Held held) rules (inr some) = still_leaves asked _ (seat history) (ap comes_to_seat rules) some
held_leaves limits history asked moment reply.Stopping rules (inr some) = still_leaves asked _ (seat history) (ap comes_to_seat rules) some
held_leaves limits history asked moment reply.Late rules (inr some) = still_leaves asked _ (seat history) (ap comes_to_seat rules) some
held_leaves limits history asked moment _ rules (inl opened) = absurd (cc opened)

-- what the code finds is what the policy says, for a core that has this state
pub comes_to_seat_is : (core : AtCore) (state : State) (history : History) (reading moment : ℕ) (asked : MarkStep) (comes : Bool) → seen state ≡ core
    → moment ≡ moment_of state.moment reading → state.moment ≤ moment → moment ≤ MAX_MOMENT → ComesToSeat state moment asked comes
    → IsLegal core.limits history → StandsFor core history
    → comes ≡ comes_to_seat (policy core.limits (next_history history) asked (moment_of core.moment reading))
comes_to_seat_is core state history reading moment asked comes seen_is moment_is later within does =
    subst (λ (c : AtCore). IsLegal c.limits history → StandsFor c history
    → comes ≡ comes_to_seat (policy c.limits (next_history history) asked (moment_of c.moment reading))) seen_is
    (λ legal stands.
    subst (λ (m : ℕ). comes ≡ comes_to_seat (policy state.limits (next_history history) asked m)) moment_is
    (comes_policy state history moment (ready state history moment legal stands later within) asked comes does))

-- whether a step needs room, by the branches of the code
pub needs_close : (core : AtCore) (asked : MarkStep) (comes : Bool) → is_some (closes asked) ≡ true → false ≡ needs_room core asked comes
needs_close core asked comes is = rw is refl

pub needs_full : (core : AtCore) (asked : MarkStep) (comes : Bool) → is_some (closes asked) ≡ false → core.count ≡ MAX_MARKS
    → not (is_some core.held) ≡ needs_room core asked comes
needs_full core asked comes is full =
    let all : (core.count == MAX_MARKS) ≡ true = grind (arith, nat_tests) in
    rw (is, all) refl

pub needs_none : (core : AtCore) (asked : MarkStep) (comes : Bool) → is_some (closes asked) ≡ false → core.count + 1 < MAX_MARKS
    → false ≡ needs_room core asked comes
needs_none core asked comes is few =
    let all : (core.count == MAX_MARKS) ≡ false = grind (arith, nat_tests) in
    let last : (core.count + 1 == MAX_MARKS) ≡ false = grind (arith, nat_tests) in
    rw (is, all, last) refl

pub needs_last : (core : AtCore) (asked : MarkStep) (comes : Bool) → is_some (closes asked) ≡ false → core.count + 1 ≡ MAX_MARKS
    → leaves_ticket (is_some core.held) comes ≡ needs_room core asked comes
needs_last core asked comes is ends =
    let all : (core.count == MAX_MARKS) ≡ false = grind (arith, nat_tests) in
    let last : (core.count + 1 == MAX_MARKS) ≡ true = grind (arith, nat_tests) in
    rw (is, all, last) refl

-- a Close needs none
pub needs_fits : (core : AtCore) (asked : MarkStep) (comes : Bool) → needs_room core asked comes ≡ true → FitsReply asked Refused
needs_fits core (Close ticket keep) comes is = absurd (cc is)
needs_fits core (Ask id mode way since) comes is = tt
needs_fits core (Seat under since) comes is = tt
needs_fits core (Put id mode life secret) comes is = tt
needs_fits core (Clear id mode) comes is = tt
needs_fits core Flush comes is = tt
needs_fits core (Peek id mode) comes is = tt
needs_fits core Stop comes is = tt
