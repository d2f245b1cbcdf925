-- What a step does to the ticket that is out at a desk.
use Rattle.std.{specs.{Prelude.{◌≡◌, ◌≢◌, ℕ, ◌+◌, ◌<◌, ◌==◌, List, Bool, true, false, Option, Some, None, IfSome, length, refl, ⊤, if◌then◌else◌}, Option.{is_some, option_and_then}}, proofs.Common.{ap, sym, ◌∙◌, subst, arith}}
use Rattle.std.proofs.lemmas.Bool.Decides.{nat_tests}
use Rattle.{agent_ports.specs.declared.session.SessionId.SessionId, cache_policy.specs.declared.{bounds.TheConstants.MAX_MARKS, life.Limits.Limits, mark.{Mark.Mark, MarkReply.MarkReply, MarkStep.MarkStep}}}
use Rattle.cache_policy.specs.{declared.{mark.MarkStep.TheVariants.{Ask, Seat, Close, Put, Clear, Flush, Peek, Stop}, history.Held.Held as Ticket, wait.Wait.Wait}, Desks.{Shows, IsSpentRun}, Histories.{History, next_number}}
use Rattle.cache_policy.specs.{Legal.IsLegalRun, Policy.{Reply, policy}, Runs.{last_base, turn_over, next_history, last_history, run_with_mark}, Seat.{seat, is_open, under_of, unless_given_back}}
use Rattle.cache_policy.{specs.Turns.{Turn, Given, Empty, Open, Stand, Done, Held, Refused, Stopping, Late, FitsReply, opens, closes, out_after}, proofs.{GrowingRuns.{last_run_with_mark, last_is_legal}, OneMore.seat_with_mark}}
use Rattle.agent_core.specs.{declared.holder.Holder.Holder, Cores.mark_of, Foreigners.holder_after}
use Rattle.agent_core.specs.{Known.{run_seat, IsOut, held as held_out, given_up, TakesStep, marked, stood as takes_stood, refused as takes_refused, spent as takes_spent}, Recording.reply_of, Seating.{Seated, free, own, theirs, over}}
use Rattle.agent_core.proofs.{Coming.opens_free, Knowing.{seat_next, shows_reply, closes_none}}

-- a turn that gives no ticket
abbrev pub IsNotOpen : Turn → Type 0
IsNotOpen (Open number) = ⊥
IsNotOpen Refused = ⊥
IsNotOpen turn = ⊤

pub data SeatMoves (run : List History) (asked : MarkStep) : Turn → List History → Type 0 where
  opened : {after : List History} (number : ℕ) (ticket : Ticket) → (IsSpentRun run → ⊥) → run_seat run ≡ None → run_seat after ≡ Some ticket → ticket.ticket ≡ number
      → SeatMoves run asked (Open number) after
  moved : {turn : Turn} {after : List History} → (IsSpentRun run → ⊥) → IsNotOpen turn
      → run_seat after ≡ option_and_then (unless_given_back asked) (run_seat run) → SeatMoves run asked turn after
  stood : {wait : Wait} {after : List History} → after ≡ run → SeatMoves run asked (Stand wait) after
  refused : {after : List History} → after ≡ run → SeatMoves run asked Refused after
  ended : {after : List History} → IsSpentRun run → after ≡ run → SeatMoves run asked Stopping after

-- a run that goes on isn't spent
pub going_on : (limits : Limits) (run : List History) (last : History) → IsLegalRun limits run → last_history run ≡ Some last → (next_history last).base < last_base
    → IsSpentRun run → ⊥
going_on limits run last legal last_is below is =
    let e : Some is.last ≡ Some last = sym is.last_is ∙ last_is in
    let same : is.last ≡ last = cc in
    let all : last.base + length last.marks ≡ last_base = subst (λ (h : History). h.base + length h.marks ≡ last_base) same is.all in
    let each = last_is_legal limits run last last_is legal.each in
    elim (length last.marks == MAX_MARKS) as (λ b. (length last.marks == MAX_MARKS) ≡ b → (if b then turn_over last else last).base < last_base → ⊥) [
      | true ↦ λ e below. let full : length last.marks ≡ MAX_MARKS = grind (arith, nat_tests) in omega (arith, full, all, below)
      | false ↦ λ e below. let some : length last.marks ≢ MAX_MARKS = grind (arith, nat_tests) in omega (arith, some, all, below, each.few, each.base)
    ] refl below

-- the ticket after a mark
seat_marked : (run : List History) (last : History) (mark : Mark) → last_history run ≡ Some last
    → run_seat (run_with_mark run mark) ≡ (if is_open mark.reply then Some (record { ticket = next_number (next_history last); under = under_of mark.step })
    else option_and_then (unless_given_back mark.step) (run_seat run))
seat_marked run last mark last_is =
    ap (option_and_then seat) (last_run_with_mark run last mark last_is)
    ∙ (seat_with_mark (next_history last) mark
    ∙ ap (λ (h : Option Ticket). if is_open mark.reply then Some (record { ticket = next_number (next_history last); under = under_of mark.step })
    else option_and_then (unless_given_back mark.step) h) (seat_next last ∙ sym (ap (option_and_then seat) last_is)))

moved_seat : (run : List History) (last : History) (mark : Mark) → last_history run ≡ Some last → is_open mark.reply ≡ false
    → run_seat (run_with_mark run mark) ≡ option_and_then (unless_given_back mark.step) (run_seat run)
moved_seat run last mark last_is shut =
    seat_marked run last mark last_is
    ∙ ap (λ (b : Bool). if b then Some (record { ticket = next_number (next_history last); under = under_of mark.step })
    else option_and_then (unless_given_back mark.step) (run_seat run)) shut

module _ (limits : Limits) (run after : List History) (session : SessionId) (moment : ℕ) (asked : MarkStep) (last : History) (answer : MarkReply)
    (more : IsSpentRun run → ⊥) (last_is : last_history run ≡ Some last) (rules : policy limits (next_history last) asked moment ≡ Reply answer)
    (is : after ≡ run_with_mark run (mark_of session asked answer moment)) where
  shut_moves : (turn : Turn) → IsNotOpen turn → is_open (reply_of turn) ≡ false → Shows limits (next_history last) (mark_of session asked answer moment) turn
      → SeatMoves run asked turn after
  shut_moves turn other shut shows =
      moved more other (ap run_seat is ∙ moved_seat run last (mark_of session asked answer moment) last_is
      (ap is_open (shows_reply limits (next_history last) (mark_of session asked answer moment) turn shows) ∙ shut))

  marked_moves : (turn : Turn) → Shows limits (next_history last) (mark_of session asked answer moment) turn → SeatMoves run asked turn after
  marked_moves (Given grant) shows = shut_moves (Given grant) tt refl shows
  marked_moves Empty shows = shut_moves Empty tt refl shows
  marked_moves (Open number) shows =
      opened number (record { ticket = next_number (next_history last); under = under_of asked }) more
      (ap (option_and_then seat) last_is ∙ (sym (seat_next last) ∙ opens_free limits (next_history last) asked moment (rules ∙ ap Reply shows.0)))
      (ap run_seat is ∙ (seat_marked run last (mark_of session asked answer moment) last_is
      ∙ ap (λ (r : MarkReply). if is_open r then Some (record { ticket = next_number (next_history last); under = under_of asked })
      else option_and_then (unless_given_back asked) (run_seat run)) shows.0))
      (sym shows.1)
  marked_moves (Stand wait) shows = absurd shows
  marked_moves Done shows = shut_moves Done tt refl shows
  marked_moves (Held held) shows = shut_moves (Held held) tt refl shows
  marked_moves Stopping shows = shut_moves Stopping tt refl shows
  marked_moves Late shows = shut_moves Late tt refl shows
  marked_moves Refused shows = absurd shows

pub moves : (limits : Limits) (run after : List History) (session : SessionId) (moment : ℕ) (asked : MarkStep) (turn : Turn) → IsLegalRun limits run
    → TakesStep limits run session moment asked turn after → SeatMoves run asked turn after
moves limits run after session moment asked turn legal (marked last answer last_is below rules shows is) =
    marked_moves limits run after session moment asked last answer (going_on limits run last legal last_is below) last_is rules is turn shows
moves limits run after session moment asked turn legal (takes_stood last last_is some rules wait_is is) = stood is
moves limits run after session moment asked turn legal (takes_refused last last_is below why is) = refused is
moves limits run after session moment asked turn legal (takes_spent all is) = ended all is

-- a seat that stays
seated_same : (run after : List History) (out : Option ℕ) (holder : Option Holder) → (IsSpentRun run → IsSpentRun after) → run_seat after ≡ run_seat run
    → Seated run out holder → Seated after out holder
seated_same run after out holder spent same (free none) = free (same ∙ none)
seated_same run after out holder spent same (own ticket number is num) = own ticket number (same ∙ is) num
seated_same run after out holder spent same (theirs ticket h is num) = theirs ticket h (same ∙ is) num
seated_same run after out holder spent same (over is) = over (spent is)

seated_stays : (run after : List History) (out : Option ℕ) (holder : Option Holder) → after ≡ run → Seated run out holder → Seated after out holder
seated_stays run after out holder same seated = subst (λ (r : List History). Seated r out holder) (sym same) seated

-- a step that gives no ticket back leaves the seat
none_back : (asked : MarkStep) (held : Option Ticket) → closes asked ≡ None → option_and_then (unless_given_back asked) held ≡ held
none_back asked None none = refl
none_back (Close number keep) (Some ticket) none = absurd (cc none)
none_back (Ask id mode way since) (Some ticket) none = refl
none_back (Seat under since) (Some ticket) none = refl
none_back (Put id mode life secret) (Some ticket) none = refl
none_back (Clear id mode) (Some ticket) none = refl
none_back Flush (Some ticket) none = refl
none_back (Peek id mode) (Some ticket) none = refl
none_back Stop (Some ticket) none = refl

-- and one that does frees it
back_free : (asked : MarkStep) (number : ℕ) (ticket : Ticket) → closes asked ≡ Some number → ticket.ticket ≡ number
    → option_and_then (unless_given_back asked) (Some ticket) ≡ None
back_free (Close other keep) number ticket is same =
    let e : other ≡ number = cc is in
    let back : (other == ticket.ticket) ≡ true = grind (arith, nat_tests) in
    ap (λ (b : Bool). if b then None else Some ticket) back
back_free (Ask id mode way since) number ticket is same = absurd (cc is)
back_free (Seat under since) number ticket is same = absurd (cc is)
back_free (Put id mode life secret) number ticket is same = absurd (cc is)
back_free (Clear id mode) number ticket is same = absurd (cc is)
back_free Flush number ticket is same = absurd (cc is)
back_free (Peek id mode) number ticket is same = absurd (cc is)
back_free Stop number ticket is same = absurd (cc is)

-- the tickets after a turn that gives none
out_kept : (out : Option ℕ) (asked : MarkStep) (turn : Turn) → IsNotOpen turn → closes asked ≡ None → out_after out asked turn ≡ out
out_kept out (Close number keep) turn other none = absurd (cc none)
out_kept out asked (Given grant) other none = refl
out_kept out asked Empty other none = refl
out_kept out asked (Open number) other none = absurd other
out_kept out asked (Stand wait) other none = refl
out_kept out asked Done other none = refl
out_kept out asked (Held held) other none = refl
out_kept out asked Stopping other none = refl
out_kept out asked Late other none = refl
out_kept out asked Refused other none = absurd other

out_back : (out : Option ℕ) (asked : MarkStep) (turn : Turn) (number : ℕ) → IsNotOpen turn → closes asked ≡ Some number → out_after out asked turn ≡ None
out_back out (Close ticket keep) (Given grant) number other is = refl
out_back out (Close ticket keep) Empty number other is = refl
out_back out (Close ticket keep) (Open n) number other is = absurd other
out_back out (Close ticket keep) (Stand wait) number other is = refl
out_back out (Close ticket keep) Done number other is = refl
out_back out (Close ticket keep) (Held held) number other is = refl
out_back out (Close ticket keep) Stopping number other is = refl
out_back out (Close ticket keep) Late number other is = refl
out_back out (Close ticket keep) Refused number other is = absurd other
out_back out (Ask id mode way since) turn number other is = absurd (cc is)
out_back out (Seat under since) turn number other is = absurd (cc is)
out_back out (Put id mode life secret) turn number other is = absurd (cc is)
out_back out (Clear id mode) turn number other is = absurd (cc is)
out_back out Flush turn number other is = absurd (cc is)
out_back out (Peek id mode) turn number other is = absurd (cc is)
out_back out Stop turn number other is = absurd (cc is)

holder_kept : (holder : Option Holder) (session : SessionId) (asked : MarkStep) (turn : Turn) → IsNotOpen turn
    → holder_after holder session asked turn ≡ (if is_some (closes asked) then None else holder)
holder_kept holder session asked (Given grant) other = refl
holder_kept holder session asked Empty other = refl
holder_kept holder session asked (Open number) other = absurd other
holder_kept holder session asked (Stand wait) other = refl
holder_kept holder session asked Done other = refl
holder_kept holder session asked (Held held) other = refl
holder_kept holder session asked Stopping other = refl
holder_kept holder session asked Late other = refl
holder_kept holder session asked Refused other = absurd other

pub stand_opens : (asked : MarkStep) (wait : Wait) → FitsReply asked (Stand wait) → opens asked ≡ true
stand_opens (Ask id mode way since) wait fits = fits
stand_opens (Seat under since) wait fits = fits
stand_opens (Close ticket keep) wait fits = fits
stand_opens (Put id mode life secret) wait fits = fits
stand_opens (Clear id mode) wait fits = fits
stand_opens Flush wait fits = fits
stand_opens (Peek id mode) wait fits = fits
stand_opens Stop wait fits = fits

refused_keeps : (asked : MarkStep) → FitsReply asked Refused → closes asked ≡ None
refused_keeps (Ask id mode way since) fits = refl
refused_keeps (Seat under since) fits = refl
refused_keeps (Close ticket keep) fits = absurd fits
refused_keeps (Put id mode life secret) fits = refl
refused_keeps (Clear id mode) fits = refl
refused_keeps Flush fits = refl
refused_keeps (Peek id mode) fits = refl
refused_keeps Stop fits = refl

-- a seat that is free is nobody's
pub none_seated : (run : List History) (out : Option ℕ) (holder : Option Holder) → (IsSpentRun run → ⊥) → run_seat run ≡ None → Seated run out holder → (out ≡ None) × (holder ≡ None)
none_seated run out holder more none (free is) = (refl, refl)
none_seated run out holder more none (own ticket number is num) = absurd (cc (is, none))
none_seated run out holder more none (theirs ticket h is num) = absurd (cc (is, none))
none_seated run out holder more none (over is) = absurd (more is)

-- the ticket that the session has, by its number
own_ticket : (run : List History) (out : Option ℕ) (holder : Option Holder) (number : ℕ) → (IsSpentRun run → ⊥) → out ≡ Some number → Seated run out holder
    → (ticket : Ticket) × (run_seat run ≡ Some ticket) × (ticket.ticket ≡ number) × (holder ≡ None)
own_ticket run out holder number more is (free none) = absurd (cc is)
own_ticket run out holder number more is (own ticket n at num) = let same : n ≡ number = cc is in (ticket, at, num ∙ same, refl)
own_ticket run out holder number more is (theirs ticket h at num) = absurd (cc is)
own_ticket run out holder number more is (over all) = absurd (more all)

their_ticket : (run : List History) (out : Option ℕ) (holder : Option Holder) (h : Holder) → (IsSpentRun run → ⊥) → holder ≡ Some h → Seated run out holder
    → (ticket : Ticket) × (run_seat run ≡ Some ticket) × (ticket.ticket ≡ h.ticket) × (out ≡ None)
their_ticket run out holder h more is (free none) = absurd (cc is)
their_ticket run out holder h more is (own ticket n at num) = absurd (cc is)
their_ticket run out holder h more is (theirs ticket other at num) = let same : other ≡ h = cc is in (ticket, at, num ∙ ap (λ (o : Holder). o.ticket) same, refl)
their_ticket run out holder h more is (over all) = absurd (more all)

-- what is given back is the ticket that is out
pub own_out : (run : List History) (out : Option ℕ) (holder : Option Holder) (number : ℕ) → out ≡ Some number → Seated run out holder → IsOut run number
own_out run out holder number is (free none) = absurd (cc is)
own_out run out holder number is (own ticket n at num) = let same : n ≡ number = cc is in held_out ticket at (num ∙ same)
own_out run out holder number is (theirs ticket h at num) = absurd (cc is)
own_out run out holder number is (over all) = given_up all

pub their_out : (run : List History) (out : Option ℕ) (holder : Option Holder) (h : Holder) → holder ≡ Some h → Seated run out holder → IsOut run h.ticket
their_out run out holder h is (free none) = absurd (cc is)
their_out run out holder h is (own ticket n at num) = absurd (cc is)
their_out run out holder h is (theirs ticket other at num) = let same : other ≡ h = cc is in held_out ticket at (num ∙ ap (λ (o : Holder). o.ticket) same)
their_out run out holder h is (over all) = given_up all

module _ (run after : List History) (asked : MarkStep) (out : Option ℕ) (holder : Option Holder) (seated : Seated run out holder) where
  -- behind a step of the desk's own session
  pub own_seated : (turn : Turn) → SeatMoves run asked turn after → FitsReply asked turn
      → IfSome (closes asked) (λ number. out ≡ Some number) → Seated after (out_after out asked turn) holder
  own_seated turn (opened number ticket more none now num) fits back =
      let nobody = none_seated run out holder more none seated in
      subst (λ (h : Option Holder). Seated after (Some number) h) (sym nobody.1) (own ticket number now num)
  own_seated turn (moved more other now) fits back = by (closes asked) refl back
    where
      by : (closed : Option ℕ) → closes asked ≡ closed → IfSome closed (λ number. out ≡ Some number) → Seated after (out_after out asked turn) holder
      by None none back =
          subst (λ (o : Option ℕ). Seated after o holder) (sym (out_kept out asked turn other none))
          (seated_same run after out holder (λ all. absurd (more all)) (now ∙ none_back asked (run_seat run) none) seated)
      by (Some number) is back =
          let mine = own_ticket run out holder number more back seated in
          subst (λ (o : Option ℕ). Seated after o holder) (sym (out_back out asked turn number other is))
          (subst (λ (h : Option Holder). Seated after None h) (sym mine.3)
          (free (now ∙ (ap (option_and_then (unless_given_back asked)) mine.1 ∙ back_free asked number mine.0 is mine.2))))
  own_seated turn (stood {wait = wait} same) fits back =
      subst (λ (o : Option ℕ). Seated after o holder) (sym (out_kept out asked (Stand wait) tt (closes_none asked (stand_opens asked wait fits)))) (seated_stays run after out holder same seated)
  own_seated turn (refused same) fits back = seated_stays run after out holder same seated
  own_seated turn (ended all same) fits back = seated_stays run after (out_after out asked Stopping) holder same (over all)

  -- behind a step of another one
  pub their_seated : (session : SessionId) (turn : Turn) → SeatMoves run asked turn after → FitsReply asked turn
      → IfSome (closes asked) (λ number. (h : Holder) × (holder ≡ Some h) × (h.ticket ≡ number)) → Seated after out (holder_after holder session asked turn)
  their_seated session turn (opened number ticket more none now num) fits back =
      let nobody = none_seated run out holder more none seated in
      subst (λ (o : Option ℕ). Seated after o (Some (record { session = session; ticket = number }))) (sym nobody.0)
      (theirs ticket (record { session = session; ticket = number }) now num)
  their_seated session turn (moved more other now) fits back = by (closes asked) refl back
    where
      by : (closed : Option ℕ) → closes asked ≡ closed → IfSome closed (λ number. (h : Holder) × (holder ≡ Some h) × (h.ticket ≡ number)) → Seated after out (holder_after holder session asked turn)
      by None none back =
          subst (λ (h : Option Holder). Seated after out h) (sym (holder_kept holder session asked turn other ∙ ap (λ (o : Option ℕ). if is_some o then None else holder) none))
          (seated_same run after out holder (λ all. absurd (more all)) (now ∙ none_back asked (run_seat run) none) seated)
      by (Some number) is back =
          let held = their_ticket run out holder back.0 more back.1 seated in
          subst (λ (h : Option Holder). Seated after out h) (sym (holder_kept holder session asked turn other ∙ ap (λ (o : Option ℕ). if is_some o then None else holder) is))
          (subst (λ (o : Option ℕ). Seated after o None) (sym held.3)
          (free (now ∙ (ap (option_and_then (unless_given_back asked)) held.1 ∙ back_free asked number held.0 is (held.2 ∙ back.2)))))
  their_seated session turn (stood {wait = wait} same) fits back =
      subst (λ (h : Option Holder). Seated after out h) (sym (ap (λ (o : Option ℕ). if is_some o then None else holder) (closes_none asked (stand_opens asked wait fits))))
      (seated_stays run after out holder same seated)
  their_seated session turn (refused same) fits back =
      subst (λ (h : Option Holder). Seated after out h) (sym (ap (λ (o : Option ℕ). if is_some o then None else holder) (refused_keeps asked fits)))
      (seated_stays run after out holder same seated)
  their_seated session turn (ended all same) fits back = over (subst IsSpentRun (sym same) all)

pub own_outs : (run : List History) (out : Option ℕ) (holder : Option Holder) (closed : Option ℕ) → IfSome closed (λ number. out ≡ Some number)
    → Seated run out holder → IfSome closed (IsOut run)
own_outs run out holder None is seated = tt
own_outs run out holder (Some number) is seated = own_out run out holder number is seated
