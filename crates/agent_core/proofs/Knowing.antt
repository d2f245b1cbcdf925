-- A core that keeps its run: what becomes of the run by a step.
use Rattle.std.specs.{Prelude.{◌≡◌, ◌≢◌, ℕ, ◌+◌, ◌%◌, ◌<◌, ◌≤◌, ◌==◌, List, [], ◌∷◌, ◌++◌, length, fold, Bool, true, false, not, Option, Some, None, IsSome, IfSome, refl, ◌⊎◌, if◌then◌else◌}, Option.{is_some, option_and_then}, Global.Vec}
use Rattle.std.proofs.{Common.{ap, sym, ◌∙◌, subst, arith, length-append, inl, inr, Ok}, lemmas.Bool.Decides.nat_tests}
use Rattle.{agent_ports.specs.declared.session.SessionId.SessionId, cache_policy.specs.declared.{bounds.TheConstants.{MAX_MARKS, MAX_MOMENT}, life.Limits.Limits, mark.{Mark.Mark, MarkStep.MarkStep}}}
use Rattle.cache_policy.specs.declared.{mark.{MarkStep.TheVariants.{Ask, Seat, Close, Put, Clear, Flush, Peek, Stop}, MarkReply.MarkReply, Way.TheVariants.{Quiet, Prompt}}, history.{Held.Held as Ticket, History.History as HistoryInMemory}}
use Rattle.cache_policy.specs.{declared.{step.Reply.Reply as SteppedReply, wait.Wait.Wait}, Desks.{Shows, IsSpentRun}, Histories.{History, run_of, next_number, with_mark}, Legal.{IsLegal, IsLegalRun}, Policy.{Reply, policy}}
use Rattle.cache_policy.specs.{Runs.{last_base, is_spent, turn_over, next_history, last_history, run_with_mark, joined, moment_before, moment_of}, Seat.{seat, is_open, under_of, unless_given_back}}
use Rattle.cache_policy.specs.Turns.{Turn, Given, Empty, Open, Stand, Done, Held, Refused, Stopping, Late, FitsReply, opens, closes, turn_of}
use Rattle.cache_policy.proofs.{GrowingRuns.{joined_run_with_mark, legal_run_with_mark, last_run_with_mark, last_is_legal, spent_all}, OneMore.seat_with_mark, Growing.seat_turn_over}
use Rattle.agent_core.specs.{declared.known_core.Start.Start, Adding.{CanAdd, added, next_start, HasPlace, comes_to_seat, leaves_ticket, needs_room}}
use Rattle.agent_core.specs.Cores.{AtCore, HasRoom, IsStep, marked as step_marked, stood as step_stood, refused as step_refused, spent as step_spent, IsMarked, mark_of, IsAsBefore}
use Rattle.agent_core.specs.{Known.{run_seat, IsOut, held as held_out, given_up, next_moment, MayRefuse, wants, begins, leaves, TakesStep, marked, stood, refused}, Stepped.IsSettled}
use Rattle.agent_core.{specs.Recording.{KeepsRun, IsRoom, LastHasRoom, Records, reply_of}, proofs.{Adding.add_full, Coming.{leaves_held, held_leaves, opens_keeps, needs_full, needs_last}}}
use Rattle.cache_policy.specs.declared.mark.MarkReply.TheVariants as reply
use Rattle.cache_policy.specs.declared.step.Reply.TheVariants as told

-- the moment of a mark at the end
pub moment_at_end : (since : ℕ) (marks : List Mark) (mark : Mark) → fold (λ _ (m : Mark). m.moment) since (marks ++ mark ∷ []) ≡ mark.moment
moment_at_end since [] mark = refl
moment_at_end since (first ∷ later) mark = moment_at_end first.moment later mark

-- a history that isn't spent stays below the last base
pub below_next : (history : History) → history.base < last_base → history.base % MAX_MARKS ≡ 0 → is_spent (next_history history) ≡ false → (next_history history).base < last_base
below_next history below whole more =
    elim (length history.marks == MAX_MARKS) as (λ b. is_spent (if b then turn_over history else history) ≡ false → (if b then turn_over history else history).base < last_base) [
      | true ↦ λ e. let other : history.base + MAX_MARKS ≢ last_base = grind (arith, nat_tests) in omega (arith, other, below, whole)
      | false ↦ λ e. below
    ] more

-- a mark's reply, and whether it opens
pub shows_reply : (limits : Limits) (history : History) (mark : Mark) (turn : Turn) → Shows limits history mark turn → mark.reply ≡ reply_of turn
shows_reply limits history mark (Given grant) shows = shows.0
shows_reply limits history mark Empty shows = shows
shows_reply limits history mark (Open number) shows = shows.0
shows_reply limits history mark (Stand wait) shows = absurd shows
shows_reply limits history mark Done shows = shows
shows_reply limits history mark (Held held) shows = shows
shows_reply limits history mark Stopping shows = shows
shows_reply limits history mark Late shows = shows
shows_reply limits history mark Refused shows = absurd shows

pub opens_fits : (asked : MarkStep) (number : ℕ) → FitsReply asked (Open number) → opens asked ≡ true
opens_fits (Ask id mode Quiet since) number fits = absurd fits
opens_fits (Ask id mode Prompt since) number fits = refl
opens_fits (Seat under since) number fits = refl
opens_fits (Close ticket keep) number fits = absurd fits
opens_fits (Put id mode life secret) number fits = absurd fits
opens_fits (Clear id mode) number fits = absurd fits
opens_fits Flush number fits = absurd fits
opens_fits (Peek id mode) number fits = absurd fits
opens_fits Stop number fits = absurd fits

module _ (core : AtCore) (run : List History) (keeps : KeepsRun core run) where
  pub legal_last : IsLegal core.limits keeps.last
  legal_last = last_is_legal core.limits run keeps.last keeps.last_is keeps.legal.each

  -- all marks are made
  pub spent_run : core.base + core.count ≡ last_base → IsSpentRun run
  spent_run all = record { last = keeps.last; last_is = keeps.last_is; all = omega (arith, all, keeps.stands.base, keeps.stands.count) }

  -- a run isn't spent where the core isn't
  pub not_spent_run : core.base + core.count ≢ last_base → IsSpentRun run → ⊥
  not_spent_run more is =
      let e : Some is.last ≡ Some keeps.last = sym is.last_is ∙ keeps.last_is in
      let same : is.last ≡ keeps.last = cc in
      let all : keeps.last.base + length keeps.last.marks ≡ last_base = subst (λ (h : History). h.base + length h.marks ≡ last_base) same is.all in
      more (omega (arith, all, keeps.stands.base, keeps.stands.count))

  pub going : core.base + core.count ≢ last_base → is_spent (next_history keeps.last) ≡ false
  going more =
      elim (is_spent (next_history keeps.last)) as (λ b. is_spent (next_history keeps.last) ≡ b → b ≡ false) [
        | true ↦ λ e. absurd (more (omega (arith, spent_all core.limits keeps.last legal_last e, keeps.stands.base, keeps.stands.count)))
        | false ↦ λ e. refl
      ] refl

  -- the run's ticket is the core's
  pub seat_is : run_seat run ≡ core.held
  seat_is = ap (option_and_then seat) keeps.last_is ∙ sym keeps.stands.seat_is

  pub held_out_is : core.base + core.count ≢ last_base → (number : ℕ) → IsOut run number → (ticket : Ticket) × (core.held ≡ Some ticket) × (ticket.ticket ≡ number)
  held_out_is more number (held_out ticket is same) = (ticket, sym seat_is ∙ is, same)
  held_out_is more number (given_up is) = absurd (not_spent_run more is)

  -- the next mark's place
  pub has_place : core.count ≢ MAX_MARKS → HasPlace run
  has_place some = record { last = keeps.last; last_is = keeps.last_is; few = omega (arith, some, legal_last.few, keeps.stands.count) }

  pub added_is : (mark : Mark) → added (next_start core) run mark ≡ run_with_mark run mark
  added_is mark =
      elim (core.count == MAX_MARKS) as (λ b. (core.count == MAX_MARKS) ≡ b
      → added (if b then Some (record { base = core.base + MAX_MARKS; held = core.held; stopped = core.stopped }) else None) run mark ≡ run_with_mark run mark) [
        | true ↦ λ e.
            let full : core.count ≡ MAX_MARKS = grind (arith, nat_tests) in
            let next : record { base = core.base + MAX_MARKS; held = core.held; stopped = core.stopped; marks = mark ∷ [] } ≡ with_mark (turn_over keeps.last) mark =
            ap (λ (n : ℕ). record { base = n + MAX_MARKS; held = core.held; stopped = core.stopped; marks = mark ∷ [] }) keeps.stands.base
            ∙ (ap (λ (h : Option Ticket). record { base = keeps.last.base + MAX_MARKS; held = h; stopped = core.stopped; marks = mark ∷ [] }) keeps.stands.seat_is
            ∙ ap (λ (b : Bool). record { base = keeps.last.base + MAX_MARKS; held = seat keeps.last; stopped = b; marks = mark ∷ [] }) keeps.stands.stopped_is) in
            ap (λ (h : History). run ++ h ∷ []) next ∙ sym (add_full run keeps.last mark keeps.last_is (omega (arith, full, keeps.stands.count)))
        | false ↦ λ e. refl
      ] refl

-- a history that isn't full is itself the next one
pub not_turned : (history : History) → length history.marks + 1 ≡ MAX_MARKS → next_history history ≡ history
not_turned history ends =
    let some : (length history.marks == MAX_MARKS) ≡ false = grind (arith, nat_tests) in
    ap (λ (b : Bool). if b then turn_over history else history) some

-- the room for the next history is there where this one is full
pub has_next : (core : AtCore) (histories : Vec HistoryInMemory) (next later : Option (Vec Mark)) (asked : MarkStep) (comes : Bool) → Records core histories next
    → core.base + core.count ≢ last_base → IfSome (closes asked) (IsOut (run_of histories.items)) → (IsSome next → IsSome later)
    → (needs_room core asked comes ≡ true → IsSome later) → core.count ≡ MAX_MARKS → IsSome later
has_next core histories next later asked comes records more own kept room full =
    by (closes asked) refl own core.held refl
  where
    by : (closed : Option ℕ) → closes asked ≡ closed → IfSome closed (IsOut (run_of histories.items)) → (held : Option Ticket) → core.held ≡ held → IsSome later
    by None none own None free =
        room (sym (needs_full core asked comes (ap is_some none) full) ∙ ap (λ (h : Option Ticket). not (is_some h)) free)
    by closed is own (Some ticket) out = kept (records.ready full (subst (λ (h : Option Ticket). IsSome h) (sym out) refl))
    by (Some number) is own None free =
        let out = held_out_is core (run_of histories.items) records.keeps more number own in
        absurd (cc (out.1, free))

pub can_add : (core : AtCore) (histories : Vec HistoryInMemory) (next : Option (Vec Mark)) → KeepsRun core (run_of histories.items)
    → LastHasRoom histories.items → IsRoom histories next
    → (core.count ≡ MAX_MARKS → IsSome next) → CanAdd (next_start core) histories next
can_add core histories next keeps present room some =
    elim (core.count == MAX_MARKS) as (λ b. (core.count == MAX_MARKS) ≡ b
    → CanAdd (if b then Some (record { base = core.base + MAX_MARKS; held = core.held; stopped = core.stopped }) else None) histories next) [
      | true ↦ λ e. (some (grind (arith, nat_tests)), room)
      | false ↦ λ e. (has_place core (run_of histories.items) keeps (grind (arith, nat_tests)), present, room)
    ] refl

-- where there is no memory for a step's history
pub no_room : (core : AtCore) (run : List History) (session : SessionId) (moment : ℕ) (asked : MarkStep) (keeps : KeepsRun core run) → core.base + core.count ≢ last_base
    → needs_room core asked (comes_to_seat (policy core.limits (next_history keeps.last) asked moment)) ≡ true
    → TakesStep core.limits run session moment asked Refused run
no_room core run session moment asked keeps more needs =
    refused keeps.last keeps.last_is (below_next keeps.last keeps.below (legal_last core run keeps).base (going core run keeps more))
    (by (closes asked) refl (core.count == MAX_MARKS) refl (core.count + 1 == MAX_MARKS) refl needs) refl
  where
    comes : Bool
    comes = comes_to_seat (policy core.limits (next_history keeps.last) asked moment)

    free : (held : Option Ticket) → not (is_some held) ≡ true → held ≡ None
    free (Some ticket) is = absurd (cc is)
    free None is = refl

    by : (closed : Option ℕ) → closes asked ≡ closed → (full : Bool) → (core.count == MAX_MARKS) ≡ full → (ends : Bool) → (core.count + 1 == MAX_MARKS) ≡ ends
        → (if is_some closed then false else if full then not (is_some core.held) else if ends then leaves_ticket (is_some core.held) comes else false) ≡ true
        → MayRefuse core.limits keeps.last session asked moment
    by (Some number) is full full_is ends ends_is needs = absurd (cc needs)
    by None none true full_is ends ends_is needs =
        let count : core.count ≡ MAX_MARKS = grind (arith, nat_tests) in
        begins none (omega (arith, count, keeps.stands.count)) (sym keeps.stands.seat_is ∙ free core.held needs)
    by None none false full_is true ends_is needs =
        let count : core.count + 1 ≡ MAX_MARKS = grind (arith, nat_tests) in
        let here : next_history keeps.last ≡ keeps.last = not_turned keeps.last (omega (arith, count, keeps.stands.count)) in
        let held : leaves_ticket (is_some (seat keeps.last)) (comes_to_seat (policy core.limits keeps.last asked moment)) ≡ true =
        subst (λ (h : Option Ticket). leaves_ticket (is_some h) (comes_to_seat (policy core.limits keeps.last asked moment)) ≡ true) keeps.stands.seat_is
        (subst (λ (h : History). leaves_ticket (is_some core.held) (comes_to_seat (policy core.limits h asked moment)) ≡ true) here needs) in
        let left = leaves_held core.limits keeps.last session asked moment none held in
        leaves left.answer none (omega (arith, count, keeps.stands.count)) left.rules left.held
    by None none false full_is false ends_is needs = absurd (cc needs)

-- a core that is as it was keeps the same run
pub keeps_same : (before after : AtCore) (run : List History) → KeepsRun before run → after ≡ before → KeepsRun after run
keeps_same before after run keeps same = subst (λ (c : AtCore). KeepsRun c run) (sym same) keeps

more_room : (held : Option Ticket) (before after : ℕ) → before ≤ after → HasRoom held before → HasRoom held after
more_room None before after more room = tt
more_room (Some ticket) before after more room = λ some. omega (arith, room some, more)

pub keeps_refused : (before after : AtCore) (run : List History) → KeepsRun before run → IsAsBefore before after → KeepsRun after run
keeps_refused before after run keeps is =
    keeps_same (record before { spare = after.spare }) after run (record {
      legal = keeps.legal;
      last = keeps.last;
      last_is = keeps.last_is;
      stands = record {
        base = keeps.stands.base;
        count = keeps.stands.count;
        moment = keeps.stands.moment;
        latest = keeps.stands.latest;
        slots_are = keeps.stands.slots_are;
        seat_is = keeps.stands.seat_is;
        stopped_is = keeps.stands.stopped_is;
        room = more_room before.held before.spare after.spare is.room keeps.stands.room;
      };
      moment = keeps.moment;
      below = keeps.below;
    }) is.same

-- what a core has beside its run
pub record IsLike (before after : AtCore) : Type 0 where
  pub count : after.count ≡ before.count
  pub held : after.held ≡ before.held

pub like_same : (before after : AtCore) → after ≡ before → IsLike before after
like_same before after same = record { count = ap (λ (c : AtCore). c.count) same; held = ap (λ (c : AtCore). c.held) same }

pub like_refused : (before after : AtCore) → IsAsBefore before after → IsLike before after
like_refused before after is = record { count = ap (λ (c : AtCore). c.count) is.same; held = ap (λ (c : AtCore). c.held) is.same }

-- a core whose run stays has the room that it needs
pub records_stay : (before after : AtCore) (histories later : Vec HistoryInMemory) (next there : Option (Vec Mark)) → Records before histories next
    → later.items ≡ histories.items → IsRoom later there → (IsSome next → IsSome there) → IsLike before after → KeepsRun after (run_of histories.items)
    → Records after later there
records_stay before after histories later next there records items room kept like keeps = record {
  keeps = subst (λ (l : List HistoryInMemory). KeepsRun after (run_of l)) (sym items) keeps;
  present = subst LastHasRoom (sym items) records.present;
  room = room;
  ready = λ full held. kept (records.ready (omega (arith, full, like.count)) (subst (λ (h : Option Ticket). IsSome h) like.held held));
}

-- a step that is neither left to stand nor refused makes its mark
pub is_marked : (before after : AtCore) (history : History) (session : SessionId) (moment : ℕ) (asked : MarkStep) (turn : Turn) → IsSettled turn → (turn ≡ Refused → ⊥)
    → is_spent (next_history history) ≡ false → IsStep before history session moment asked turn after → IsMarked before (next_history history) session moment asked turn after
is_marked before after history session moment asked turn goes taken more (step_marked _ is) = is
is_marked before after history session moment asked turn goes taken more (step_stood _ rules wait_is same) = absurd goes
is_marked before after history session moment asked turn goes taken more (step_refused _ why same) = absurd (taken refl)
is_marked before after history session moment asked turn goes taken more (step_spent is same) = absurd (cc (is, more))

-- what a step that made a mark leaves
pub record Marks (before after : AtCore) (run : List History) (session : SessionId) (moment : ℕ) (asked : MarkStep) (turn : Turn) (mark : Mark) : Type 0 where
  pub takes : TakesStep before.limits run session moment asked turn (run_with_mark run mark)
  pub keeps : KeepsRun after (run_with_mark run mark)
  -- how many marks there are, and whether a ticket is out
  pub fresh : before.count ≡ MAX_MARKS → after.count ≡ 1
  pub counts : before.count ≢ MAX_MARKS → after.count ≡ before.count + 1
  pub opened : IsSome after.held → (is_open (reply_of turn) ≡ true) ⊎ IsSome (option_and_then (unless_given_back asked) before.held)
  pub last : History
  pub last_is : last_history run ≡ Some last
  pub rules : policy before.limits (next_history last) asked moment ≡ Reply (reply_of turn)
  pub seat_is : before.held ≡ seat (next_history last)

pub seat_next : (history : History) → seat (next_history history) ≡ seat history
seat_next history = elim (length history.marks == MAX_MARKS) as (λ b. seat (if b then turn_over history else history) ≡ seat history) [ true ↦ seat_turn_over history | false ↦ refl ]

count_next : (history : History) (mark : Mark) → (length history.marks ≡ MAX_MARKS → length (with_mark (next_history history) mark).marks ≡ 1)
    × (length history.marks ≢ MAX_MARKS → length (with_mark (next_history history) mark).marks ≡ length history.marks + 1)
count_next history mark =
    elim (length history.marks == MAX_MARKS) as (λ b. (length history.marks == MAX_MARKS) ≡ b
    → (length history.marks ≡ MAX_MARKS → length (with_mark (if b then turn_over history else history) mark).marks ≡ 1)
    × (length history.marks ≢ MAX_MARKS → length (with_mark (if b then turn_over history else history) mark).marks ≡ length history.marks + 1)) [
      | true ↦ λ e. let full : length history.marks ≡ MAX_MARKS = grind (arith, nat_tests) in (λ _. refl, λ other. absurd (other full))
      | false ↦ λ e. let some : length history.marks ≢ MAX_MARKS = grind (arith, nat_tests) in
          (λ all. absurd (some all), λ _. length-append history.marks (mark ∷ []))
    ] refl

opens_or_was_open : (reply_is : MarkReply) (ticket : Ticket) (still : Option Ticket) → IsSome (if is_open reply_is then Some ticket else still)
    → (is_open reply_is ≡ true) ⊎ IsSome still
opens_or_was_open reply.Open ticket still some = inl refl
opens_or_was_open (reply.Given number) ticket still some = inr some
opens_or_was_open reply.Empty ticket still some = inr some
opens_or_was_open reply.Done ticket still some = inr some
opens_or_was_open (reply.Held held) ticket still some = inr some
opens_or_was_open reply.Stopping ticket still some = inr some
opens_or_was_open reply.Late ticket still some = inr some

module _ (before after : AtCore) (run : List History) (keeps : KeepsRun before run) (session : SessionId) (asked : MarkStep) (turn : Turn) (moment : ℕ)
    (more : is_spent (next_history keeps.last) ≡ false) (limits : after.limits ≡ before.limits)
    (later : moment_before (joined run) ≤ moment) (within : moment ≤ MAX_MOMENT)
    (is : IsMarked before (next_history keeps.last) session moment asked turn after) where
  made_mark : Mark
  made_mark = mark_of session asked is.reply_is moment

  made_reply : is.reply_is ≡ reply_of turn
  unfolding made_mark
  made_reply = shows_reply before.limits (next_history keeps.last) made_mark turn is.shows

  made_moment : after.moment ≡ moment
  unfolding made_mark
  made_moment =
      is.stands.latest (omega (arith, length-append (next_history keeps.last).marks (made_mark ∷ [])))
      ∙ moment_at_end 0 (next_history keeps.last).marks made_mark

  makes : Marks before after run session moment asked turn made_mark
  unfolding made_mark
  makes =
      let legal = legal_last before run keeps in
      let below = below_next keeps.last keeps.below legal.base more in
      let now_last = last_run_with_mark run keeps.last made_mark keeps.last_is in
      let all = joined_run_with_mark run made_mark keeps.legal.turns_over in
      let counted = count_next keeps.last made_mark in
      record {
        takes = marked keeps.last is.reply_is keeps.last_is below is.rules is.shows refl;
        keeps = record {
          legal = subst (λ (l : Limits). IsLegalRun l (run_with_mark run made_mark)) (sym limits)
              (legal_run_with_mark before.limits run keeps.last made_mark keeps.legal keeps.last_is is.rules later within below);
          last = with_mark (next_history keeps.last) made_mark;
          last_is = now_last;
          stands = is.stands;
          moment = made_moment ∙ sym (ap moment_before all ∙ moment_at_end 0 (joined run) made_mark);
          below = below;
        };
        fresh = λ full. is.stands.count ∙ counted.0 (omega (arith, full, keeps.stands.count));
        counts = λ some. let n = counted.1 (omega (arith, some, keeps.stands.count)) in omega (arith, is.stands.count, n, keeps.stands.count);
        opened = λ some.
            let seat_now : after.held ≡ (if is_open is.reply_is then Some (record { ticket = next_number (next_history keeps.last); under = under_of asked })
            else option_and_then (unless_given_back asked) before.held) =
            is.stands.seat_is ∙ (seat_with_mark (next_history keeps.last) made_mark
            ∙ ap (λ (h : Option Ticket). if is_open is.reply_is then Some (record { ticket = next_number (next_history keeps.last); under = under_of asked })
            else option_and_then (unless_given_back asked) h) (seat_next keeps.last ∙ sym keeps.stands.seat_is)) in
            subst (λ (r : MarkReply). (is_open r ≡ true) ⊎ IsSome (option_and_then (unless_given_back asked) before.held)) made_reply
            (opens_or_was_open is.reply_is (record { ticket = next_number (next_history keeps.last); under = under_of asked }) (option_and_then (unless_given_back asked) before.held)
            (subst (λ (h : Option Ticket). IsSome h) seat_now some));
        last = keeps.last;
        last_is = keeps.last_is;
        rules = is.rules ∙ ap Reply made_reply;
        seat_is = keeps.stands.seat_is ∙ sym (seat_next keeps.last);
      }

  -- the same of the mark as the code has it
  pub made : (mark : Mark) → mark ≡ mark_of session asked (reply_of turn) after.moment → Marks before after run session moment asked turn mark
  unfolding made_mark
  made mark is_so =
      let same : mark ≡ made_mark =
      is_so ∙ (ap (λ (r : MarkReply). mark_of session asked r after.moment) (sym made_reply) ∙ ap (mark_of session asked is.reply_is) made_moment) in
      subst (Marks before after run session moment asked turn) (sym same) makes

pub closes_none : (asked : MarkStep) → opens asked ≡ true → closes asked ≡ None
closes_none (Ask id mode way since) is = refl
closes_none (Seat under since) is = refl
closes_none (Close ticket keep) is = absurd (cc is)
closes_none (Put id mode life secret) is = refl
closes_none (Clear id mode) is = refl
closes_none Flush is = refl
closes_none (Peek id mode) is = refl
closes_none Stop is = refl

-- a Close of the ticket that is out leaves none
none_still : (asked : MarkStep) (number : ℕ) (ticket : Ticket) → closes asked ≡ Some number → ticket.ticket ≡ number
    → IsSome (option_and_then (unless_given_back asked) (Some ticket)) → ⊥
none_still (Close other keep) number ticket is same some =
    let e : other ≡ number = cc is in
    let back : (other == ticket.ticket) ≡ true = grind (arith, nat_tests) in
    absurd (cc (subst (λ (b : Bool). IsSome {T = Ticket} (if b then None else Some ticket)) back some))
none_still (Ask id mode way since) number ticket is same some = absurd (cc is)
none_still (Seat under since) number ticket is same some = absurd (cc is)
none_still (Put id mode life secret) number ticket is same some = absurd (cc is)
none_still (Clear id mode) number ticket is same some = absurd (cc is)
none_still Flush number ticket is same some = absurd (cc is)
none_still (Peek id mode) number ticket is same some = absurd (cc is)
none_still Stop number ticket is same some = absurd (cc is)

-- what the room was made for
pub record HasRoomFor (core : AtCore) (histories : Vec HistoryInMemory) (next there : Option (Vec Mark)) (moment : ℕ) (asked : MarkStep) : Type 0 where
  pub records : Records core histories next
  pub more : core.base + core.count ≢ last_base
  pub own : IfSome (closes asked) (IsOut (run_of histories.items))
  pub kept : IsSome next → IsSome there
  pub room : needs_room core asked (comes_to_seat (policy core.limits (next_history records.keeps.last) asked moment)) ≡ true → IsSome there

-- a core that made a mark has the room that it needs
pub records_marked : (before after : AtCore) (histories later : Vec HistoryInMemory) (next there ending : Option (Vec Mark)) (session : SessionId) (moment : ℕ) (asked : MarkStep) (turn : Turn) (mark : Mark)
    → HasRoomFor before histories next there moment asked → Marks before after (run_of histories.items) session moment asked turn mark
    → run_of later.items ≡ run_with_mark (run_of histories.items) mark → LastHasRoom later.items → IsRoom later ending → (next_start before ≡ None → ending ≡ there) → Records after later ending
records_marked before after histories later next there ending session moment asked turn mark has marks items present room same = record {
  keeps = subst (KeepsRun after) (sym items) marks.keeps;
  present = present;
  room = room;
  ready = λ full held.
      elim (before.count == MAX_MARKS) as (λ b. (before.count == MAX_MARKS) ≡ b → IsSome ending) [
        | true ↦ λ e. let all : before.count ≡ MAX_MARKS = grind (arith, nat_tests) in let one = marks.fresh all in absurd (omega (arith, one, full))
        | false ↦ λ e.
            let some : before.count ≢ MAX_MARKS = grind (arith, nat_tests) in
            let counted = marks.counts some in
            let none : next_start before ≡ None =
            ap (λ (b : Bool). if b then Some (record { base = before.base + MAX_MARKS; held = before.held; stopped = before.stopped }) else None) e in
            subst (λ (o : Option (Vec Mark)). IsSome o) (sym (same none)) (by (omega (arith, counted, full)) (closes asked) refl (marks.opened held))
      ] refl;
}
  where
    last : History
    last = has.records.keeps.last

    last_is : marks.last ≡ last
    last_is = let e : Some marks.last ≡ Some has.records.keeps.last = sym marks.last_is ∙ has.records.keeps.last_is in cc

    by : before.count + 1 ≡ MAX_MARKS → (closed : Option ℕ) → closes asked ≡ closed
        → (is_open (reply_of turn) ≡ true) ⊎ IsSome (option_and_then (unless_given_back asked) before.held) → IsSome there
    by ends None none held =
        has.room (sym (needs_last before asked _ (ap is_some none) ends)
        ∙ subst (λ (h : History). leaves_ticket (is_some before.held) (comes_to_seat (policy before.limits (next_history h) asked moment)) ≡ true) last_is
        (subst (λ (h : Option Ticket). leaves_ticket (is_some h) (comes_to_seat (policy before.limits (next_history marks.last) asked moment)) ≡ true) (sym marks.seat_is)
        (held_leaves before.limits (next_history marks.last) asked moment (reply_of turn) marks.rules
        (subst (λ (h : Option Ticket). (is_open (reply_of turn) ≡ true) ⊎ IsSome (option_and_then (unless_given_back asked) h)) marks.seat_is held))))
    by ends (Some number) is (inl opened) = absurd (cc (is, opens_keeps before.limits (next_history marks.last) asked moment (reply_of turn) marks.rules opened))
    by ends (Some number) is (inr still) =
        let out = held_out_is before (run_of histories.items) has.records.keeps has.more number
        (subst (λ (o : Option ℕ). IfSome o (IsOut (run_of histories.items))) is has.own) in
        absurd (none_still asked number out.0 is out.2 (subst (λ (h : Option Ticket). IsSome (option_and_then (unless_given_back asked) h)) out.1 still))

pub not_refused : (reply : SteppedReply) → turn_of (Ok reply) ≡ Refused → ⊥
not_refused (told.Given grant) is = cc is
not_refused told.Empty is = cc is
not_refused (told.Open ticket) is = cc is
not_refused (told.Stand wait) is = cc is
not_refused told.Done is = cc is
not_refused (told.Held held) is = cc is
not_refused told.Stopping is = cc is
not_refused told.Late is = cc is

-- a step that found no memory, and one that has to stand, leave the run
pub took_refused : (before after : AtCore) (run : List History) (keeps : KeepsRun before run) (session : SessionId) (moment : ℕ) (asked : MarkStep)
    → IsStep before keeps.last session moment asked Refused after → TakesStep before.limits run session moment asked Refused run
took_refused before after run keeps session moment asked (step_marked more is) = absurd is.shows
took_refused before after run keeps session moment asked (step_refused more why same) =
    refused keeps.last keeps.last_is (below_next keeps.last keeps.below (legal_last before run keeps).base more) (wants why) refl

pub record Stands (before after : AtCore) (run : List History) (session : SessionId) (moment : ℕ) (asked : MarkStep) (wait : Wait) : Type 0 where
  pub takes : TakesStep before.limits run session moment asked (Stand wait) run
  pub same : after ≡ before

pub took_stood : (before after : AtCore) (run : List History) (keeps : KeepsRun before run) (session : SessionId) (moment : ℕ) (asked : MarkStep) (wait : Wait)
    → before.base + before.count ≢ last_base → IsStep before keeps.last session moment asked (Stand wait) after → Stands before after run session moment asked wait
took_stood before after run keeps session moment asked wait some (step_marked more is) = absurd is.shows
took_stood before after run keeps session moment asked wait some (step_stood more rules wait_is same) =
    record { takes = stood keeps.last keeps.last_is (not_spent_run before run keeps some) rules wait_is refl; same = same }

-- a step's moment by the run
pub moment_is : (core : AtCore) (run : List History) (reading : ℕ) → KeepsRun core run → moment_of core.moment reading ≡ next_moment run reading
moment_is core run reading keeps = ap (λ (m : ℕ). moment_of m reading) keeps.moment

pub added_later : (core : AtCore) (run items later : List History) (start : Option Start) (mark : Mark) → KeepsRun core run → start ≡ next_start core
    → items ≡ run → later ≡ added start items mark → later ≡ run_with_mark run mark
added_later core run items later start mark keeps starts same is =
    is ∙ (ap (λ (s : Option Start). added s items mark) starts ∙ (ap (λ (l : List History). added (next_start core) l mark) same ∙ added_is core run keeps mark))

pub not_stand : (reply : SteppedReply) → ((wait : Wait) → reply ≡ told.Stand wait → ⊥) → IsSettled (turn_of (Ok reply))
not_stand (told.Stand wait) other = absurd (other wait refl)
not_stand (told.Given grant) other = tt
not_stand told.Empty other = tt
not_stand (told.Open ticket) other = tt
not_stand told.Done other = tt
not_stand (told.Held held) other = tt
not_stand told.Stopping other = tt
not_stand told.Late other = tt
