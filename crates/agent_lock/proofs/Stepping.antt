-- A step under the lock, from what the core says of it.
use Rattle.std.proofs.Common.{◌≡◌, ◌≢◌, ℕ, ◌+◌, ◌^◌, ◌%◌, ◌<◌, ◌≤◌, ◌==◌, Bool, true, false, cond, List, [], ◌∷◌, ◌++◌, length, Option, Some, None, refl, ap, sym, ◌∙◌, subst, arith, length-append}
use Rattle.std.{proofs.lemmas.{List.{map-append, length-map, Sums.fold-append}, Bool.{eqb-true, eqb-false}}, specs.Prelude.{vec_capacity, IsTrue, ◌↔◌}}
use Rattle.{agent_ports.specs.declared.session.SessionId.SessionId, cache_policy.specs.declared.{bounds.TheConstants.MAX_MARKS, life.Limits.Limits, mark.{Mark.Mark, MarkStep.MarkStep, MarkReply.MarkReply}, history.Held.Held}}
use Rattle.cache_policy.specs.{declared.{tally.Tally.Tally, trace.Trace.Trace}, Bare.{bare, bare_mark, bare_step}, Desks.Shows, Entries.stored, Histories.{History, with_mark}, Legal.IsLegal, Policy.{Reply, policy}}
use Rattle.cache_policy.specs.{Runs.{turn_over, next_history, is_spent, last_base, moment_before, moment_of}, Seat.{seat, stopped as has_stopped}, Tallies.{with_history, with_one, one_if, IsSound}, Traces.{trace_mark, trace_step, reply_of}}
use Rattle.cache_policy.{specs.Turns.{Turn, Given, Empty, Open, Stand, Done, Held as WhetherHeld, Stopping, Late, Refused}, proofs.BareLemmas.{seat_bare, stopped_bare, policy_bare, legal_bare}}
use Rattle.cache_policy.proofs.{Growing.{legal_with_mark, legal_turn_over, seat_turn_over}, GrowingRuns.spent_all, Tallying.{tally_with_mark, tally_turn_over}}
use Rattle.agent_core.specs.Cores.{AtCore, HasRoom, StandsFor, IsStep, IsMarked, IsAsBefore, mark_of}
use Rattle.agent_lock.specs.{declared.state.{Start.Start, State.State}, Attempts.IfGiven, Counting.{counted, totals, AreSmall}, Journals.{IsJournaled, marked, stood, refused, spent, IsLocked, tally_at, carried_on}}
use Rattle.agent_lock.specs.Keeping.{journal_of, next_start, started, carried_to, seen, IsKept}
use Rattle.cache_policy.specs.Policy as ruling
use Rattle.agent_core.specs.Cores as step

-- without the bytes of secrets, a history goes on alike
bare_with_mark : (history : History) (mark : Mark) → bare (with_mark history mark) ≡ with_mark (bare history) (bare_mark mark)
bare_with_mark history mark = let marks = map-append bare_mark history.marks (mark ∷ []) in λ i. record (bare history) { marks = marks i }

bare_next : (history : History) → bare (next_history history) ≡ next_history (bare history)
bare_next history =
    either (length history.marks == MAX_MARKS) ∙ ap (λ (n : ℕ). cond (n == MAX_MARKS) (turn_over (bare history)) (bare history)) (sym (length-map history.marks bare_mark))
  where
    either : (b : Bool) → bare (cond b (turn_over history) history) ≡ cond b (turn_over (bare history)) (bare history)
    either true = let held = sym (seat_bare history) in let stops = sym (stopped_bare history) in λ i. record { base = history.base + MAX_MARKS; held = held i; stopped = stops i; marks = [] }
    either false = refl

seat_next : (history : History) → seat (next_history history) ≡ seat history
seat_next history = either (length history.marks == MAX_MARKS) where
  either : (b : Bool) → seat (cond b (turn_over history) history) ≡ seat history
  either true = seat_turn_over history
  either false = refl

-- the next history is legal, has room for a mark, and no later moment
record IsReady (limits : Limits) (next : History) (moment : ℕ) : Type 0 where
  pub legal : IsLegal limits next
  pub few : length next.marks < MAX_MARKS
  pub later : moment_before next.marks ≤ moment
  pub going : next.base < last_base

less : (a b : ℕ) → a ≤ b → (a ≡ b → ⊥) → a < b
less a b le ne = grind (arith, le, ne)

-- a base below the last one has room for a whole history
whole_below : (base : ℕ) → base % MAX_MARKS ≡ 0 → base < last_base → base + MAX_MARKS ≤ last_base
whole_below base whole below = omega (arith, whole, below)

ready : (core : AtCore) (history : History) (reading : ℕ) → IsLegal core.limits history → StandsFor core history → core.base < last_base → core.base + core.count ≢ last_base
    → IsReady core.limits (next_history history) (moment_of core.moment reading)
ready core history reading legal stands below more = either (length history.marks == MAX_MARKS) refl where
  behind : (marks : List Mark) → history.marks ≡ marks → moment_before history.marks ≤ core.moment
  behind [] is = omega (arith, ap moment_before is)
  behind (mark ∷ marks) is = let e = stands.latest (omega (arith, ap (λ (l : List Mark). length l) is)) in omega (arith, e)

  either : (b : Bool) → (length history.marks == MAX_MARKS) ≡ b → IsReady core.limits (cond b (turn_over history) history) (moment_of core.moment reading)
  either true is =
      let full = eqb-true (length history.marks) MAX_MARKS is in
      let fits = whole_below history.base legal.base (omega (arith, below, stands.base)) in
      let left : history.base + MAX_MARKS ≡ last_base → ⊥ = λ e. more (omega (arith, e, full, stands.base, stands.count)) in
      record { legal = legal_turn_over core.limits history legal full; few = omega arith; later = omega arith; going = less _ _ fits left }
  either false is = record {
    legal = legal;
    few = less _ _ legal.few (eqb-false (length history.marks) MAX_MARKS is);
    later = let b = behind history.marks refl in omega (arith, b);
    going = omega (arith, below, stands.base);
  }

-- the mark of a step that was made
pub record IsMade (core : AtCore) (history : History) (session : SessionId) (moment : ℕ) (asked : MarkStep) (turn : Turn) (after : AtCore) : Type 0 where
  pub going : is_spent (next_history history) ≡ false
  pub made : IsMarked core (next_history history) session moment asked turn after

-- what the mark says is what the turn says
shows_reply : (limits : Limits) (before : History) (mark : Mark) (turn : Turn) → Shows limits before mark turn → reply_of turn ≡ Some mark.reply
shows_reply limits before mark (Given grant) shows = ap (λ (r : MarkReply). Some r) (sym shows.0)
shows_reply limits before mark Empty shows = ap (λ (r : MarkReply). Some r) (sym shows)
shows_reply limits before mark (Open number) shows = ap (λ (r : MarkReply). Some r) (sym shows.0)
shows_reply limits before mark (Stand wait) shows = absurd shows
shows_reply limits before mark Done shows = ap (λ (r : MarkReply). Some r) (sym shows)
shows_reply limits before mark (WhetherHeld there) shows = ap (λ (r : MarkReply). Some r) (sym shows)
shows_reply limits before mark Stopping shows = ap (λ (r : MarkReply). Some r) (sym shows)
shows_reply limits before mark Late shows = ap (λ (r : MarkReply). Some r) (sym shows)
shows_reply limits before mark Refused shows = absurd shows

-- a step with an answer made its mark
made_of : {core : AtCore} {history : History} {session : SessionId} {moment : ℕ} {asked : MarkStep} {turn : Turn} {after : AtCore} (answer : MarkReply)
    → IsLegal core.limits history → StandsFor core history → core.base + core.count ≢ last_base → IsStep core history session moment asked turn after → reply_of turn ≡ Some answer
    → IsMade core history session moment asked turn after
made_of answer legal stands more (step.marked going made) is = record { going = going; made = made }
made_of answer legal stands more (step.stood going rules wait same) is = absurd (cc is)
made_of answer legal stands more (step.refused going wants same) is = absurd (cc is)
made_of {core} {history} answer legal stands more (step.spent all same) is =
    absurd (more (omega (arith, spent_all core.limits history legal all, stands.base, stands.count)))

-- what the core shows of the journal
module _ (state : State) (kept : IsKept state) where
  abbrev history : History
  history = kept.stands.history

  abbrev journal : History
  journal = journal_of state.start state.traces.items

  base_is : state.core.base ≡ journal.base
  base_is = kept.stands.stands.base ∙ ap (λ (h : History). h.base) kept.stands.bare_is

  held_is : state.core.held ≡ seat journal
  held_is = kept.stands.stands.seat_is ∙ sym (seat_bare history) ∙ ap seat kept.stands.bare_is

  pub stopped_is : state.core.stopped ≡ has_stopped journal
  stopped_is = kept.stands.stands.stopped_is ∙ sym (stopped_bare history) ∙ ap has_stopped kept.stands.bare_is

  next_is : bare (next_history history) ≡ next_history journal
  next_is = bare_next history ∙ ap next_history kept.stands.bare_is

  len_is : length state.traces.items ≡ length journal.marks
  len_is = sym (length-map state.traces.items trace_mark)

  started_is : started (next_start state) journal ≡ next_history journal
  started_is = ap (λ (n : ℕ). started (cond (n == MAX_MARKS) (Some begins) None) journal) len_is ∙ either (length journal.marks == MAX_MARKS) where
    begins : Start
    begins = record { base = state.core.base + MAX_MARKS; held = state.core.held; stopped = state.core.stopped }

    either : (b : Bool) → started (cond b (Some begins) None) journal ≡ cond b (turn_over journal) journal
    either true = λ i. record { base = base_is i + MAX_MARKS; held = held_is i; stopped = stopped_is i; marks = [] }
    either false = refl

  carried_is : carried_to (next_start state) state.carried state.total ≡ carried_on (seen state)
  carried_is = ap (λ (n : ℕ). carried_to (cond (n == MAX_MARKS) (Some begins) None) state.carried state.total) len_is ∙ either (length journal.marks == MAX_MARKS) where
    begins : Start
    begins = record { base = state.core.base + MAX_MARKS; held = state.core.held; stopped = state.core.stopped }

    either : (b : Bool) → carried_to (cond b (Some begins) None) state.carried state.total ≡ cond b (tally_at (seen state)) state.carried
    either true = kept.total
    either false = refl

  -- the tally before the mark
  tally_is : with_history state.core.limits (carried_on (seen state)) (next_history journal) ≡ state.total
  tally_is = either (length journal.marks == MAX_MARKS) ∙ sym kept.total where
    either : (b : Bool) → with_history state.core.limits (cond b (tally_at (seen state)) state.carried) (cond b (turn_over journal) journal) ≡ tally_at (seen state)
    either true = tally_turn_over state.core.limits (tally_at (seen state)) journal refl
    either false = refl

  numbers_next : (carried_on (seen state)).marks ≡ (next_history journal).base
  numbers_next = either (length journal.marks == MAX_MARKS) refl where
    either : (b : Bool) → (length journal.marks == MAX_MARKS) ≡ b → (cond b (tally_at (seen state)) state.carried).marks ≡ (cond b (turn_over journal) journal).base
    either true is = let full = eqb-true (length journal.marks) MAX_MARKS is in omega (arith, kept.numbers, full)
    either false is = kept.numbers

  pub marks_few : state.core.base < last_base → state.total.marks ≤ 2 ^ 63
  marks_few below =
      let few = kept.stands.legal.few in
      let same = length-map kept.stands.history.marks bare_mark in
      let marks = ap (λ (h : History). length h.marks) kept.stands.bare_is in
      omega (arith, ap (λ (t : Tally). t.marks) kept.total, kept.numbers, base_is, below, few, same, marks)

-- The state after a step is kept, and the journal has the step's mark, if it made one.
pub record IsStepped (state : State) (session : SessionId) (moment : ℕ) (asked : MarkStep) (turn : Turn) (after : State) : Type 0 where
  pub kept : IsKept after
  pub journaled : IsJournaled (seen state) session moment asked turn (seen after)

-- A trace of a step was added.
pub record IsAdded (state : State) (core : AtCore) (trace : Trace) (stores : Bool) (after : State) : Type 0 where
  pub core_is : after.core ≡ core
  pub journal_is : journal_of after.start after.traces.items ≡ with_mark (started (next_start state) (journal_of state.start state.traces.items)) (trace_mark trace)
  pub carried_is : after.carried ≡ carried_to (next_start state) state.carried state.total
  pub total_is : after.total ≡ with_one state.total (trace_mark trace) (one_if stores)
  pub sound : IsSound after.total
  pub room : MAX_MARKS ≤ vec_capacity after.traces

-- The trace is that of a step with this answer.
pub record IsTraceOf (state : State) (core : AtCore) (session : SessionId) (asked : MarkStep) (answer : MarkReply) (trace : Trace) (stores : Bool) : Type 0 where
  pub session_is : trace.session ≡ session
  pub step_is : trace_step trace.step ≡ bare_step asked
  pub reply_is : trace.reply ≡ answer
  pub moment_is : trace.moment ≡ core.moment
  pub stores_are : (before : History) (moment : ℕ) → seat before ≡ state.core.held → length (stored state.core.limits before (trace_step trace.step) moment) ≡ one_if stores

module _ (state : State) (kept : IsKept state) (below : state.core.base < last_base) (going : state.core.base + state.core.count ≢ last_base)
    (core : AtCore) (session : SessionId) (reading : ℕ) (asked : MarkStep) (turn : Turn)
    (taken : IsStep state.core kept.stands.history session (moment_of state.core.moment reading) asked turn core) (limits_are : core.limits ≡ state.core.limits)
    (answer : MarkReply) (is : reply_of turn ≡ Some answer) (trace : Trace) (stores : Bool) (traced : IsTraceOf state core session asked answer trace stores)
    (after : State) (added : IsAdded state core trace stores after) where
  abbrev moment : ℕ
  moment = moment_of state.core.moment reading

  made : IsMade state.core kept.stands.history session moment asked turn core
  made = made_of answer kept.stands.legal kept.stands.stands going taken is

  answer_is : made.made.reply_is ≡ answer
  answer_is = let shown = shows_reply state.core.limits (next_history kept.stands.history) (mark_of session asked made.made.reply_is moment) turn made.made.shows in cc (shown, is)

  abbrev own : Mark
  own = mark_of session asked answer moment

  stands_after : StandsFor core (with_mark (next_history kept.stands.history) own)
  stands_after = subst (λ (r : MarkReply). StandsFor core (with_mark (next_history kept.stands.history) (mark_of session asked r moment))) answer_is made.made.stands

  ready_is : IsReady state.core.limits (next_history kept.stands.history) moment
  ready_is = ready state.core kept.stands.history reading kept.stands.legal kept.stands.stands below going

  rules : policy state.core.limits (next_history kept.stands.history) asked moment ≡ Reply answer
  rules = made.made.rules ∙ ap (λ (r : MarkReply). Reply r) answer_is

  legal_after : IsLegal state.core.limits (with_mark (next_history kept.stands.history) own)
  legal_after = legal_with_mark state.core.limits (next_history kept.stands.history) own ready_is.legal rules ready_is.later (let w = kept.stands.stands.moment in omega (arith, w)) ready_is.going ready_is.few

  moment_core : core.moment ≡ moment
  moment_core =
      let some : 0 < length ((next_history kept.stands.history).marks ++ own ∷ []) = omega (arith, length-append (next_history kept.stands.history).marks (own ∷ [])) in
      stands_after.latest some ∙ fold-append (λ (_ : ℕ) (mark : Mark). mark.moment) 0 (next_history kept.stands.history).marks (own ∷ [])

  trace_is : trace_mark trace ≡ bare_mark own
  trace_is = let s = traced.session_is in let t = traced.step_is in let r = traced.reply_is in let m = traced.moment_is ∙ moment_core in
      λ i. record { session = s i; step = t i; reply = r i; moment = m i }

  journal_after : journal_of after.start after.traces.items ≡ with_mark (next_history (journal state kept)) (bare_mark own)
  journal_after = added.journal_is ∙ ap (λ (h : History). with_mark h (trace_mark trace)) (started_is state kept) ∙ ap (with_mark (next_history (journal state kept))) trace_is

  bare_after : bare (with_mark (next_history kept.stands.history) own) ≡ journal_of after.start after.traces.items
  bare_after = bare_with_mark (next_history kept.stands.history) own ∙ ap (λ (h : History). with_mark h (bare_mark own)) (next_is state kept) ∙ sym journal_after

  core_limits : after.core.limits ≡ state.core.limits
  core_limits = ap (λ (k : AtCore). k.limits) added.core_is ∙ limits_are

  one_stored : length (stored state.core.limits (next_history (journal state kept)) (trace_mark trace).step (trace_mark trace).moment) ≡ one_if stores
  one_stored = traced.stores_are (next_history (journal state kept)) trace.moment (seat_next (journal state kept) ∙ sym (held_is state kept))

  total_after : after.total ≡ tally_at (seen after)
  total_after =
      let now = ap (λ (h : History). with_history state.core.limits (carried_on (seen state)) h) (journal_after ∙ ap (with_mark (next_history (journal state kept))) (sym trace_is)) in
      let more = tally_with_mark state.core.limits (carried_on (seen state)) (next_history (journal state kept)) (trace_mark trace) in
      let stores_one = ap (with_one (with_history state.core.limits (carried_on (seen state)) (next_history (journal state kept))) (trace_mark trace)) one_stored in
      let before = ap (λ (t : Tally). with_one t (trace_mark trace) (one_if stores)) (tally_is state kept) in
      let carried = ap (λ (t : Tally). with_history state.core.limits t (journal_of after.start after.traces.items)) (added.carried_is ∙ carried_is state kept) in
      let limits_now = ap (λ (l : Limits). with_history l after.carried (journal_of after.start after.traces.items)) core_limits in
      added.total_is ∙ sym (limits_now ∙ carried ∙ now ∙ more ∙ stores_one ∙ before)

  pub marked_step : IsStepped state session moment asked turn after
  marked_step = record {
    kept = record {
      stands = record {
        history = with_mark (next_history kept.stands.history) own;
        legal = subst (λ (l : Limits). IsLegal l (with_mark (next_history kept.stands.history) own)) (sym core_limits) legal_after;
        stands = subst (λ (k : AtCore). StandsFor k (with_mark (next_history kept.stands.history) own)) (sym added.core_is) stands_after;
        bare_is = bare_after;
      };
      total = total_after;
      sound = added.sound;
      numbers = ap (λ (t : Tally). t.marks) (added.carried_is ∙ carried_is state kept) ∙ numbers_next state kept ∙ ap (λ (h : History). h.base) (sym journal_after);
      room = added.room;
    };
    journaled =
        marked answer (ap is_spent (sym (next_is state kept)) ∙ made.going)
        (ap (λ (h : History). policy state.core.limits h (bare_step asked) moment) (sym (next_is state kept)) ∙ policy_bare state.core.limits (next_history kept.stands.history) asked moment ∙ rules)
        is journal_after (added.carried_is ∙ carried_is state kept);
  }

-- A step that made no mark, and left the core as it was, but for its room.
as_same : (before after : AtCore) → after ≡ before → IsAsBefore before after
as_same before after e = record {
  same = e ∙ (let spare = ap (λ (k : AtCore). k.spare) (sym e) in λ i. record before { spare = spare i });
  room = omega (arith, ap (λ (k : AtCore). k.spare) e);
}

wider : (held : Option Held) (spare more : ℕ) → spare ≤ more → HasRoom held spare → HasRoom held more
wider None spare more le room = tt
wider (Some held) spare more le room = λ some. let r = room some in omega (arith, r, le)

stands_on : (before after : AtCore) (history : History) → IsAsBefore before after → StandsFor before history → StandsFor after history
stands_on before after history same stands =
    subst (λ (k : AtCore). StandsFor k history) (sym same.same) (record {
      base = stands.base;
      count = stands.count;
      moment = stands.moment;
      latest = stands.latest;
      slots_are = stands.slots_are;
      seat_is = stands.seat_is;
      stopped_is = stands.stopped_is;
      room = wider before.held before.spare after.spare same.room stands.room;
    })

abbrev with_core : State → AtCore → State
with_core state core = record state { core = core }

unmarked_kept : (state : State) (core : AtCore) → IsKept state → IsAsBefore state.core core → IsKept (with_core state core)
unmarked_kept state core kept same =
    let limits_same = ap (λ (k : AtCore). k.limits) (sym same.same) in
    record {
      stands = record {
        history = kept.stands.history;
        legal = subst (λ (l : Limits). IsLegal l kept.stands.history) limits_same kept.stands.legal;
        stands = stands_on state.core core kept.stands.history same kept.stands.stands;
        bare_is = kept.stands.bare_is;
      };
      total = kept.total ∙ ap (λ (l : Limits). with_history l state.carried (journal_of state.start state.traces.items)) limits_same;
      sound = kept.sound;
      numbers = kept.numbers;
      room = kept.room;
    }

seen_same : (state : State) (core : AtCore) → core ≡ state.core → seen (with_core state core) ≡ seen state
seen_same state core e = λ i. record { core = e i; journal = journal_of state.start state.traces.items; carried = state.carried }

-- where the base and the count make up all marks, the next history is spent
spent_next : (core : AtCore) (history : History) → IsLegal core.limits history → StandsFor core history → core.base < last_base → core.base + core.count ≡ last_base
    → is_spent (next_history history) ≡ true
spent_next core history legal stands below all = either (length history.marks == MAX_MARKS) refl where
  either : (b : Bool) → (length history.marks == MAX_MARKS) ≡ b → is_spent (cond b (turn_over history) history) ≡ true
  either true is =
      let full = eqb-true (length history.marks) MAX_MARKS is in
      let e : history.base + MAX_MARKS ≡ last_base = omega (arith, full, all, stands.base, stands.count) in
      ap (λ (n : ℕ). n == last_base) e
  either false is =
      let few = less _ _ legal.few (eqb-false (length history.marks) MAX_MARKS is) in
      let fits = whole_below history.base legal.base (omega (arith, below, stands.base)) in
      absurd (omega (arith, few, fits, all, stands.base, stands.count))

module _ (state : State) (kept : IsKept state) where
  next_spent : {b : Bool} → is_spent (next_history kept.stands.history) ≡ b → is_spent (next_history (journal state kept)) ≡ b
  next_spent e = ap is_spent (sym (next_is state kept)) ∙ e

  rules_bare : (asked : MarkStep) (moment : ℕ) (ruling_is : ruling.Ruling) → policy state.core.limits (next_history kept.stands.history) asked moment ≡ ruling_is
      → policy state.core.limits (next_history (journal state kept)) (bare_step asked) moment ≡ ruling_is
  rules_bare asked moment ruling_is rules =
      ap (λ (h : History). policy state.core.limits h (bare_step asked) moment) (sym (next_is state kept)) ∙ policy_bare state.core.limits (next_history kept.stands.history) asked moment ∙ rules

  pub unmade : {session : SessionId} {moment : ℕ} {asked : MarkStep} {turn : Turn} {core : AtCore} → state.core.base + state.core.count ≢ last_base
      → IsStep state.core kept.stands.history session moment asked turn core → reply_of turn ≡ None → IsStepped state session moment asked turn (with_core state core)
  unmade {session} {moment} {asked} {turn} more (step.marked going made) none =
      absurd (cc (none, shows_reply state.core.limits (next_history kept.stands.history) (mark_of session asked made.reply_is moment) turn made.shows))
  unmade {session} {moment} {asked} {core = core} more (step.stood going rules wait same) none = record {
    kept = unmarked_kept state core kept (as_same state.core core same);
    journaled = stood (next_spent going) (rules_bare asked moment ruling.Stand rules) wait (seen_same state core same);
  }
  unmade {core = core} more (step.refused going wants same) none = record {
    kept = unmarked_kept state core kept same;
    journaled = refused (next_spent going) same refl;
  }
  unmade more (step.spent all same) none =
      absurd (more (let every = spent_all state.core.limits kept.stands.history kept.stands.legal all in omega (arith, every, kept.stands.stands.base, kept.stands.stands.count)))

  pub given_up : {session : SessionId} {moment : ℕ} {asked : MarkStep} {turn : Turn} {core : AtCore} → state.core.base < last_base → state.core.base + state.core.count ≡ last_base
      → IsStep state.core kept.stands.history session moment asked turn core → IsStepped state session moment asked turn (with_core state core)
  given_up below all (step.marked going made) = absurd (cc (spent_next state.core kept.stands.history kept.stands.legal kept.stands.stands below all, going))
  given_up below all (step.stood going rules wait same) = absurd (cc (spent_next state.core kept.stands.history kept.stands.legal kept.stands.stands below all, going))
  given_up below all (step.refused going wants same) = absurd (cc (spent_next state.core kept.stands.history kept.stands.legal kept.stands.stands below all, going))
  given_up {core = core} below all (step.spent is same) = record {
    kept = unmarked_kept state core kept (as_same state.core core same);
    journaled = spent (next_spent is) (seen_same state core same);
  }

module _ (state : State) (kept : IsKept state) (below : state.core.base < last_base) where
  pub spent_is : (b : Bool) → (IsTrue b ↔ (state.core.base + state.core.count ≡ last_base)) → b ≡ is_spent (next_history (journal state kept))
  spent_is true is = sym (next_spent state kept (spent_next state.core kept.stands.history kept.stands.legal kept.stands.stands below (is.0 refl)))
  spent_is false is = sym (next_spent state kept (either (is_spent (next_history kept.stands.history)) refl)) where
    either : (b : Bool) → is_spent (next_history kept.stands.history) ≡ b → is_spent (next_history kept.stands.history) ≡ false
    either true all =
        let every = spent_all state.core.limits kept.stands.history kept.stands.legal all in
        absurd (cc (is.1 (omega (arith, every, kept.stands.stands.base, kept.stands.stands.count))))
    either false e = e

  pub totals_given_up : {session : SessionId} {moment : ℕ} {asked : MarkStep} {turn : Turn} {core : AtCore} → state.core.base + state.core.count ≡ last_base
      → IsStep state.core kept.stands.history session moment asked turn core
      → totals state.total ≡ counted (is_spent (next_history (journal state kept))) (totals state.total) turn
  totals_given_up all (step.marked going made) = absurd (cc (spent_next state.core kept.stands.history kept.stands.legal kept.stands.stands below all, going))
  totals_given_up all (step.stood going rules wait same) = refl
  totals_given_up all (step.refused going wants same) = refl
  totals_given_up all (step.spent is same) = ap (λ (b : Bool). counted b (totals state.total) Stopping) (sym (next_spent state kept is))

  pub totals_small : AreSmall (totals state.total)
  totals_small =
      let few = marks_few state kept below in
      record { calls = few; given = omega (arith, few, kept.sound.given); empty = omega (arith, few, kept.sound.empty); opened = omega (arith, few, kept.sound.opened) }

pub is_locked : (state : State) → IsKept state → IsLocked (seen state)
is_locked state kept = record {
  legal = subst (λ (h : History). IsLegal state.core.limits h) kept.stands.bare_is (legal_bare state.core.limits kept.stands.history kept.stands.legal);
  stands = kept.stands;
}

-- a passphrase is given at the moment of the step
pub given_at : {core : AtCore} {history : History} {session : SessionId} {moment : ℕ} {asked : MarkStep} {after : AtCore} (turn : Turn)
    → IsStep core history session moment asked turn after → IfGiven turn (λ grant. grant.moment ≡ moment)
given_at (Given grant) (step.marked going made) = made.shows.3
given_at Empty taken = tt
given_at (Open number) taken = tt
given_at (Stand wait) taken = tt
given_at Done taken = tt
given_at (WhetherHeld there) taken = tt
given_at Stopping taken = tt
given_at Late taken = tt
given_at Refused taken = tt
