-- What a turn at a desk in memory does to the run: its promise.
use Rattle.std.specs.{Prelude.{◌≡◌, ℕ, ◌+◌, ◌<◌, ◌≤◌, List, [], ◌∷◌, ◌++◌, length, fold, min, Bool, true, false, Option, Some, None, IsSome, IfSome, refl, if◌then◌else◌}, Option.{option_and_then, is_some}, List.AllByRecursion}
use Rattle.std.proofs.Common.{ap, sym, ◌∙◌, subst, append-nil, append_assoc, zero, suc, add-one, add_assoc, arith}
use Rattle.{agent_ports.specs.{Leads.{Leads, none as stay, one}, Readings.{Readings, IsRead}, declared.session.SessionId.SessionId}, cache_policy.specs.declared.{life.Limits.Limits, entry.Entry.Entry, mark.{Mark.Mark, MarkStep.MarkStep}}}
use Rattle.cache_policy.specs.declared.{mark.{MarkStep.TheVariants.{Ask, Seat, Close, Put, Clear, Flush, Peek, Stop}, Way.{Way, TheVariants.{Quiet, Prompt}}}, bounds.TheConstants.MAX_MOMENT, wait.Wait.Wait, history.Held.Held as Ticket}
use Rattle.cache_policy.specs.{declared.step.Step.Step, Desks.{is_of, IsSpentRun, MakesMarks, marked as makes_mark, refused as makes_none, spent as makes_spent, IsTurn}, Histories.{History, with_mark}}
use Rattle.cache_policy.specs.{Legal.{NeverFall as MomentsNeverFall, IsLegalRun}, Live.live, Policy.{Reply, policy, prompt_ruling, ask_ruling}, Runs.{next_history, last_history, joined, start_of_run, moment_before}, Seat.{seat, stopped}}
use Rattle.cache_policy.specs.Turns.{Turn, Given, Empty, Open, Stand, Done, Held, Refused, Stopping, Late, FitsReply, FitsStep, asked_step, mark_step, wait_of, opens, closes, out_after, with_since, since_of, since_when}
use Rattle.cache_policy.{specs.Waits.{is_session, is_late}, proofs.{Lists.all_append, GrowingRuns.{joined_run_with_mark, start_run_with_mark, last_run_with_mark, last_is_legal}, ReturnLemmas.given_rightly}}
use Rattle.agent_core.specs.{declared.{stepped.Stepped.Stepped, opening.Opening.Opening, foreign.{Foreign.Foreign, ForeignStep.ForeignStep}, holder.Holder.Holder}, Openings.opening_step, Stepped.{turn_of_stepped, IsSettled, HandsBack}}
use Rattle.agent_core.specs.{Cores.mark_of, Foreigners.{ticket_of, close_of, told_step, foreign_step, holder_after}, Known.{run_seat, next_moment, TakesStep, marked, stood, refused, spent}}
use Rattle.agent_core.specs.Seating.{Seated, free as seat_free, own as seat_own, theirs as seat_theirs, over as seat_over}
use Rattle.agent_core.specs.Solos.{AtSolo, at_desk, OwnStep, PlaysStep, played, passed_over, PlaysNext, next_list, at_end, close_held, ClosesHolder, Waits, again, goes as wait_goes, gives_back, TakesOwn, at_once, waiting, IsNotBelow}
use Rattle.agent_core.{specs.Solos.{ReadingsNeverFall, NoneTriedBefore, IsTriedSince, IsRightly, TurnsSolo}, proofs.{Knowing.seat_next, Seating.stand_opens, Taken.{opening_since, opening_taken, first_taken, with_again, since_with}}}
use Rattle.cache_policy.specs.Policy as ruling
use Rattle.agent_core.specs.declared.stepped.Stepped.TheVariants as stepped
use Rattle.agent_core.specs.declared.foreign.ForeignStep.TheVariants as told
use Rattle.agent_core.proofs.Taken.{own_session}

-- the marks that a step adds
pub record Adds (limits : Limits) (run : List History) (session : SessionId) (asked : MarkStep) (turn : Turn) (after : List History) : Type 0 where
  pub start : start_of_run after ≡ start_of_run run
  pub own : List Mark
  pub marks : joined after ≡ joined run ++ own
  pub by : AllByRecursion (λ mark. mark.session ≡ session) own
  pub steps : AllByRecursion (λ mark. mark.step ≡ asked) own
  pub makes : IsSettled turn → (called : ℕ) (first : MarkStep) (since : Option ℕ) → asked ≡ with_since since first
      → IfSome since (λ moment. (opens first ≡ true) × (called ≤ moment)) → MakesMarks limits session called first after turn own

adds_none : (limits : Limits) (run after : List History) (session : SessionId) (asked : MarkStep) (turn : Turn) → after ≡ run
    → (IsSettled turn → (called : ℕ) (first : MarkStep) → MakesMarks limits session called first after turn []) → Adds limits run session asked turn after
adds_none limits run after session asked turn same makes = record {
  start = ap start_of_run same;
  own = [];
  marks = ap joined same ∙ sym (append-nil (joined run));
  by = tt;
  steps = tt;
  makes = λ goes called first since is waited. makes goes called first;
}

adds : (limits : Limits) (run : List History) (session : SessionId) (moment : ℕ) (asked : MarkStep) (turn : Turn) (after : List History) → IsLegalRun limits run
    → TakesStep limits run session moment asked turn after → Adds limits run session asked turn after
adds limits run session moment asked turn after legal (marked last answer last_is below rules shows is) =
    let mark : Mark = mark_of session asked answer moment in
    record {
      start = ap start_of_run is ∙ start_run_with_mark run mark;
      own = mark ∷ [];
      marks = ap joined is ∙ joined_run_with_mark run mark legal.turns_over;
      by = (refl, tt);
      steps = (refl, tt);
      makes = λ goes called first since asked_is waited. makes_mark mark (record {
        by = refl;
        asked_is = asked_is ∙ (with_again since first ∙ ap (λ (a : MarkStep). with_since (since_of a) first) (sym asked_is));
        waited = subst (λ (a : MarkStep). IfSome (since_of a) (λ moment. (opens first ≡ true) × (called ≤ moment))) (sym asked_is)
            (since_with since first (λ moment. (opens first ≡ true) × (called ≤ moment)) waited);
        before = next_history last;
        last = ap last_history is ∙ last_run_with_mark run last mark last_is;
        shows = shows;
      });
    }
adds limits run session moment asked turn after legal (stood {wait = wait} last last_is some rules wait_is is) =
    adds_none limits run after session asked (Stand wait) is (λ goes called first. absurd goes)
adds limits run session moment asked turn after legal (refused last last_is below why is) = adds_none limits run after session asked Refused is (λ goes called first. makes_none)
adds limits run session moment asked turn after legal (spent all is) =
    adds_none limits run after session asked Stopping is (λ goes called first. makes_spent (subst IsSpentRun (sym is) all))

-- how far a clock went on
pub record Reads (before after : Readings) : Type 0 where
  pub count : ℕ
  pub later : (k : ℕ) → after.later k ≡ before.later (k + count)

reads_none : (before after : Readings) → after ≡ before → Reads before after
reads_none before after same = record { count = 0; later = λ k. ap (λ (r : Readings). r.later k) same ∙ ap before.later (omega arith) }

reads_one : (before after : Readings) (reading : ℕ) → IsRead before reading after → Reads before after
reads_one before after reading read = record { count = 1; later = read.later }

reads_then : (before mid after : Readings) → Reads before mid → Reads mid after → Reads before after
reads_then before mid after first next = record {
  count = next.count + first.count;
  later = λ k. next.later k ∙ (first.later (k + next.count) ∙ ap before.later (add_assoc k next.count first.count));
}

-- what steps of others do: none of them was tried before
pub record Goes (before after : AtSolo) : Type 0 where
  pub limits : after.limits ≡ before.limits
  pub session : after.session ≡ before.session
  pub out : after.out ≡ before.out
  pub start : start_of_run after.run ≡ start_of_run before.run
  pub others : List Mark
  pub foreign : AllByRecursion (λ mark. is_of before.session mark ≡ false) others
  pub firsts : AllByRecursion (λ mark. since_of mark.step ≡ None) others
  pub marks : joined after.run ≡ joined before.run ++ others
  pub reads : Reads before.clock after.clock

goes_same : (before after : AtSolo) → after ≡ before → Goes before after
goes_same before after same = record {
  limits = ap (λ (s : AtSolo). s.limits) same;
  session = ap (λ (s : AtSolo). s.session) same;
  out = ap (λ (s : AtSolo). s.out) same;
  start = ap (λ (s : AtSolo). start_of_run s.run) same;
  others = [];
  foreign = tt;
  firsts = tt;
  marks = ap (λ (s : AtSolo). joined s.run) same ∙ sym (append-nil (joined before.run));
  reads = reads_none before.clock after.clock (ap (λ (s : AtSolo). s.clock) same);
}

goes_then : (before mid after : AtSolo) → Goes before mid → Goes mid after → Goes before after
goes_then before mid after first later = record {
  limits = later.limits ∙ first.limits;
  session = later.session ∙ first.session;
  out = later.out ∙ first.out;
  start = later.start ∙ first.start;
  others = first.others ++ later.others;
  foreign = all_append (λ mark. is_of before.session mark ≡ false) first.others later.others first.foreign
      (subst (λ (s : SessionId). AllByRecursion (λ mark. is_of s mark ≡ false) later.others) first.session later.foreign);
  firsts = all_append (λ mark. since_of mark.step ≡ None) first.others later.others first.firsts later.firsts;
  marks = later.marks ∙ (ap (λ (m : List Mark). m ++ later.others) first.marks ∙ append_assoc (joined before.run) first.others later.others);
  reads = reads_then before.clock mid.clock after.clock first.reads later.reads;
}

-- marks of another session
all_foreign : (own other : SessionId) (marks : List Mark) → is_session own other ≡ false → AllByRecursion (λ mark. mark.session ≡ other) marks
    → AllByRecursion (λ mark. is_of own mark ≡ false) marks
all_foreign own other [] foreign by = tt
all_foreign own other (mark ∷ later) foreign by =
    (subst (λ (s : SessionId). is_session own s ≡ false) (sym by.0) foreign, all_foreign own other later foreign by.1)

-- whose steps are never tried again
told_first : (holder : Option Holder) (session : SessionId) (step_of : ForeignStep) (asked : MarkStep) → told_step (ticket_of holder session) step_of ≡ Some asked
    → since_of asked ≡ None
told_first holder session (told.Ask id mode way) asked is = let e : Ask id mode way None ≡ asked = cc is in subst (λ (a : MarkStep). since_of a ≡ None) e refl
told_first holder session (told.Seat under) asked is = let e : Seat under None ≡ asked = cc is in subst (λ (a : MarkStep). since_of a ≡ None) e refl
told_first holder session (told.Put id mode life secret) asked is =
    let e : Put id mode life secret ≡ asked = cc is in subst (λ (a : MarkStep). since_of a ≡ None) e refl
told_first holder session (told.Clear id mode) asked is = let e : Clear id mode ≡ asked = cc is in subst (λ (a : MarkStep). since_of a ≡ None) e refl
told_first holder session told.Flush asked is = let e : Flush ≡ asked = cc is in subst (λ (a : MarkStep). since_of a ≡ None) e refl
told_first holder session (told.Peek id mode) asked is = let e : Peek id mode ≡ asked = cc is in subst (λ (a : MarkStep). since_of a ≡ None) e refl
told_first holder session told.Stop asked is = let e : Stop ≡ asked = cc is in subst (λ (a : MarkStep). since_of a ≡ None) e refl
told_first holder session (told.CloseHeld keep) asked is = by (ticket_of holder session) is
  where
    by : (ticket : Option ℕ) → close_of ticket keep ≡ Some asked → since_of asked ≡ None
    by None is = absurd (cc is)
    by (Some number) is = let e : Close number keep ≡ asked = cc is in subst (λ (a : MarkStep). since_of a ≡ None) e refl

all_first : (asked : MarkStep) (marks : List Mark) → since_of asked ≡ None → AllByRecursion (λ mark. mark.step ≡ asked) marks
    → AllByRecursion (λ mark. since_of mark.step ≡ None) marks
all_first asked [] first steps = tt
all_first asked (mark ∷ later) first steps = (ap since_of steps.0 ∙ first, all_first asked later first steps.1)

goes_step : (before : AtSolo) (foreign : Foreign) (after : AtSolo) → PlaysStep before foreign after → Goes before after
goes_step before foreign after (played asked turn other told_is takes same) =
    let more = adds before.limits before.run foreign.session _ asked turn after.run takes.was_legal takes.takes in
    record {
      limits = ap (λ (s : AtSolo). s.limits) same;
      session = ap (λ (s : AtSolo). s.session) same;
      out = ap (λ (s : AtSolo). s.out) same;
      start = more.start;
      others = more.own;
      foreign = all_foreign before.session foreign.session more.own other more.by;
      firsts = all_first asked more.own (told_first before.holder foreign.session foreign.step asked told_is) more.steps;
      marks = more.marks;
      reads = reads_one before.clock after.clock takes.reading takes.read;
    }
goes_step before foreign after (passed_over none same) = goes_same before after same

goes_list : {before : AtSolo} {list : List Foreign} {after : AtSolo} → Leads PlaysStep before list after → Goes before after
goes_list {before} stay = goes_same before before refl
goes_list {before} {after = after} (one {mid} {event} step later) = goes_then before mid after (goes_step before event mid step) (goes_list later)

-- a script that goes on changes nothing else
goes_script : (before after : AtSolo) (script : List (List Foreign)) → Goes (record before { script = script }) after → Goes before after
goes_script before after script goes = record {
  limits = goes.limits;
  session = goes.session;
  out = goes.out;
  start = goes.start;
  others = goes.others;
  foreign = goes.foreign;
  firsts = goes.firsts;
  marks = goes.marks;
  reads = goes.reads;
}

pub goes_next : (before : AtSolo) (listed : Bool) (after : AtSolo) → PlaysNext before listed after → Goes before after
goes_next before listed after (next_list list later is leads) = goes_script before after later (goes_list leads)
goes_next before listed after (at_end is same) = goes_same before after same

-- a step that stands
stays_run : (limits : Limits) (run : List History) (session : SessionId) (moment : ℕ) (asked : MarkStep) (wait : Wait) (after : List History)
    → TakesStep limits run session moment asked (Stand wait) after → after ≡ run
stays_run limits run session moment asked wait after (marked last answer last_is below rules shows is) = absurd shows
stays_run limits run session moment asked wait after (stood last last_is some rules wait_is is) = is

goes_stood : (before : AtSolo) (asked : MarkStep) (wait : Wait) (after : AtSolo) → out_after before.out asked (Stand wait) ≡ before.out
    → OwnStep before asked (Stand wait) after → Goes before after
goes_stood before asked wait after out step =
    let same = stays_run before.limits before.run before.session _ asked wait after.run step.takes.takes in
    record {
      limits = ap (λ (s : AtSolo). s.limits) step.same;
      session = ap (λ (s : AtSolo). s.session) step.same;
      out = ap (λ (s : AtSolo). s.out) step.same ∙ out;
      start = ap start_of_run same;
      others = [];
      foreign = tt;
      firsts = tt;
      marks = ap joined same ∙ sym (append-nil (joined before.run));
      reads = reads_one before.clock after.clock step.takes.reading step.takes.read;
    }

-- the step behind them
pub record Ends (asked : MarkStep) (before : AtSolo) (turn : Turn) (after : AtSolo) : Type 0 where
  pub last : AtSolo
  pub goes : Goes before last
  pub step : OwnStep last asked turn after

out_stood : (out : Option ℕ) (asked : MarkStep) (wait : Wait) → FitsReply asked (Stand wait) → out_after out asked (Stand wait) ≡ out
out_stood out (Ask id mode way since) wait fits = refl
out_stood out (Seat under since) wait fits = refl
out_stood out (Close ticket keep) wait fits = absurd (cc fits)
out_stood out (Put id mode life secret) wait fits = refl
out_stood out (Clear id mode) wait fits = refl
out_stood out Flush wait fits = refl
out_stood out (Peek id mode) wait fits = refl
out_stood out Stop wait fits = refl

ends_later : (asked : MarkStep) (before mid after : AtSolo) (turn : Turn) → Goes before mid → Ends asked mid turn after → Ends asked before turn after
ends_later asked before mid after turn goes ends = record { last = ends.last; goes = goes_then before mid ends.last goes ends.goes; step = ends.step }

pub goes_wait : (asked : MarkStep) (before : AtSolo) (wait : Wait) (after : AtSolo) → OwnStep before asked (Stand wait) after → Goes before after
goes_wait asked before wait after step = goes_stood before asked wait after (out_stood before.out asked wait step.takes.fits) step

ends_waits : (asked : MarkStep) {before : AtSolo} {turn : Turn} {after : AtSolo} → Waits asked before turn after → Ends asked before turn after
ends_waits asked {before} {turn} {after} (again {there = there} {mid = mid} {wait = wait} next step later) =
    ends_later asked before there after turn (goes_next before true there next)
    (ends_later asked there mid after turn (goes_wait asked there wait mid step) (ends_waits asked later))
ends_waits asked {before} {turn} {after} (wait_goes {there = there} next step) = record { last = there; goes = goes_next before true there next; step = step }
ends_waits asked {before} {turn} {after} (gives_back {there = there} none closes step) = record { last = there; goes = goes_step before _ there closes.plays; step = step }

-- the moment of a first try, behind steps of others
pub record IsTriedAt (before : AtSolo) (moment : ℕ) : Type 0 where
  pub there : AtSolo
  pub goes : Goes before there
  pub reading : ℕ
  pub later : Readings
  pub read : IsRead there.clock reading later
  pub moment_is : moment ≡ next_moment there.run reading
  pub legal : IsLegalRun there.limits there.run

-- the whole turn: since when the step stood, if it did
pub record EndsTurn (asked : MarkStep) (before : AtSolo) (turn : Turn) (after : AtSolo) : Type 0 where
  pub since : Option ℕ
  pub ends : Ends (with_since since asked) before turn after
  pub opened : IfSome since (λ moment. opens asked ≡ true)
  pub tried : IfSome since (IsTriedAt before)

-- a step that is tried first
pub tried_first : (asked : MarkStep) → since_of asked ≡ None → with_since None asked ≡ asked
tried_first (Ask id mode way since) first = ap (Ask id mode way) (sym first)
tried_first (Seat under since) first = ap (Seat under) (sym first)
tried_first (Close ticket keep) first = refl
tried_first (Put id mode life secret) first = refl
tried_first (Clear id mode) first = refl
tried_first Flush first = refl
tried_first (Peek id mode) first = refl
tried_first Stop first = refl

stands_since : (asked : MarkStep) (moment : ℕ) → since_of asked ≡ None → since_when asked moment ≡ moment
stands_since (Ask id mode way None) moment first = refl
stands_since (Ask id mode way (Some since)) moment first = absurd (cc first)
stands_since (Seat under None) moment first = refl
stands_since (Seat under (Some since)) moment first = absurd (cc first)
stands_since (Close ticket keep) moment first = refl
stands_since (Put id mode life secret) moment first = refl
stands_since (Clear id mode) moment first = refl
stands_since Flush moment first = refl
stands_since (Peek id mode) moment first = refl
stands_since Stop moment first = refl

stood_since : (limits : Limits) (run : List History) (session : SessionId) (moment : ℕ) (asked : MarkStep) (wait : Wait) (after : List History)
    → TakesStep limits run session moment asked (Stand wait) after → since_of asked ≡ None → wait.since ≡ moment
stood_since limits run session moment asked wait after (marked last answer last_is below rules shows is) first = absurd shows
stood_since limits run session moment asked wait after (stood last last_is some rules wait_is is) first = ap (λ (w : Wait). w.since) wait_is ∙ stands_since asked moment first

ends_own : (asked : MarkStep) (before : AtSolo) (turn : Turn) (after : AtSolo) → since_of asked ≡ None → TakesOwn asked before turn after → EndsTurn asked before turn after
ends_own asked before turn after first (at_once step) = record {
  since = None;
  ends = record {
    last = before;
    goes = goes_same before before refl;
    step = subst (λ (a : MarkStep). OwnStep before a turn after) (sym (tried_first asked first)) step;
  };
  opened = tt;
  tried = tt;
}
ends_own asked before turn after first (waiting {mid = mid} {wait = wait} step waits) = record {
  since = Some wait.since;
  ends = ends_later (with_since (Some wait.since) asked) before mid after turn (goes_wait asked before wait mid step)
      (ends_waits (with_since (Some wait.since) asked) waits);
  opened = stand_opens asked wait step.takes.fits;
  tried = record {
    there = before;
    goes = goes_same before before refl;
    reading = step.takes.reading;
    later = mid.clock;
    read = step.takes.read;
    moment_is = stood_since before.limits before.run before.session _ asked wait mid.run step.takes.takes first;
    legal = step.takes.was_legal;
  };
}

tried_later : (before mid : AtSolo) (since : Option ℕ) → Goes before mid → IfSome since (IsTriedAt mid) → IfSome since (IsTriedAt before)
tried_later before mid None goes tried = tt
tried_later before mid (Some moment) goes tried = record {
  there = tried.there;
  goes = goes_then before mid tried.there goes tried.goes;
  reading = tried.reading;
  later = tried.later;
  read = tried.read;
  moment_is = tried.moment_is;
  legal = tried.legal;
}

pub ends_turn : (asked : MarkStep) (before : AtSolo) (listed : Bool) (there : AtSolo) (turn : Turn) (after : AtSolo) → since_of asked ≡ None
    → PlaysNext before listed there → TakesOwn asked there turn after → EndsTurn asked before turn after
ends_turn asked before listed there turn after first next takes =
    let own = ends_own asked there turn after first takes in
    record {
      since = own.since;
      ends = ends_later (with_since own.since asked) before there after turn (goes_next before listed there next) own.ends;
      opened = own.opened;
      tried = tried_later before there own.since (goes_next before listed there next) own.tried;
    }

-- moments that never fall
moments_grow : (since : ℕ) (more : List Mark) → MomentsNeverFall since more → since ≤ fold (λ _ (m : Mark). m.moment) since more
moments_grow since [] fall = omega arith
moments_grow since (mark ∷ later) fall = let rest = moments_grow mark.moment later fall.2 in omega (arith, rest, fall.0)

later_moment : (since : ℕ) (marks more : List Mark) → MomentsNeverFall since (marks ++ more)
    → fold (λ _ (m : Mark). m.moment) since marks ≤ fold (λ _ (m : Mark). m.moment) since (marks ++ more)
later_moment since [] more fall = moments_grow since more fall
later_moment since (mark ∷ later) more fall = later_moment mark.moment later more fall.2

-- a first try isn't before the moment of the last mark when the turn was called
tried_after : (asked : MarkStep) (before : AtSolo) (since : Option ℕ) → IfSome since (λ moment. opens asked ≡ true) → IfSome since (IsTriedAt before)
    → IfSome since (λ moment. (opens asked ≡ true) × (moment_before (joined before.run) ≤ moment))
tried_after asked before None opened tried = tt
tried_after asked before (Some moment) opened tried =
    let grown = later_moment 0 (joined before.run) tried.goes.others (subst (MomentsNeverFall 0) tried.goes.marks tried.legal.moments) in
    let all = subst (λ (m : List Mark). moment_before (joined before.run) ≤ moment_before m) (sym tried.goes.marks) grown in
    (opened, omega (arith, all, tried.moment_is))

-- nor before the first reading of the turn, where the clock tells readings that never fall
not_below_then : (first : ℕ) (mid last : Option ℕ) → IsNotBelow (Some first) mid → IsNotBelow mid last → IsNotBelow (Some first) last
not_below_then first None last below next = absurd below
not_below_then first (Some reading) None below next = absurd next
not_below_then first (Some reading) (Some later) below next = omega (arith, below, next)

not_below : (clock : Readings) (first : ℕ) → ReadingsNeverFall clock → clock.later 0 ≡ Some first → (n : ℕ) → IsNotBelow (Some first) (clock.later n)
not_below clock first never is zero = subst (IsNotBelow (Some first)) (sym is) (omega arith)
not_below clock first never is (suc n) =
    subst (λ (k : ℕ). IsNotBelow (Some first) (clock.later k)) (add-one n)
    (not_below_then first (clock.later n) (clock.later (n + 1)) (not_below clock first never is n) (never n))

known_below : (first reading : ℕ) (known : Option ℕ) → IsNotBelow (Some first) known → IfSome known (λ k. reading ≡ k) → first ≤ reading
known_below first reading None below is = absurd below
known_below first reading (Some k) below is = omega (arith, below, is)

tried_read : (before : AtSolo) (since : Option ℕ) → IfSome since (IsTriedAt before) → (first : ℕ) → ReadingsNeverFall before.clock → before.clock.later 0 ≡ Some first
    → IfSome since (λ moment. min first MAX_MOMENT ≤ moment)
tried_read before None tried first never is = tt
tried_read before (Some moment) tried first never is =
    let at = tried.goes.reads.later 0 in
    let below = not_below before.clock first never is (0 + tried.goes.reads.count) in
    let read = known_below first tried.reading (before.clock.later (0 + tried.goes.reads.count)) below
    (subst (λ (o : Option ℕ). IfSome o (λ k. tried.reading ≡ k)) at tried.read.known) in
    omega (arith, read, tried.moment_is)

none_before : (reading : ℕ) (marks : List Mark) → AllByRecursion (λ mark. since_of mark.step ≡ None) marks → NoneTriedBefore reading marks
none_before reading [] firsts = tt
none_before reading (mark ∷ later) firsts =
    (subst (λ (o : Option ℕ). IfSome o (λ since. min reading MAX_MOMENT ≤ since)) (sym firsts.0) tt, none_before reading later firsts.1)

own_before : (reading : ℕ) (asked : MarkStep) (marks : List Mark) → IfSome (since_of asked) (λ since. min reading MAX_MOMENT ≤ since)
    → AllByRecursion (λ mark. mark.step ≡ asked) marks → NoneTriedBefore reading marks
own_before reading asked [] is steps = tt
own_before reading asked (mark ∷ later) is steps =
    (subst (λ (a : MarkStep). IfSome (since_of a) (λ since. min reading MAX_MOMENT ≤ since)) (sym steps.0) is, own_before reading asked later is steps.1)

pub is_tried : (asked : MarkStep) (before : AtSolo) (turn : Turn) (after : AtSolo) → EndsTurn asked before turn after → IsTriedSince before after
is_tried asked before turn after whole =
    let ends = whole.ends in
    let more = adds ends.last.limits ends.last.run ends.last.session _ (with_since whole.since asked) turn after.run ends.step.takes.was_legal ends.step.takes.takes in
    record {
      more = ends.goes.others ++ more.own;
      marks = more.marks ∙ (ap (λ (m : List Mark). m ++ more.own) ends.goes.marks ∙ append_assoc (joined before.run) ends.goes.others more.own);
      since = λ first never is.
          all_append (λ mark. IfSome (since_of mark.step) (λ since. min first MAX_MOMENT ≤ since)) ends.goes.others more.own
          (none_before first ends.goes.others ends.goes.firsts)
          (own_before first (with_since whole.since asked) more.own
          (since_with whole.since asked (λ since. min first MAX_MOMENT ≤ since) (tried_read before whole.since whole.tried first never is)) more.steps);
    }

-- a step fits its reply whenever it was tried first
fits_desk : (since : Option ℕ) (asked : MarkStep) (turn : Turn) → IsSettled turn → FitsReply (with_since since asked) turn → FitsStep asked turn
fits_desk since (Ask id mode way first) (Given grant) goes fits = fits
fits_desk since (Ask id mode Quiet first) Empty goes fits = fits
fits_desk since (Ask id mode Prompt first) Empty goes fits = fits
fits_desk since (Ask id mode Quiet first) (Open number) goes fits = fits
fits_desk since (Ask id mode Prompt first) (Open number) goes fits = fits
fits_desk since (Ask id mode way first) (Stand wait) goes fits = absurd goes
fits_desk since (Ask id mode way first) Done goes fits = fits
fits_desk since (Ask id mode way first) (Held held) goes fits = fits
fits_desk since (Ask id mode way first) Stopping goes fits = fits
fits_desk since (Ask id mode Quiet first) Late goes fits = fits
fits_desk since (Ask id mode Prompt first) Late goes fits = fits
fits_desk since (Ask id mode way first) Refused goes fits = fits
fits_desk since (Seat under first) (Stand wait) goes fits = absurd goes
fits_desk since (Seat under first) _ goes fits = fits
fits_desk since (Close ticket keep) (Stand wait) goes fits = absurd goes
fits_desk since (Close ticket keep) _ goes fits = fits
fits_desk since (Put id mode life secret) (Stand wait) goes fits = absurd goes
fits_desk since (Put id mode life secret) _ goes fits = fits
fits_desk since (Clear id mode) (Stand wait) goes fits = absurd goes
fits_desk since (Clear id mode) _ goes fits = fits
fits_desk since Flush (Stand wait) goes fits = absurd goes
fits_desk since Flush _ goes fits = fits
fits_desk since (Peek id mode) (Stand wait) goes fits = absurd goes
fits_desk since (Peek id mode) _ goes fits = fits
fits_desk since Stop (Stand wait) goes fits = absurd goes
fits_desk since Stop _ goes fits = fits

out_since : (out since : Option ℕ) (asked : MarkStep) (turn : Turn) → out_after out (with_since since asked) turn ≡ out_after out asked turn
out_since out since (Ask id mode way first) _ = refl
out_since out since (Seat under first) _ = refl
out_since out since (Close ticket keep) turn = refl
out_since out since (Put id mode life secret) turn = refl
out_since out since (Clear id mode) turn = refl
out_since out since Flush turn = refl
out_since out since (Peek id mode) turn = refl
out_since out since Stop turn = refl

-- so it is a turn of a desk
pub is_turn : (asked : MarkStep) (before : AtSolo) (turn : Turn) (after : AtSolo) → IsSettled turn → EndsTurn asked before turn after
    → IsTurn (at_desk before) asked turn (at_desk after)
is_turn asked before turn after goes whole =
    let ends = whole.ends in
    let more = adds ends.last.limits ends.last.run ends.last.session _ (with_since whole.since asked) turn after.run ends.step.takes.was_legal ends.step.takes.takes in
    let called : ℕ = moment_before (joined before.run) in
    record {
      fits = fits_desk whole.since asked turn goes ends.step.takes.fits;
      run = record {
        start = more.start ∙ ends.goes.start;
        others = ends.goes.others;
        foreign = ends.goes.foreign;
        own = more.own;
        makes = subst (λ (l : Limits). MakesMarks l before.session called asked after.run turn more.own) ends.goes.limits
            (subst (λ (s : SessionId). MakesMarks ends.last.limits s called asked after.run turn more.own) ends.goes.session
            (more.makes goes called asked whole.since refl (tried_after asked before whole.since whole.opened whole.tried)));
        marks = more.marks ∙ (ap (λ (m : List Mark). m ++ more.own) ends.goes.marks ∙ append_assoc (joined before.run) ends.goes.others more.own);
        legal = λ _. subst (λ (l : Limits). IsLegalRun l after.run) ends.goes.limits ends.step.takes.legal;
      };
      limits = ap (λ (s : AtSolo). s.limits) ends.step.same ∙ ends.goes.limits;
      session = ap (λ (s : AtSolo). s.session) ends.step.same ∙ ends.goes.session;
      out = ap (λ (s : AtSolo). s.out) ends.step.same
          ∙ (out_since ends.last.out whole.since asked turn ∙ ap (λ (o : Option ℕ). out_after o asked turn) ends.goes.out);
    }

-- nothing comes back
ends_given : (limits : Limits) (run : List History) (session : SessionId) (moment : ℕ) (asked : MarkStep) (turn : Turn) (after : List History) → IsLegalRun limits after
    → TakesStep limits run session moment asked turn after → IsRightly limits after turn
ends_given limits run session moment asked (Given grant) after legal (marked last answer last_is below rules shows is) =
    let mark : Mark = mark_of session asked answer moment in
    let now = ap last_history is ∙ last_run_with_mark run last mark last_is in
    record {
      before = next_history last;
      mark = mark;
      last_is = now;
      rightly = given_rightly limits (with_mark (next_history last) mark) (next_history last).marks [] mark grant.entry.number
          (last_is_legal limits after (with_mark (next_history last) mark) now legal.each) refl shows.0;
    }
ends_given limits run session moment asked Empty after legal takes = tt
ends_given limits run session moment asked (Open number) after legal takes = tt
ends_given limits run session moment asked (Stand wait) after legal takes = tt
ends_given limits run session moment asked Done after legal takes = tt
ends_given limits run session moment asked (Held held) after legal takes = tt
ends_given limits run session moment asked Stopping after legal takes = tt
ends_given limits run session moment asked Late after legal takes = tt
ends_given limits run session moment asked Refused after legal takes = tt

pub is_rightly : (asked : MarkStep) (before : AtSolo) (turn : Turn) (after : AtSolo) → EndsTurn asked before turn after → IsRightly before.limits after.run turn
is_rightly asked before turn after whole =
    let ends = whole.ends in
    subst (λ (l : Limits). IsRightly l after.run turn) ends.goes.limits
    (ends_given ends.last.limits ends.last.run ends.last.session _ (with_since whole.since asked) turn after.run ends.step.takes.legal ends.step.takes.takes)

-- a step stands only while a ticket is out
held_prompt : (stops : Bool) (held : Option Ticket) (late : Bool) → prompt_ruling stops held late ≡ ruling.Stand → held ≡ None → ⊥
held_prompt true held late is none = cc is
held_prompt false (Some ticket) late is none = cc none
held_prompt false None late is none = cc is

held_ask : (found : Option Entry) (way : Way) (stops : Bool) (held : Option Ticket) (late : Bool) → ask_ruling found way stops held late ≡ ruling.Stand → held ≡ None → ⊥
held_ask (Some entry) way stops held late is none = cc is
held_ask None Quiet stops held late is none = cc is
held_ask None Prompt stops held late is none = held_prompt stops held late is none

held_policy : (limits : Limits) (next : History) (asked : MarkStep) (moment : ℕ) → policy limits next asked moment ≡ ruling.Stand → seat next ≡ None → ⊥
held_policy limits next (Ask id mode way since) moment is none = held_ask (live limits next id mode moment) way (stopped next) (seat next) (is_late since moment) is none
held_policy limits next (Seat under since) moment is none = held_prompt (stopped next) (seat next) (is_late since moment) is none
held_policy limits next (Close ticket keep) moment is none = cc is
held_policy limits next (Put id mode life secret) moment is none = cc is
held_policy limits next (Clear id mode) moment is none = cc is
held_policy limits next Flush moment is none = cc is
held_policy limits next (Peek id mode) moment is none = cc is
held_policy limits next Stop moment is none = cc is

held_run : (limits : Limits) (run : List History) (session : SessionId) (moment : ℕ) (asked : MarkStep) (wait : Wait) (after : List History)
    → TakesStep limits run session moment asked (Stand wait) after → (run_seat after ≡ None → ⊥) × (IsSpentRun after → ⊥)
held_run limits run session moment asked wait after (marked last answer last_is below rules shows is) = absurd shows
held_run limits run session moment asked wait after (stood last last_is some rules wait_is is) = (
  λ none. held_policy limits (next_history last) asked moment rules (seat_next last ∙ (sym (ap (option_and_then seat) last_is) ∙ (ap run_seat (sym is) ∙ none))),
  λ all. some (subst IsSpentRun is all),
)

someone_seated : (run : List History) (out : Option ℕ) (holder : Option Holder) → (run_seat run ≡ None → ⊥) → (IsSpentRun run → ⊥) → out ≡ None → Seated run out holder → IsSome holder
someone_seated run out holder held more mine (seat_free none) = absurd (held none)
someone_seated run out holder held more mine (seat_own ticket number is num) = absurd (cc mine)
someone_seated run out holder held more mine (seat_theirs ticket h is num) = refl
someone_seated run out holder held more mine (seat_over all) = absurd (more all)

-- so another session has it
pub stands_held : (before : AtSolo) (asked : MarkStep) (wait : Wait) (after : AtSolo) → OwnStep before asked (Stand wait) after → before.out ≡ None
    → Seated after.run after.out after.holder → (after.out ≡ None) × IsSome after.holder
stands_held before asked wait after step mine seated =
    let none : after.out ≡ None = (goes_wait asked before wait after step).out ∙ mine in
    let held = held_run before.limits before.run before.session _ asked wait after.run step.takes.takes in
    (none, someone_seated after.run after.out after.holder held.0 held.1 none seated)

-- what a step leaves of the script and of who has a ticket
pub own_script : (asked : MarkStep) (before : AtSolo) (turn : Turn) (after : AtSolo) → OwnStep before asked turn after → after.script ≡ before.script
own_script asked before turn after step = ap (λ (s : AtSolo). s.script) step.same

plays_script : (before : AtSolo) (foreign : Foreign) (after : AtSolo) → PlaysStep before foreign after → after.script ≡ before.script
plays_script before foreign after (played asked turn other told_is takes same) = ap (λ (s : AtSolo). s.script) same
plays_script before foreign after (passed_over none same) = ap (λ (s : AtSolo). s.script) same

list_script : {before : AtSolo} {list : List Foreign} {after : AtSolo} → Leads PlaysStep before list after → after.script ≡ before.script
list_script stay = refl
list_script {before} {after = after} (one {mid} {event} step later) = list_script later ∙ plays_script before event mid step

pub next_script : (before : AtSolo) (after : AtSolo) → PlaysNext before true after → length after.script < length before.script
next_script before after (next_list list later is leads) =
    let all : length before.script ≡ length (list ∷ later) = ap (λ (l : List (List Foreign)). length l) is in
    let rest : length after.script ≡ length later = ap (λ (l : List (List Foreign)). length l) (list_script leads) in
    omega (arith, all, rest)

-- at the end of a script nothing changes
pub end_script : (before : AtSolo) (after : AtSolo) → PlaysNext before false after → (before.script ≡ []) × (after ≡ before)
end_script before after (at_end is same) = (is, same)

-- a ticket that is given back is nobody's
closed_by : (holder : Holder) (before after : AtSolo) → before.holder ≡ Some holder → PlaysStep before (close_held holder.session) after → after.holder ≡ None
closed_by holder before after is plays =
    by plays (subst (λ (h : Option Holder). foreign_step h (close_held holder.session) ≡ Some (Close holder.ticket None)) (sym is)
    (ap (λ (b : Bool). close_of (if b then Some holder.ticket else None) None) (own_session holder.session)))
  where
    shut : (asked : MarkStep) (turn : Turn) → asked ≡ Close holder.ticket None → FitsReply asked turn → holder_after before.holder holder.session asked turn ≡ None
    shut asked (Open number) is fits = absurd (subst (λ (a : MarkStep). FitsReply a (Open number)) is fits)
    shut asked (Given grant) is fits = ap (λ (a : MarkStep). if is_some (closes a) then None else before.holder) is
    shut asked Empty is fits = ap (λ (a : MarkStep). if is_some (closes a) then None else before.holder) is
    shut asked (Stand wait) is fits = ap (λ (a : MarkStep). if is_some (closes a) then None else before.holder) is
    shut asked Done is fits = ap (λ (a : MarkStep). if is_some (closes a) then None else before.holder) is
    shut asked (Held held) is fits = ap (λ (a : MarkStep). if is_some (closes a) then None else before.holder) is
    shut asked Stopping is fits = ap (λ (a : MarkStep). if is_some (closes a) then None else before.holder) is
    shut asked Late is fits = ap (λ (a : MarkStep). if is_some (closes a) then None else before.holder) is
    shut asked Refused is fits = ap (λ (a : MarkStep). if is_some (closes a) then None else before.holder) is

    by : PlaysStep before (close_held holder.session) after → foreign_step before.holder (close_held holder.session) ≡ Some (Close holder.ticket None) → after.holder ≡ None
    by (played asked turn other told_of takes same) told_is =
        let same_step : asked ≡ Close holder.ticket None = cc (told_of, told_is) in
        ap (λ (s : AtSolo). s.holder) same ∙ shut asked turn same_step takes.fits
    by (passed_over none same) told_is = absurd (cc (none, told_is))

pub closed_none : (before after : AtSolo) → ClosesHolder before after → after.holder ≡ None
closed_none before after closes = closed_by closes.holder before after closes.holder_is closes.plays

pub closed_out : (before after : AtSolo) → ClosesHolder before after → after.out ≡ before.out
closed_out before after closes = (goes_step before _ after closes.plays).out

pub closed_session : (before after : AtSolo) → ClosesHolder before after → after.session ≡ before.session
closed_session before after closes = (goes_step before _ after closes.plays).session

-- no step stands then
pub never_stands : (before : AtSolo) (asked : MarkStep) (turn : Turn) (after : AtSolo) → OwnStep before asked turn after → before.out ≡ None → before.holder ≡ None
    → Seated after.run after.out after.holder → IsSettled turn
never_stands before asked (Stand wait) after step mine nobody seated =
    let held = stands_held before asked wait after step mine seated in
    let none : after.holder ≡ None = ap (λ (s : AtSolo). s.holder) step.same ∙ nobody in
    absurd (cc (held.1, none))
never_stands before asked _ after step mine nobody seated = tt

-- a step that is replied Stand wants the prompt
pub stood_opens : (asked : MarkStep) (before : AtSolo) (wait : Wait) (after : AtSolo) → OwnStep before asked (Stand wait) after → opens asked ≡ true
stood_opens asked before wait after step = stand_opens asked wait step.takes.fits

-- a further try hands in what the one before was given
pub own_tried : (there mid : AtSolo) (opens_of : Opening) (first wait : Wait) (asked : Step) (turn : Turn) → OwnStep there (mark_step there.session asked) turn mid
    → asked ≡ opening_step opens_of (Some wait) → wait ≡ first → first.session ≡ there.session
    → OwnStep there (with_since (Some first.since) (asked_step (opening_step opens_of None))) turn mid
own_tried there mid opens_of first wait asked turn step is same own =
    subst (λ (a : MarkStep). OwnStep there a turn mid)
    (ap (mark_step there.session) (is ∙ ap (λ (w : Wait). opening_step opens_of (Some w)) same) ∙ opening_taken there.session opens_of first own) step

-- and the first hands in none
pub own_first : (there mid : AtSolo) (asked : Step) (turn : Turn) → OwnStep there (mark_step there.session asked) turn mid → wait_of asked ≡ None
    → OwnStep there (asked_step asked) turn mid
own_first there mid asked turn step none = subst (λ (a : MarkStep). OwnStep there a turn mid) (first_taken there.session asked none) step

-- who stands is given a wait of its own
pub stood_own : (before : AtSolo) (asked : MarkStep) (wait : Wait) (after : AtSolo) → OwnStep before asked (Stand wait) after → wait.session ≡ before.session
stood_own before asked wait after step = by step.takes.takes
  where
    by : {moment : ℕ} → TakesStep before.limits before.run before.session moment asked (Stand wait) after.run → wait.session ≡ before.session
    by (marked last answer last_is below rules shows same) = absurd shows
    by (stood last last_is some rules wait_is same) = ap (λ (w : Wait). w.session) wait_is

-- a step that stands again has waited since the same moment
pub stood_again : (before : AtSolo) (opens_of : Opening) (first wait : Wait) (after : AtSolo)
    → OwnStep before (with_since (Some first.since) (asked_step (opening_step opens_of None))) (Stand wait) after → first.session ≡ before.session → wait ≡ first
stood_again before opens_of first wait after step is = by step.takes.takes
  where
    by : {moment : ℕ} → TakesStep before.limits before.run before.session moment (with_since (Some first.since) (asked_step (opening_step opens_of None))) (Stand wait) after.run
        → wait ≡ first
    by (marked last answer last_is below rules shows same) = absurd shows
    by {moment} (stood last last_is some rules wait_is same) =
        wait_is
        ∙ (ap (λ (n : ℕ). let w : Wait = record { session = before.session; since = n } in w) (opening_since opens_of first.since moment)
        ∙ ap (λ (s : SessionId). let w : Wait = record { session = s; since = first.since } in w) (sym is))

-- a step whose turn is known by another name
pub own_turn : (asked : MarkStep) (before : AtSolo) (turn other : Turn) (after : AtSolo) → turn ≡ other → OwnStep before asked turn after → OwnStep before asked other after
own_turn asked before turn other after is step = subst (λ (t : Turn). OwnStep before asked t after) is step

-- a step that was settled
pub not_stood : (step_of : Step) (outcome : Stepped) → HandsBack step_of outcome → ((opening : Opening) (wait : Wait) → outcome ≡ stepped.Stood opening wait → ⊥)
    → IsSettled (turn_of_stepped outcome)
not_stood step_of (stepped.Replied told_of) hands other = hands
not_stood step_of (stepped.Stood opening wait) hands other = absurd (other opening wait refl)
not_stood step_of (stepped.Refused back) hands other = tt

-- a whole turn
pub turns_by_own_step : (asked : MarkStep) (before : AtSolo) (listed : Bool) (there : AtSolo) (turn : Turn) (after : AtSolo) → since_of asked ≡ None
    → PlaysNext before listed there → TakesOwn asked there turn after → IsSettled turn → TurnsSolo before asked turn after
turns_by_own_step asked before listed there turn after first next takes settled =
    let whole = ends_turn asked before listed there turn after first next takes in
    record {
      there = there;
      listed = listed;
      plays = next;
      own = takes;
      first = first;
      tried = is_tried asked before turn after whole;
      rightly = is_rightly asked before turn after whole;
      is = is_turn asked before turn after settled whole;
    }
