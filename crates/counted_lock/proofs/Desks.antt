-- A turn at the counted lock is one at a desk.
use mathlib.Core.List.{IsPrefix}
use Rattle.std.proofs.{Common.{◌≡◌, ◌≤◌, ℕ, min, List, [], ◌∷◌, ◌++◌, nat_eq, Bool, true, false, Option, Some, None, IfSome, Result, Ok, Err, IsErr, fold, sym, refl, ap, ◌∙◌, subst, arith}, lemmas.List.{append-nil, append_assoc}}
use Rattle.std.specs.List.{AllByRecursion}
use Rattle.{agent_ports.{specs.{Readings.{Readings, HasGiven, none as none_given}, declared.session.SessionId.SessionId}, proofs.Given.{given_one, given_then}}, cache_policy.specs.declared.bounds.TheConstants.MAX_MOMENT}
use Rattle.cache_policy.specs.declared.{life.Limits.Limits, mark.{Mark.Mark, MarkStep.{MarkStep, TheVariants.{Ask, Seat, Close, Put, Clear, Flush, Peek, Stop}}}, wait.Wait.Wait, step.{Reply.Reply, Refused.Refused as HandedBack, Step.Step}}
use Rattle.cache_policy.specs.{Desks.{is_of, MakesMarks, IsSpentRun, IsTurn}, Histories.History, Legal.{NeverFall, IsLegalRun}, Runs.{last_history, next_history, moment_before, moment_of}}
use Rattle.cache_policy.specs.Turns.{Turn, Given, Empty, Open, Stand, Done, Held, Stopping, Late, Refused, FitsReply, FitsStep, asked_step, mark_step, wait_of, turn_of, opens, out_after, since_of, since_when, wait_after, with_since}
use Rattle.{cache_policy.proofs.GrowingRuns.last_run_with_mark, agent_core.specs.{declared.opening.Opening.Opening, Cores.mark_of, Known.{TakesStep, marked, stood, refused, spent}, Openings.opening_step, Solos.NoneTriedBefore}}
use Rattle.agent_core.{specs.Stepped.IsSettled, proofs.{Seating.stand_opens, Promise.tried_first, Taken.{with_again, since_with, first_taken, asked_first, opening_taken}}}
use Rattle.counted_lock.specs.{Logs.{run_of_log, IsLegalLog, marks_by}, Passes.{AtPass, mine}, Trying.{Tries, TriesAt, IsTriedAt, HandsOn, Waited}, Turns.{AtCountedDesk, WantsMemoryAt, IsFirstTry, HandsIn, TurnsPass, CountedTurn}}
use Rattle.counted_lock.proofs.{LogLemmas.{joined_log, start_log, spent_has_all_marks}, Passing.{own_marks, added_none, added_one, marks_both}}
use Rattle.cache_policy.specs.Desks as desk
use Rattle.agent_core.specs.declared.opening.Opening.TheVariants as opening

-- marks of other passes are of other sessions
marks_of_others_are_foreign : (session : SessionId) (marks : List Mark) → marks_by session.pass marks ≡ [] → AllByRecursion (λ mark. is_of session mark ≡ false) marks
marks_of_others_are_foreign session [] none = tt
marks_of_others_are_foreign session (m ∷ ms) none = go (nat_eq m.session.pass session.pass) refl (marks_of_others_are_foreign session ms)
  where
    go : (b : Bool) → nat_eq m.session.pass session.pass ≡ b → (marks_by session.pass ms ≡ [] → AllByRecursion (λ mark. is_of session mark ≡ false) ms) → AllByRecursion (λ mark. is_of session mark ≡ false) (m ∷ ms)
    go true is rest = let h : m ∷ marks_by session.pass ms ≡ [] = rw is at none in cc
    go false is rest = (rw is refl, rest (rw is at none))

-- the marks that a turn makes
makes_none : (limits : Limits) (session : SessionId) (called : ℕ) (asked : MarkStep) (run : List History) (turn : Turn) (own : List Mark) → own ≡ []
    → MakesMarks limits session called asked run turn [] → MakesMarks limits session called asked run turn own
makes_none limits session called asked run turn own is makes = subst (MakesMarks limits session called asked run turn) (sym is) makes

makes_marks : (limits : Limits) (found own : List Mark) (session : SessionId) (moment : ℕ) (tried : MarkStep) (turn : Turn) (called : ℕ) (asked : MarkStep) (since : Option ℕ) → IsSettled turn
    → tried ≡ with_since since asked → IfSome since (λ first. (opens asked ≡ true) × (called ≤ first)) → TakesStep limits (run_of_log found) session moment tried turn (run_of_log (found ++ own))
    → MakesMarks limits session called asked (run_of_log (found ++ own)) turn own
makes_marks limits found own session moment tried turn called asked since settled tried_is waited (marked last answer last_is below rules shows is) =
    let mark : Mark = mark_of session tried answer moment in
    subst (MakesMarks limits session called asked (run_of_log (found ++ own)) turn) (sym (added_one found own mark is)) (desk.marked mark (record {
      by = refl;
      asked_is = tried_is ∙ (with_again since asked ∙ ap (λ (a : MarkStep). with_since (since_of a) asked) (sym tried_is));
      waited = subst (λ (a : MarkStep). IfSome (since_of a) (λ first. (opens asked ≡ true) × (called ≤ first))) (sym tried_is)
          (since_with since asked (λ first. (opens asked ≡ true) × (called ≤ first)) waited);
      before = next_history last;
      last = ap last_history is ∙ last_run_with_mark (run_of_log found) last mark last_is;
      shows = shows;
    }))
makes_marks limits found own session moment tried _ called asked since settled tried_is waited (stood last last_is more rules wait_is is) = absurd settled
makes_marks limits found own session moment tried _ called asked since settled tried_is waited (refused last last_is below why is) =
    makes_none limits session called asked (run_of_log (found ++ own)) Refused own (added_none found own is) desk.refused
makes_marks limits found own session moment tried _ called asked since settled tried_is waited (spent all is) =
    makes_none limits session called asked (run_of_log (found ++ own)) Stopping own (added_none found own is) (desk.spent (subst IsSpentRun (sym is) all))

is_spent_run : (limits : Limits) (session : SessionId) (called : ℕ) (asked : MarkStep) (run : List History) (turn : Turn) (own : List Mark) → MakesMarks limits session called asked run turn own
    → own ≡ [] → turn ≡ Stopping → IsSpentRun run
is_spent_run limits session called asked run turn _ (desk.marked mark is) none stops = absurd (cc none)
is_spent_run limits session called asked run _ _ desk.refused none stops = absurd (cc stops)
is_spent_run limits session called asked run _ _ (desk.spent all) none stops = all

-- no own mark says that its step was tried before the first reading
none_before : (reading : ℕ) (tried : MarkStep) (own : List Mark) → IfSome (since_of tried) (λ since. min reading MAX_MOMENT ≤ since) → AllByRecursion (λ mark. mark.step ≡ tried) own
    → NoneTriedBefore reading own
none_before reading tried [] is steps = tt
none_before reading tried (mark ∷ later) is steps =
    (subst (λ (a : MarkStep). IfSome (since_of a) (λ since. min reading MAX_MOMENT ≤ since)) (sym steps.0) is, none_before reading tried later is steps.1)

-- moments that never fall
moments_grow : (since : ℕ) (more : List Mark) → NeverFall since more → since ≤ fold (λ _ (m : Mark). m.moment) since more
moments_grow since [] fall = omega arith
moments_grow since (mark ∷ later) fall = let rest = moments_grow mark.moment later fall.2 in omega (arith, rest, fall.0)

later_from : (since : ℕ) (marks more : List Mark) → NeverFall since (marks ++ more) → fold (λ _ (m : Mark). m.moment) since marks ≤ fold (λ _ (m : Mark). m.moment) since (marks ++ more)
later_from since [] more fall = moments_grow since more fall
later_from since (mark ∷ later) more fall = later_from mark.moment later more fall.2

later_moment : (limits : Limits) (log more : List Mark) → IsLegalLog limits (log ++ more) → moment_before log ≤ moment_before (log ++ more)
later_moment limits log more legal = later_from 0 log more (subst (NeverFall 0) (joined_log (log ++ more)) legal.legal.moments)

-- which steps a turn fits
fits_step : (asked : MarkStep) (turn : Turn) → IsSettled turn → FitsReply asked turn → FitsStep asked turn
fits_step asked (Given grant) settled fits = fits
fits_step asked Empty settled fits = fits
fits_step asked (Open number) settled fits = fits
fits_step asked (Stand wait) settled fits = absurd settled
fits_step asked Done settled fits = fits
fits_step asked (Held held) settled fits = fits
fits_step asked Stopping settled fits = fits
fits_step asked Late settled fits = fits
fits_step asked Refused settled fits = fits

if_both : (since : Option ℕ) (taken : List ℕ) (seen found : List Mark) (asked : MarkStep) → HandsOn taken seen found asked since → IfSome since (λ moment. (opens asked ≡ true) × (moment_before seen ≤ moment))
if_both None taken seen found asked tried = tt
if_both (Some moment) [] seen found asked tried = absurd tried.first
if_both (Some moment) (reading ∷ later) seen found asked tried = (tried.first.wants, tried.called)

-- the readings of all tries, with that of the last
abbrev first_of_tries : List ℕ → ℕ → ℕ
first_of_tries [] last = last
first_of_tries (reading ∷ later) last = reading

abbrev later_tries : List ℕ → ℕ → List ℕ
later_tries [] last = []
later_tries (reading ∷ later) last = later ++ last ∷ []

all_tries : (taken : List ℕ) (last : ℕ) → taken ++ last ∷ [] ≡ first_of_tries taken last ∷ later_tries taken last
all_tries [] last = refl
all_tries (reading ∷ later) last = refl

if_first : (since : Option ℕ) (taken : List ℕ) (last : ℕ) (seen found : List Mark) (asked : MarkStep) → HandsOn taken seen found asked since
    → IfSome since (λ moment. min (first_of_tries taken last) MAX_MOMENT ≤ moment)
if_first None taken last seen found asked tried = tt
if_first (Some moment) [] last seen found asked tried = absurd tried.first
if_first (Some moment) (reading ∷ later) last seen found asked tried = omega (arith, tried.first.moment_is)

-- the first try found a beginning of each run that is found later
longer : (a b c : List Mark) → IsPrefix a b → IsPrefix b c → IsPrefix a c
longer a b c front back = (front.0 ++ back.0, sym (append_assoc a front.0 back.0) ∙ (ap (λ (l : List Mark). l ++ back.0) front.1 ∙ back.1))

first_longer : (asked : MarkStep) (seen found then : List Mark) (reading moment : ℕ) → IsFirstTry asked seen found reading moment → IsPrefix found then → IsFirstTry asked seen then reading moment
first_longer asked seen found then reading moment first on = record { wants = first.wants; early = first.early; from = first.from; to = longer first.early found then first.to on; moment_is = first.moment_is }

-- what the last try hands in
hands_in : (asked : MarkStep) (seen found then : List Mark) (since : Option ℕ) (taken : List ℕ) (last : ℕ) → HandsOn taken seen found asked since → IsPrefix found then
    → HandsIn asked seen then (first_of_tries taken last) (later_tries taken last) since
hands_in asked seen found then None taken last none on = subst (λ (l : List ℕ). HandsIn asked seen then (first_of_tries l last) (later_tries l last) None) (sym none) refl
hands_in asked seen found then (Some moment) [] last tried on = absurd tried.first
hands_in asked seen found then (Some moment) (reading ∷ []) last tried on = first_longer asked seen found then reading moment tried.first on
hands_in asked seen found then (Some moment) (reading ∷ next ∷ later) last tried on = first_longer asked seen found then reading moment tried.first on

tried_more : (asked : MarkStep) (seen found then : List Mark) (taken : List ℕ) (last moment : ℕ) → IsTriedAt taken seen found asked moment → IsPrefix found then → IsTriedAt (taken ++ last ∷ []) seen then asked moment
tried_more asked seen found then [] last moment tried on = absurd tried.first
tried_more asked seen found then (reading ∷ later) last moment tried on = record { called = tried.called; first = first_longer asked seen found then reading moment tried.first on }

module _ {C : Type 0} (readings : C → Readings) (start : AtCountedDesk C) (asked : MarkStep) where
  -- nothing was tried yet
  pub waited_none : Waited readings start asked None start
  waited_none = record {
    session = refl;
    out = refl;
    others = [];
    foreign = refl;
    pass = λ i. record start.pass { seen = sym (append-nil start.pass.seen) i };
    mine_is = refl;
    taken = [];
    given = none_given;
    never_falls = omega arith;
    tried = refl;
  }

  -- the pass after tries that had to stand, and one try more
  module _ (since : Option ℕ) (mid after : AtCountedDesk C) (turn : Turn) (w : Waited readings start asked since mid) (t : TriesAt readings mid asked (with_since since asked) turn after) where
    limits_is : mid.pass.limits ≡ start.pass.limits
    limits_is = ap (λ (p : AtPass). p.limits) w.pass

    number_is : mid.pass.number ≡ start.pass.number
    number_is = ap (λ (p : AtPass). p.number) w.pass

    seen_is : mid.pass.seen ≡ start.pass.seen ++ w.others
    seen_is = ap (λ (p : AtPass). p.seen) w.pass

    found_is : t.tries.found ≡ start.pass.seen ++ (w.others ++ t.tries.others)
    found_is = t.tries.found_is ∙ (ap (λ (l : List Mark). l ++ t.tries.others) seen_is ∙ append_assoc start.pass.seen w.others t.tries.others)

    foreign : marks_by start.pass.number (w.others ++ t.tries.others) ≡ []
    foreign = marks_both start.pass.number w.others t.tries.others ∙ (λ i. w.foreign i ++ subst (λ (k : ℕ). marks_by k t.tries.others ≡ []) number_is t.tries.foreign i)

    now : after.pass ≡ record start.pass { seen = t.tries.found ++ t.tries.own }
    now = t.tries.now ∙ ap (λ (p : AtPass). record p { seen = t.tries.found ++ t.tries.own }) w.pass

    after_is : after.pass.seen ≡ t.tries.found ++ t.tries.own
    after_is = ap (λ (p : AtPass). p.seen) now

    takes : TakesStep start.pass.limits (run_of_log t.tries.found) start.session (moment_of (moment_before t.tries.found) t.tries.reading) (with_since since asked) turn (run_of_log (t.tries.found ++ t.tries.own))
    takes =
        subst (λ (z : Limits × SessionId). TakesStep z.0 (run_of_log t.tries.found) z.1 (moment_of (moment_before t.tries.found) t.tries.reading) (with_since since asked) turn (run_of_log (t.tries.found ++ t.tries.own)))
        (λ i. (limits_is i, w.session i)) t.tries.takes

    legal : IsLegalLog start.pass.limits (t.tries.found ++ t.tries.own)
    legal = subst (λ (l : Limits). IsLegalLog l (t.tries.found ++ t.tries.own)) limits_is t.tries.legal

    makes : IsSettled turn → MakesMarks start.pass.limits start.session (moment_before start.pass.seen) asked (run_of_log after.pass.seen) turn t.tries.own
    makes settled =
        subst (λ (l : List Mark). MakesMarks start.pass.limits start.session (moment_before start.pass.seen) asked (run_of_log l) turn t.tries.own) (sym after_is)
        (makes_marks start.pass.limits t.tries.found t.tries.own start.session _ (with_since since asked) turn (moment_before start.pass.seen) asked since settled refl
        (if_both since w.taken start.pass.seen (start.pass.seen ++ w.others) asked w.tried) takes)

    turns : IsSettled turn → TurnsPass start.session (readings start.clock) (readings after.clock) asked start.pass turn after.pass
    turns settled =
        let own = own_marks start.pass.limits t.tries.found start.session (moment_of (moment_before t.tries.found) t.tries.reading) (with_since since asked) turn t.tries.own takes in
        let read = t.tries.read in
        record {
          others = w.others ++ t.tries.others;
          foreign = foreign;
          found = t.tries.found;
          found_is = found_is;
          own = t.tries.own;
          now = now;
          mine_is = t.tries.mine_is ∙ ap (λ (l : List Mark). l ++ t.tries.own) w.mine_is;
          makes = makes settled;
          spent = λ none stops. spent_has_all_marks after.pass.seen (is_spent_run start.pass.limits start.session (moment_before start.pass.seen) asked (run_of_log after.pass.seen) turn t.tries.own (makes settled) none stops);
          first_reading = first_of_tries w.taken t.tries.reading;
          later_readings = later_tries w.taken t.tries.reading;
          given = subst (λ (l : List ℕ). HasGiven (readings start.clock) l (readings after.clock)) (all_tries w.taken t.tries.reading) (given_then w.given (given_one read));
          rose = let a = w.never_falls in let b = read.rose in omega (arith, a, b);
          never_falls = let a = w.never_falls in let b = read.never_falls in omega (arith, a, b);
          moment = subst (λ (r : ℕ). AllByRecursion (λ mark. mark.moment ≡ moment_of (moment_before t.tries.found) r) t.tries.own) (sym read.last) own.moments;
          since = none_before (first_of_tries w.taken t.tries.reading) (with_since since asked) t.tries.own
              (since_with since asked (λ moment. min (first_of_tries w.taken t.tries.reading) MAX_MOMENT ≤ moment)
              (if_first since w.taken t.tries.reading start.pass.seen (start.pass.seen ++ w.others) asked w.tried)) own.steps;
          handed = since;
          hands_in = hands_in asked start.pass.seen (start.pass.seen ++ w.others) t.tries.found since w.taken t.tries.reading w.tried
              (t.tries.others, append_assoc start.pass.seen w.others t.tries.others ∙ sym found_is);
          steps = own.steps;
          refused = λ is. subst (λ (z : Limits × ℕ). WantsMemoryAt z.0 t.tries.found (with_since since asked) (moment_of (moment_before t.tries.found) z.1)) (λ i. (limits_is i, sym read.last i))
              (t.tries.refused is);
        }

    -- the turn
    pub counted_turn : start.session.pass ≡ start.pass.number → IsSettled turn → CountedTurn readings start asked turn after
    counted_turn by settled = record {
      turns = turns settled;
      is = record {
        fits = fits_step asked turn settled t.fits;
        run = record {
          start = start_log after.pass.seen ∙ sym (start_log start.pass.seen);
          others = w.others ++ t.tries.others;
          foreign = marks_of_others_are_foreign start.session (w.others ++ t.tries.others) (subst (λ (k : ℕ). marks_by k (w.others ++ t.tries.others) ≡ []) (sym by) foreign);
          own = t.tries.own;
          makes = subst (λ (l : List Mark). MakesMarks start.pass.limits start.session (moment_before l) asked (run_of_log after.pass.seen) turn t.tries.own) (sym (joined_log start.pass.seen)) (makes settled);
          marks =
              joined_log after.pass.seen ∙ (after_is ∙ (ap (λ (l : List Mark). l ++ t.tries.own) found_is
              ∙ (append_assoc start.pass.seen (w.others ++ t.tries.others) t.tries.own ∙ ap (λ (l : List Mark). l ++ ((w.others ++ t.tries.others) ++ t.tries.own)) (sym (joined_log start.pass.seen)))));
          legal = λ was. subst (λ (l : List Mark). IsLegalRun start.pass.limits (run_of_log l)) (sym after_is) legal.legal;
        };
        limits = ap (λ (p : AtPass). p.limits) now;
        session = t.session ∙ w.session;
        out = t.out ∙ ap (λ (o : Option ℕ). out_after o asked turn) w.out;
      };
    }

-- a try that had to stand
record Stood (limits : Limits) (found own : List Mark) (session : SessionId) (moment : ℕ) (tried : MarkStep) (wait : Wait) : Type 0 where
  pub none : own ≡ []
  pub wait_is : wait ≡ wait_after session tried moment

stands_without_mark : (limits : Limits) (found own : List Mark) (session : SessionId) (moment : ℕ) (tried : MarkStep) (wait : Wait) → TakesStep limits (run_of_log found) session moment tried (Stand wait) (run_of_log (found ++ own))
    → Stood limits found own session moment tried wait
stands_without_mark limits found own session moment tried wait (marked last answer last_is below rules shows is) = absurd shows
stands_without_mark limits found own session moment tried wait (stood last last_is more rules wait_is is) = record { none = added_none found own is; wait_is = wait_is }

-- only a step that wants the prompt has to stand; it gives no ticket back, and its wait has the moment of its first try
stand_out : (out : Option ℕ) (asked : MarkStep) (wait : Wait) → opens asked ≡ true → out_after out asked (Stand wait) ≡ out
stand_out out (Ask id mode way since) wait wants = refl
stand_out out (Seat under since) wait wants = refl
stand_out out (Close ticket keep) wait wants = absurd (cc wants)
stand_out out (Put id mode life secret) wait wants = refl
stand_out out (Clear id mode) wait wants = refl
stand_out out Flush wait wants = refl
stand_out out (Peek id mode) wait wants = refl
stand_out out Stop wait wants = refl

first_since : (asked : MarkStep) (moment : ℕ) → since_when (with_since None asked) moment ≡ moment
first_since (Ask id mode way since) moment = refl
first_since (Seat under since) moment = refl
first_since (Close ticket keep) moment = refl
first_since (Put id mode life secret) moment = refl
first_since (Clear id mode) moment = refl
first_since Flush moment = refl
first_since (Peek id mode) moment = refl
first_since Stop moment = refl

later_since : (since : ℕ) (asked : MarkStep) (moment : ℕ) → opens asked ≡ true → since_when (with_since (Some since) asked) moment ≡ since
later_since since (Ask id mode way first) moment wants = refl
later_since since (Seat under first) moment wants = refl
later_since since (Close ticket keep) moment wants = absurd (cc wants)
later_since since (Put id mode life secret) moment wants = absurd (cc wants)
later_since since (Clear id mode) moment wants = absurd (cc wants)
later_since since Flush moment wants = absurd (cc wants)
later_since since (Peek id mode) moment wants = absurd (cc wants)
later_since since Stop moment wants = absurd (cc wants)

module _ {C : Type 0} (readings : C → Readings) (start : AtCountedDesk C) (asked : MarkStep) where
  -- it waits on, since the same moment
  waits_on : (since now_since : Option ℕ) (mid after : AtCountedDesk C) (wait : Wait) (w : Waited readings start asked since mid) (t : TriesAt readings mid asked (with_since since asked) (Stand wait) after)
      → HandsOn (w.taken ++ t.tries.reading ∷ []) start.pass.seen (start.pass.seen ++ (w.others ++ t.tries.others)) asked now_since → Waited readings start asked now_since after
  waits_on since now_since mid after wait w t tried =
      let none = (stands_without_mark mid.pass.limits t.tries.found t.tries.own mid.session _ (with_since since asked) wait t.tries.takes).none in
      let seen_is = ap (λ (p : AtPass). p.seen) w.pass in
      let number_is = ap (λ (p : AtPass). p.number) w.pass in
      let after_seen : t.tries.found ++ t.tries.own ≡ start.pass.seen ++ (w.others ++ t.tries.others) =
      ap (λ (l : List Mark). t.tries.found ++ l) none ∙ (append-nil t.tries.found ∙ (t.tries.found_is ∙ (ap (λ (l : List Mark). l ++ t.tries.others) seen_is
      ∙ append_assoc start.pass.seen w.others t.tries.others))) in
      record {
        session = t.session ∙ w.session;
        out = t.out ∙ (stand_out mid.out asked wait (stand_opens asked wait t.fits) ∙ w.out);
        others = w.others ++ t.tries.others;
        foreign = marks_both start.pass.number w.others t.tries.others ∙ (λ i. w.foreign i ++ subst (λ (k : ℕ). marks_by k t.tries.others ≡ []) number_is t.tries.foreign i);
        pass = t.tries.now ∙ (ap (λ (p : AtPass). record p { seen = t.tries.found ++ t.tries.own }) w.pass ∙ ap (λ (l : List Mark). record start.pass { seen = l }) after_seen);
        mine_is = t.tries.mine_is ∙ (ap (λ (l : List Mark). mine mid.pass ++ l) none ∙ (append-nil (mine mid.pass) ∙ w.mine_is));
        taken = w.taken ++ t.tries.reading ∷ [];
        given = given_then w.given (given_one t.tries.read);
        never_falls = let a = w.never_falls in let b = t.tries.read.never_falls in omega (arith, a, b);
        tried = tried;
      }

  -- the first try
  pub waits_first : (after : AtCountedDesk C) (wait : Wait) → TriesAt readings start asked (with_since None asked) (Stand wait) after
      → (wait.session ≡ start.session) × Waited readings start asked (Some wait.since) after
  unfolding waited_none
  waits_first after wait t =
      let so = stands_without_mark start.pass.limits t.tries.found t.tries.own start.session _ (with_since None asked) wait t.tries.takes in
      let since_is : wait.since ≡ moment_of (moment_before t.tries.found) t.tries.reading = ap (λ (v : Wait). v.since) so.wait_is ∙ first_since asked (moment_of (moment_before t.tries.found) t.tries.reading) in
      let found = later_moment start.pass.limits start.pass.seen t.tries.others
      (subst (IsLegalLog start.pass.limits) (ap (λ (l : List Mark). t.tries.found ++ l) so.none ∙ (append-nil t.tries.found ∙ t.tries.found_is)) t.tries.legal) in
      let found_is = ap moment_before t.tries.found_is in (
        ap (λ (v : Wait). v.session) so.wait_is,
        waits_on None (Some wait.since) start after wait (waited_none readings start asked) t (record {
          called = omega (arith, since_is, found, found_is);
          first = record {
            wants = stand_opens asked wait t.fits;
            early = t.tries.found;
            from = (t.tries.others, sym t.tries.found_is);
            to = ([], append-nil t.tries.found ∙ t.tries.found_is);
            moment_is = since_is;
          };
        }),
      )

  -- and the later ones
  pub waits_again : (first : Wait) (mid after : AtCountedDesk C) (wait : Wait) → Waited readings start asked (Some first.since) mid
      → TriesAt readings mid asked (with_since (Some first.since) asked) (Stand wait) after
      → (wait.session ≡ start.session) × Waited readings start asked (Some wait.since) after
  waits_again first mid after wait w t =
      let so = stands_without_mark mid.pass.limits t.tries.found t.tries.own mid.session _ (with_since (Some first.since) asked) wait t.tries.takes in
      let since_is : wait.since ≡ first.since = ap (λ (v : Wait). v.since) so.wait_is ∙ later_since first.since asked _ (stand_opens asked wait t.fits) in (
        ap (λ (v : Wait). v.session) so.wait_is ∙ w.session,
        subst (λ (n : ℕ). Waited readings start asked (Some n) after) (sym since_is) (waits_on (Some first.since) (Some first.since) mid after wait w t
            (tried_more asked start.pass.seen (start.pass.seen ++ w.others) (start.pass.seen ++ (w.others ++ t.tries.others)) w.taken t.tries.reading first.since w.tried
            (t.tries.others, append_assoc start.pass.seen w.others t.tries.others))),
      )

-- a try, at the desk
pub tried_at : {C : Type 0} (readings : C → Readings) (before : AtCountedDesk C) (pass : AtPass) (out : Option ℕ) (clock : C) (asked tried : MarkStep) (answer : Result Reply HandedBack)
    → Tries before.session (readings before.clock) (readings clock) tried before.pass (turn_of answer) pass → FitsReply asked (turn_of answer)
    → out ≡ out_after before.out asked (turn_of answer) → TriesAt readings before asked tried (turn_of answer) (record { pass = pass; session = before.session; out = out; clock = clock })
tried_at readings before pass out clock asked tried answer tries fits out_is = record { tries = tries; fits = fits; session = refl; out = out_is }

-- the first try hands no wait in
first_try : {C : Type 0} (readings : C → Readings) (before : AtCountedDesk C) (asked_of : Step) (turn : Turn) (after : AtCountedDesk C) → wait_of asked_of ≡ None
    → TriesAt readings before (asked_step asked_of) (mark_step before.session asked_of) turn after → TriesAt readings before (asked_step asked_of) (with_since None (asked_step asked_of)) turn after
first_try readings before asked_of turn after none t =
    subst (λ (tried : MarkStep). TriesAt readings before (asked_step asked_of) tried turn after)
    (first_taken before.session asked_of none ∙ sym (tried_first (asked_step asked_of) (asked_first asked_of))) t

-- and each further one that which the try before was given
asked_again : (opening : Opening) (wait : Option Wait) → asked_step (opening_step opening wait) ≡ asked_step (opening_step opening None)
asked_again (opening.Ask id mode) wait = refl
asked_again (opening.Seat under) wait = refl

pub later_try : {C : Type 0} (readings : C → Readings) (before : AtCountedDesk C) (opening : Opening) (stood : Wait) (asked_of : Step) (turn : Turn) (after : AtCountedDesk C)
    → asked_of ≡ opening_step opening (Some stood) → stood.session ≡ before.session → TriesAt readings before (asked_step asked_of) (mark_step before.session asked_of) turn after
    → TriesAt readings before (asked_step (opening_step opening None)) (with_since (Some stood.since) (asked_step (opening_step opening None))) turn after
later_try readings before opens_of first asked_of turn after is own t =
    subst (λ (z : MarkStep × MarkStep). TriesAt readings before z.0 z.1 turn after)
    (λ i. ((ap asked_step is ∙ asked_again opens_of (Some first)) i, (ap (mark_step before.session) is ∙ opening_taken before.session opens_of first own) i)) t

-- how a turn ends
pub refused_is : (answer : Result Reply HandedBack) → IsErr answer → turn_of answer ≡ Refused
refused_is (Ok reply) is = absurd (cc is)
refused_is (Err back) is = refl

pub first_turn : {C : Type 0} (readings : C → Readings) (start : AtCountedDesk C) (asked_of : Step) (answer turn : Turn) (after : AtCountedDesk C) → start.session.pass ≡ start.pass.number
    → wait_of asked_of ≡ None → TriesAt readings start (asked_step asked_of) (mark_step start.session asked_of) answer after → answer ≡ turn → IsSettled turn → CountedTurn readings start (asked_step asked_of) turn after
first_turn readings start asked_of answer turn after by none t is settled =
    counted_turn readings start (asked_step asked_of) None start after turn (waited_none readings start (asked_step asked_of))
    (subst (λ (a : Turn). TriesAt readings start (asked_step asked_of) (with_since None (asked_step asked_of)) a after) is (first_try readings start asked_of answer after none t)) by settled

pub first_wait : {C : Type 0} (readings : C → Readings) (start : AtCountedDesk C) (asked_of : Step) (answer : Turn) (wait : Wait) (after : AtCountedDesk C)
    → wait_of asked_of ≡ None → TriesAt readings start (asked_step asked_of) (mark_step start.session asked_of) answer after → answer ≡ Stand wait
    → (wait.session ≡ start.session) × Waited readings start (asked_step asked_of) (Some wait.since) after
first_wait readings start asked_of answer wait after none t is =
    waits_first readings start (asked_step asked_of) after wait
    (subst (λ (a : Turn). TriesAt readings start (asked_step asked_of) (with_since None (asked_step asked_of)) a after) is (first_try readings start asked_of answer after none t))

-- a further try is one of the asked_of that was asked
further : {C : Type 0} (readings : C → Readings) (mid : AtCountedDesk C) (asked_of : Step) (opening : Opening) (since : ℕ) (answer turn : Turn) (after : AtCountedDesk C) → opening_step opening None ≡ asked_of
    → TriesAt readings mid (asked_step (opening_step opening None)) (with_since (Some since) (asked_step (opening_step opening None))) answer after → answer ≡ turn
    → TriesAt readings mid (asked_step asked_of) (with_since (Some since) (asked_step asked_of)) turn after
further readings mid asked_of opens_of since answer turn after same t is =
    subst (λ (z : Step × Turn). TriesAt readings mid (asked_step z.0) (with_since (Some since) (asked_step z.0)) z.1 after) (λ i. (same i, is i)) t

pub later_turn : {C : Type 0} (readings : C → Readings) (start : AtCountedDesk C) (asked_of : Step) (opening : Opening) (since : ℕ) (mid : AtCountedDesk C) (answer turn : Turn) (after : AtCountedDesk C)
    → start.session.pass ≡ start.pass.number → opening_step opening None ≡ asked_of → Waited readings start (asked_step asked_of) (Some since) mid
    → TriesAt readings mid (asked_step (opening_step opening None)) (with_since (Some since) (asked_step (opening_step opening None))) answer after → answer ≡ turn → IsSettled turn
    → CountedTurn readings start (asked_step asked_of) turn after
later_turn readings start asked_of opens_of since mid answer turn after by same w t is settled =
    counted_turn readings start (asked_step asked_of) (Some since) mid after turn w (further readings mid asked_of opens_of since answer turn after same t is) by settled

pub later_wait : {C : Type 0} (readings : C → Readings) (start : AtCountedDesk C) (asked_of : Step) (opening : Opening) (first : Wait) (mid : AtCountedDesk C) (answer : Turn) (wait : Wait) (after : AtCountedDesk C)
    → opening_step opening None ≡ asked_of → Waited readings start (asked_step asked_of) (Some first.since) mid
    → TriesAt readings mid (asked_step (opening_step opening None)) (with_since (Some first.since) (asked_step (opening_step opening None))) answer after → answer ≡ Stand wait
    → (wait.session ≡ start.session) × Waited readings start (asked_step asked_of) (Some wait.since) after
later_wait readings start asked_of opens_of first mid answer wait after same w t is =
    waits_again readings start (asked_step asked_of) first mid after wait w (further readings mid asked_of opens_of first.since answer (Stand wait) after same t is)
