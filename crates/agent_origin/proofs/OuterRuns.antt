-- Turns of a session at the outer door, and what they do to a run that is known.
use Rattle.std.proofs.{Common.{◌≡◌, ◌≤◌, ◌<◌, ◌+◌, ◌==◌, ℕ, true, false, cond, List, [], ◌∷◌, ◌++◌, length, Option, None, Some, refl, ap, sym, ◌∙◌, subst, arith, append-nil, length-append, inl, inr}, lemmas.List.append_assoc}
use Rattle.std.{proofs.lemmas.{Bool.Decides.nat_tests, Grind.flat_map-append}, specs.{Prelude.{◌≢◌, ⊤, ◌⊎◌, IfSome}, List.{AllByRecursion, list_any}, Option.{option_or, option_map, option_and_then}}}
use Rattle.{agent_ports.specs.{Leads.{Leads, none as stay, one}, declared.session.SessionId.SessionId}, cache_policy.specs.Desks.{AtDesk, IsTurn, is_of, Shows, MakesMarks, marked, refused, spent, GoesOn, GoesOnWhereKnown}}
use Rattle.cache_policy.specs.{Entries.{stored, kept, kept_under}, Extending.{Taken, TakesTurn, AreMarked, none, turned, IsExtendedWhereKnown}, Histories.{History, start_of, next_number, with_mark, with_marks}, Legal.IsLegalRun}
use Rattle.cache_policy.specs.{Runs.{joined, start_of_run, last_history, IsFollowedBy, IsRun}, Seat.{under_of, is_open, gives_back, last_open, unless_back, seat}, Turns.{Turn, Given, Open, Stand, Refused, FitsStep, since_of, with_since}}
use Rattle.cache_policy.{specs.declared.{grant.Grant.Grant, history.Held.Held, life.Limits.Limits, mark.{Mark.Mark, MarkStep.{MarkStep, TheVariants.{Seat, Close, Peek}}, Under.Under}}, proofs.Extending.extends}
use Rattle.cache_policy.proofs.{Lists.{all_append, all_weaker}, OnePromptLemmas.numbers_go_on}
use Rattle.agent_origin.specs.{OuterRuns.{IsOuterStep, seats, closes, peeks as looks, IsOuterMark, LeavesWhereKnown, LeavesDesk}, OuterTurns.{AreOuterTurns, no_turns, peeks, unseated, seated, GiveNothing}}
use Rattle.cache_policy.specs.declared.mark.MarkReply.TheVariants as reply

-- ---- marks

-- no turn of such a step gives a passphrase
fits_ungiven : (limits : Limits) (before : History) (mark : Mark) (asked : MarkStep) (turn : Turn) → IsOuterStep asked → FitsStep asked turn → Shows limits before mark turn
    → (number : ℕ) → mark.reply ≡ reply.Given number → ⊥
fits_ungiven limits before mark _ (Given grant) seats fits shows number given = fits
fits_ungiven limits before mark _ (Given grant) closes fits shows number given = fits
fits_ungiven limits before mark _ (Given grant) looks fits shows number given = fits
fits_ungiven limits before mark asked (Open ticket) outer fits shows number given = cc (shows.0, given)
fits_ungiven limits before mark asked (Stand wait) outer fits shows number given = absurd shows
fits_ungiven limits before mark asked Refused outer fits shows number given = absurd shows
fits_ungiven limits before mark _ _ _ fits shows number given = cc (shows, given)

since_outer : (since : Option ℕ) (asked : MarkStep) → IsOuterStep asked → IsOuterStep (with_since since asked)
since_outer since _ seats = seats
since_outer since _ closes = closes
since_outer since _ looks = looks

own_outer : {limits : Limits} {session : SessionId} {called : ℕ} {asked : MarkStep} {turn : Turn} {run : List History} {own : List Mark} → IsOuterStep asked → FitsStep asked turn
    → MakesMarks limits session called asked run turn own → AllByRecursion IsOuterMark own
own_outer {limits} {asked} {turn} outer fits (marked own is) =
    (record { step = subst IsOuterStep (sym is.asked_is) (since_outer (since_of own.step) asked outer); ungiven = fits_ungiven limits is.before own asked turn outer fits is.shows }, tt)
own_outer outer fits refused = tt
own_outer outer fits (spent all) = tt

-- turns that were taken: of such a step, and as it comes out
abbrev Fit : List Taken → Type 0
Fit turns = AllByRecursion (λ taken. IsOuterStep taken.asked × FitsStep taken.asked taken.turn) turns

marks_outer : {limits : Limits} {session : SessionId} {run before : List History} {turns : List Taken} {marks : List Mark} → Fit turns → AreMarked limits session run before turns marks
    → AllByRecursion IsOuterMark marks
marks_outer fit none = tt
marks_outer fit (turned then goes extends rest) = all_append IsOuterMark goes.own _ (own_outer fit.0.0 fit.0.1 goes.makes) (marks_outer fit.1 rest)

pub steps_outer : {turns : List Taken} → AreOuterTurns turns → AllByRecursion (λ taken. IsOuterStep taken.asked) turns
steps_outer no_turns = tt
steps_outer (peeks more) = (looks, steps_outer more)
steps_outer (unseated by more) = (seats, steps_outer more)
steps_outer (seated more) = (seats, (closes, steps_outer more))

ungiven : (asked : MarkStep) (turn : Turn) → IsOuterStep asked → FitsStep asked turn → (grant : Grant) → turn ≢ Given grant
ungiven _ turn (seats {since}) fits grant given = subst (FitsStep (Seat None since)) given fits
ungiven _ turn (closes {ticket} {keep}) fits grant given = subst (FitsStep (Close ticket keep)) given fits
ungiven _ turn (looks {id} {mode}) fits grant given = subst (FitsStep (Peek id mode)) given fits

-- ---- turns one after another, where the run is known

data Chain (limits : Limits) (session : SessionId) : List History → List Taken → List History → Type 0 where
  over : {run : List History} → Chain limits session run [] run
  step : {before mid after : List History} {taken : Taken} {more : List Taken} → GoesOn limits session before taken.asked taken.turn mid → FitsStep taken.asked taken.turn
      → Chain limits session mid more after → Chain limits session before (taken ∷ more) after

abbrev ChainWhereKnown : Limits → SessionId → Option (List History) → List Taken → Option (List History) → Type 0
ChainWhereKnown limits session None turns None = ⊤
ChainWhereKnown limits session (Some before) turns (Some after) = Chain limits session before turns after
ChainWhereKnown limits session None turns (Some after) = ⊥
ChainWhereKnown limits session (Some before) turns None = ⊥

chain_same : (limits : Limits) (session : SessionId) (run : Option (List History)) → ChainWhereKnown limits session run [] run
chain_same limits session None = tt
chain_same limits session (Some run) = over

chain_on : (limits : Limits) (session : SessionId) (before mid after : Option (List History)) (taken : Taken) (turns : List Taken) → FitsStep taken.asked taken.turn
    → GoesOnWhereKnown limits session before taken.asked taken.turn mid → ChainWhereKnown limits session mid turns after → ChainWhereKnown limits session before (taken ∷ turns) after
chain_on limits session None None None taken turns fits first rest = tt
chain_on limits session (Some before) (Some mid) (Some after) taken turns fits first rest = step first fits rest
chain_on limits session None (Some mid) after taken turns fits first rest = absurd first
chain_on limits session (Some before) None after taken turns fits first rest = absurd first
chain_on limits session None None (Some after) taken turns fits first rest = absurd rest
chain_on limits session (Some before) (Some mid) None taken turns fits first rest = absurd rest

chain_fits : {limits : Limits} {session : SessionId} {before after : List History} {turns : List Taken} → AllByRecursion (λ taken. IsOuterStep taken.asked) turns
    → Chain limits session before turns after → Fit turns
chain_fits steps over = tt
chain_fits steps (step goes fits rest) = ((steps.0, fits), chain_fits steps.1 rest)

module _ {D : Type 0} (at : D → AtDesk) (does : D → MarkStep → Turn → D → Type 0)
    (promise : (before : D) (asked : MarkStep) (turn : Turn) (after : D) → does before asked turn after → IsTurn (at before) asked turn (at after)) where
  chains : (before after : D) (turns : List Taken) → Leads (TakesTurn does) before turns after
      → ChainWhereKnown (at before).limits (at before).session (at before).run turns (at after).run
  chains before after turns stay = chain_same (at before).limits (at before).session (at before).run
  chains before after turns (one {mid} {event} {more} turn later) =
      let is = promise before event.asked event.turn mid turn in
      chain_on (at before).limits (at before).session (at before).run (at mid).run (at after).run event more is.fits is.run
      (subst (λ (l : Limits). ChainWhereKnown l (at before).session (at mid).run more (at after).run) is.limits
      (subst (λ (s : SessionId). ChainWhereKnown (at mid).limits s (at mid).run more (at after).run) is.session (chains mid after more later)))

-- ---- which mark opened a ticket

-- a mark behind which this ticket was out, for this
record OpenedAt (marks : List Mark) (base ticket : ℕ) (under : Option Under) : Type 0 where
  pub front : List Mark
  pub by : Mark
  pub back : List Mark
  pub place : marks ≡ front ++ by ∷ back
  pub number : ticket ≡ base + length front
  pub under_is : under ≡ under_of by.step

opened_then : {marks : List Mark} {base ticket : ℕ} {under : Option Under} (more : List Mark) → OpenedAt marks base ticket under → OpenedAt (marks ++ more) base ticket under
opened_then more is = record {
  front = is.front;
  by = is.by;
  back = is.back ++ more;
  place = ap (λ (m : List Mark). m ++ more) is.place ∙ append_assoc is.front (is.by ∷ is.back) more;
  number = is.number;
  under_is = is.under_is;
}

opened_behind : {marks : List Mark} {base ticket : ℕ} {under : Option Under} (front : List Mark) (number : ℕ) → number ≡ base + length front → OpenedAt marks number ticket under
    → OpenedAt (front ++ marks) base ticket under
opened_behind {marks} {base} front number is opened = record {
  front = front ++ opened.front;
  by = opened.by;
  back = opened.back;
  place = ap (λ (m : List Mark). front ++ m) opened.place ∙ sym (append_assoc front opened.front (opened.by ∷ opened.back));
  number =
      let lengths = length-append front opened.front in
      omega (arith, opened.number, is, lengths);
  under_is = opened.under_is;
}

same_place : {A : Type 0} (front other : List A) (by that : A) (back more : List A) → front ++ by ∷ back ≡ other ++ that ∷ more → length front ≡ length other → by ≡ that
same_place [] [] by that back more is lengths = cc is
same_place [] (x ∷ other) by that back more is lengths = absurd (omega (arith, lengths))
same_place (x ∷ front) [] by that back more is lengths = absurd (omega (arith, lengths))
same_place (x ∷ front) (y ∷ other) by that back more is lengths =
    let rest : front ++ by ∷ back ≡ other ++ that ∷ more = cc is in
    same_place front other by that back more rest (omega (arith, lengths))

-- a ticket was opened by one mark at most
opened_alike : {marks : List Mark} {base ticket : ℕ} {under other : Option Under} → OpenedAt marks base ticket under → OpenedAt marks base ticket other → under ≡ other
opened_alike this that =
    let lengths : length this.front ≡ length that.front = omega (arith, this.number, that.number) in
    let same = same_place this.front that.front this.by that.by this.back that.back (sym this.place ∙ that.place) lengths in
    this.under_is ∙ (ap (λ (m : Mark). under_of m.step) same ∙ sym that.under_is)

-- the ticket that is out was opened by a mark, or before all of them
abbrev Known : List Mark → ℕ → Option Held → Type 0
Known marks base out = IfSome out (λ held. (held.ticket < base) ⊎ OpenedAt marks base held.ticket held.under)

known_then : (marks : List Mark) (base : ℕ) (out : Option Held) (more : List Mark) → Known marks base out → Known (marks ++ more) base out
known_then marks base None more known = tt
known_then marks base (Some held) more (inl older) = inl older
known_then marks base (Some held) more (inr opened) = inr (opened_then more opened)

last_opened : (number : ℕ) (marks : List Mark) → IfSome (last_open number marks) (λ (found : Held × List Mark). OpenedAt marks number found.0.ticket found.0.under)
last_opened number [] = tt
last_opened number (mark ∷ later) =
    elim (last_open (number + 1) later) as (λ o. IfSome o (λ (found : Held × List Mark). OpenedAt later (number + 1) found.0.ticket found.0.under)
    → IfSome (option_or o (cond (is_open mark.reply) (Some (record { ticket = number; under = under_of mark.step }, later)) None))
    (λ (found : Held × List Mark). OpenedAt (mark ∷ later) number found.0.ticket found.0.under)) [
      | Some found ↦ λ opened. opened_behind (mark ∷ []) (number + 1) refl opened
      | None ↦ λ opened. elim (is_open mark.reply) as (λ b. IfSome (cond b (Some (record { ticket = number; under = under_of mark.step }, later)) None)
          (λ (found : Held × List Mark). OpenedAt (mark ∷ later) number found.0.ticket found.0.under)) [
            | true ↦ record { front = []; by = mark; back = later; place = refl; number = omega arith; under_is = refl }
            | false ↦ tt
          ]
    ] (last_opened (number + 1) later)

-- it may have been given back since
abbrev KnownFound : List Mark → ℕ → Option (Held × List Mark) → Type 0
KnownFound marks base found = IfSome found (λ (f : Held × List Mark). (f.0.ticket < base) ⊎ OpenedAt marks base f.0.ticket f.0.under)

unless_known : (marks : List Mark) (base : ℕ) (found : Option (Held × List Mark)) → KnownFound marks base found → Known marks base (option_and_then unless_back found)
unless_known marks base None known = tt
unless_known marks base (Some (held, later)) known = elim (list_any (λ (m : Mark). gives_back held.ticket m.step) later) as (λ b. Known marks base (cond b None (Some held))) [ true ↦ tt | false ↦ known ]

-- a history whose first ticket is known behind other marks
seat_known : (front : List Mark) (base : ℕ) (history : History) → history.base ≡ base + length front → Known front base history.held → Known (front ++ history.marks) base (seat history)
seat_known front base history is known =
    unless_known (front ++ history.marks) base (option_or (last_open history.base history.marks) (option_map (λ held. (held, history.marks)) history.held))
    (elim (last_open history.base history.marks) as (λ o. IfSome o (λ (found : Held × List Mark). OpenedAt history.marks history.base found.0.ticket found.0.under)
    → KnownFound (front ++ history.marks) base (option_or o (option_map (λ held. (held, history.marks)) history.held))) [
      | Some found ↦ λ opened. inr (opened_behind front history.base is opened)
      | None ↦ λ opened. elim history.held as (λ h. Known (front ++ history.marks) base h → KnownFound (front ++ history.marks) base (option_map (λ held. (held, history.marks)) h)) [
        | Some held ↦ λ known. known
        | None ↦ λ known. tt
      ] (known_then front base history.held history.marks known)
    ] (last_opened history.base history.marks))

-- the first history of a run, behind these marks
abbrev HeadKnown : ℕ → List Mark → List History → Type 0
HeadKnown base front run = IfSome (start_of_run run) (λ first. (first.base ≡ base + length front) × Known front base first.held)

head_next : (base : ℕ) (front : List Mark) (history next : History) → IsFollowedBy history next → (history.base ≡ base + length front) × Known front base history.held
    → (next.base ≡ base + length (front ++ history.marks)) × Known (front ++ history.marks) base next.held
head_next base front history next followed known =
    let lengths = length-append front history.marks in
    subst (λ (s : History). (s.base ≡ base + length (front ++ history.marks)) × Known (front ++ history.marks) base s.held) (sym followed.start)
    (omega (arith, lengths, followed.full, known.0), seat_known front base history known.0 known.1)

-- the marks up to a history, and those that it had by then
behind : (front first rest more : List Mark) → (front ++ first) ++ (rest ++ more) ≡ front ++ ((first ++ rest) ++ more)
behind front first rest more = append_assoc front first (rest ++ more) ∙ ap (λ (m : List Mark). front ++ m) (sym (append_assoc first rest more))

run_known : (base : ℕ) (front : List Mark) (earlier later : List History) (prior : History) (more : List Mark) → IsRun (earlier ++ with_marks prior more ∷ later)
    → HeadKnown base front (earlier ++ with_marks prior more ∷ later) → Known (front ++ (joined earlier ++ prior.marks)) base (seat prior)
run_known base front [] later prior more is known = seat_known front base prior known.0 known.1
run_known base front (history ∷ []) later prior more is known =
    subst (λ (m : List Mark). Known m base (seat prior)) (behind front history.marks [] prior.marks)
    (run_known base (front ++ history.marks) [] later prior more is.1 (head_next base front history (with_marks prior more) is.0 known))
run_known base front (history ∷ next ∷ earlier) later prior more is known =
    subst (λ (m : List Mark). Known m base (seat prior)) (behind front history.marks (joined (next ∷ earlier)) prior.marks)
    (run_known base (front ++ history.marks) (next ∷ earlier) later prior more is.1 (head_next base front history next is.0 known))

held_older : (base : ℕ) (out : Option Held) → IfSome out (λ held. held.ticket < base) → Known [] base out
held_older base None older = tt
held_older base (Some held) older = inl older

head_known : (limits : Limits) (run : List History) (start : History) → IsLegalRun limits run → start_of_run run ≡ Some start → HeadKnown start.base [] run
head_known limits [] start legal begins = cc begins
head_known limits (history ∷ later) start legal begins =
    let same : start_of history ≡ start = cc in
    subst (λ (s : History). HeadKnown s.base [] (history ∷ later)) same (omega arith, held_older history.base history.held legal.each.0.held)

-- ---- what the marks of such turns store

-- a step of the session's own, behind these marks
data OwnStep (marks : List Mark) (base : ℕ) : MarkStep → Type 0 where
  seat_wanted : {since : Option ℕ} → OwnStep marks base (Seat None since)
  given_back : {ticket : ℕ} {keep : Option (List ℕ)} → OpenedAt marks base ticket None → OwnStep marks base (Close ticket keep)
  looked : {id : List ℕ} {mode : _} → OwnStep marks base (Peek id mode)

step_then : {marks : List Mark} {base : ℕ} (asked : MarkStep) (more : List Mark) → OwnStep marks base asked → OwnStep (marks ++ more) base asked
step_then _ more seat_wanted = seat_wanted
step_then _ more (given_back opened) = given_back (opened_then more opened)
step_then _ more looked = looked

abbrev AreOwn : List Mark → ℕ → List Mark → Type 0
AreOwn marks base own = AllByRecursion (λ mark. OwnStep marks base mark.step) own

own_steps : {limits : Limits} {session : SessionId} {called : ℕ} {asked : MarkStep} {turn : Turn} {run : List History} {own : List Mark} (marks : List Mark) (base : ℕ)
    → ((since : Option ℕ) → OwnStep marks base (with_since since asked)) → MakesMarks limits session called asked run turn own → AreOwn marks base own
own_steps marks base each (marked own is) = (subst (OwnStep marks base) (sym is.asked_is) (each (since_of own.step)), tt)
own_steps marks base each refused = tt
own_steps marks base each (spent all) = tt

record Goes (session : SessionId) (base : ℕ) (before after : List History) : Type 0 where
  pub more : List Mark
  pub marks : joined after ≡ joined before ++ more
  pub all : AllByRecursion (λ mark. is_of session mark ≡ true → OwnStep (joined after) base mark.step) more

module _ {limits : Limits} {session : SessionId} (base : ℕ) where
  goes_then : {before mid after : List History} {asked : MarkStep} {turn : Turn} (first : GoesOn limits session before asked turn mid) → AreOwn (joined mid) base first.own
      → Goes session base mid after → Goes session base before after
  goes_then {before} {mid} {after} first own rest =
      let P : Mark → Type 0 = λ mark. is_of session mark ≡ true → OwnStep (joined after) base mark.step in
      record {
        more = (first.others ++ first.own) ++ rest.more;
        marks = rest.marks ∙ ap (λ (m : List Mark). m ++ rest.more) first.marks ∙ append_assoc (joined before) (first.others ++ first.own) rest.more;
        all =
            all_append P (first.others ++ first.own) rest.more
            (all_append P first.others first.own
            (all_weaker (λ mark. is_of session mark ≡ false) P (λ mark foreign own. cc (foreign, own)) first.others first.foreign)
            (all_weaker (λ mark. OwnStep (joined mid) base mark.step) P
            (λ mark step own. subst (λ (j : List Mark). OwnStep j base mark.step) (sym rest.marks) (step_then mark.step rest.more step)) first.own own))
            rest.all;
      }

last_split : (run : List History) (history : History) → last_history run ≡ Some history → (front : List History) × run ≡ front ++ history ∷ []
last_split [] history last = absurd (cc)
last_split (first ∷ []) history last =
    let same : first ≡ history = cc in
    ([], ap (λ (h : History). h ∷ []) same)
last_split (first ∷ next ∷ later) history last =
    let rest = last_split (next ∷ later) history last in
    (first ∷ rest.0, ap (λ (r : List History). first ∷ r) rest.1)

-- the number of a ticket is that of the mark by which the seat was had
opens_so : {limits : Limits} {session : SessionId} {called ticket : ℕ} (run : List History) {own : List Mark} → MakesMarks limits session called (Seat None None) run (Open ticket) own
    → (front : List Mark) → joined run ≡ front ++ own → IsRun run → (start : History) → start_of_run run ≡ Some start → OpenedAt (joined run) start.base ticket None
opens_so run (marked own is) front marks is_run start begins =
    let last = last_split run (with_mark is.before own) is.last in
    let number = numbers_go_on run last.0 [] start (with_mark is.before own) is_run begins last.1 in
    let actions : joined run ≡ joined last.0 ++ ((is.before.marks ++ own ∷ []) ++ []) = ap joined last.1 ∙ flat_map-append (λ (h : History). h.marks) last.0 (with_mark is.before own ∷ []) in
    let a = length-append (joined last.0) ((is.before.marks ++ own ∷ []) ++ []) in
    let b = length-append (is.before.marks ++ own ∷ []) [] in
    let c = length-append is.before.marks (own ∷ []) in
    let d = length-append front (own ∷ []) in
    let e = ap (λ (m : List Mark). length m) actions in
    let f = ap (λ (m : List Mark). length m) marks in
    record {
      front = front;
      by = own;
      back = [];
      place = marks;
      number = omega (arith, is.shows.1, number, a, b, c, d, e, f);
      under_is = sym (ap under_of is.asked_is);
    }

facts : {limits : Limits} {session : SessionId} {before after : List History} {turns : List Taken} → AreOuterTurns turns → Chain limits session before turns after → IsLegalRun limits before
    → (start : History) → start_of_run before ≡ Some start → Goes session start.base before after
facts {before} no_turns over legal start begins = record { more = []; marks = sym (append-nil (joined before)); all = tt }
facts (peeks more) (step {mid} goes fits rest) legal start begins =
    goes_then start.base goes (own_steps (joined mid) start.base (λ since. looked) goes.makes) (facts more rest (goes.legal legal) start (goes.start ∙ begins))
facts (unseated by more) (step {mid} goes fits rest) legal start begins =
    goes_then start.base goes (own_steps (joined mid) start.base (λ since. seat_wanted) goes.makes) (facts more rest (goes.legal legal) start (goes.start ∙ begins))
facts (seated {ticket} more) (step {before} {mid} first fits (step {mid = later} second fits_too rest)) legal start begins =
    let opened = opens_so mid first.makes (joined before ++ first.others) (first.marks ∙ sym (append_assoc (joined before) first.others first.own)) (first.legal legal).turns_over start (first.start ∙ begins) in
    let still : OpenedAt (joined later) start.base ticket None = subst (λ (j : List Mark). OpenedAt j start.base ticket None) (sym second.marks) (opened_then (second.others ++ second.own) opened) in
    goes_then start.base first (own_steps (joined mid) start.base (λ since. seat_wanted) first.makes)
    (goes_then start.base second (own_steps (joined later) start.base (λ since. given_back still) second.makes)
    (facts more rest (second.legal (first.legal legal)) start (second.start ∙ first.start ∙ begins)))

chain_legal : {limits : Limits} {session : SessionId} {before after : List History} {turns : List Taken} → Chain limits session before turns after → IsLegalRun limits before → IsLegalRun limits after
chain_legal over legal = legal
chain_legal (step goes fits rest) legal = chain_legal rest (goes.legal legal)

chain_start : {limits : Limits} {session : SessionId} {before after : List History} {turns : List Taken} → Chain limits session before turns after → start_of_run after ≡ start_of_run before
chain_start over = refl
chain_start (step goes fits rest) = chain_start rest ∙ goes.start

start_some : (run : List History) → IsRun run → (start : History) × start_of_run run ≡ Some start
start_some [] is = absurd is
start_some (history ∷ later) is = (start_of history, refl)

all_at : {A : Type 0} (P : A → Type 0) (xs front : List A) (x : A) (back : List A) → xs ≡ front ++ x ∷ back → AllByRecursion P xs → P x
all_at P [] [] x back is all = cc is
all_at P [] (y ∷ front) x back is all = cc is
all_at P (first ∷ xs) [] x back is all = let same : first ≡ x = cc is in subst P same all.0
all_at P (first ∷ xs) (y ∷ front) x back is all = let rest : xs ≡ front ++ x ∷ back = cc is in all_at P xs front x back rest all.1

-- an element that stands behind the first list
all_behind : {A : Type 0} (P : A → Type 0) (xs ys front : List A) (x : A) (back : List A) → xs ++ ys ≡ front ++ x ∷ back → length xs ≤ length front → AllByRecursion P ys → P x
all_behind P [] ys front x back is behind all = all_at P ys front x back is all
all_behind P (first ∷ xs) ys [] x back is behind all = absurd (omega (arith, behind))
all_behind P (first ∷ xs) ys (y ∷ front) x back is behind all = let rest : xs ++ ys ≡ front ++ x ∷ back = cc is in all_behind P xs ys front x back rest (omega (arith, behind)) all

under_none : {marks : List Mark} {base : ℕ} (ticket : ℕ) (out : Option Held) → OpenedAt marks base ticket None → Known marks base out → kept_under out ticket ≡ None
under_none ticket None opened known = refl
under_none {marks} {base} ticket (Some held) opened known =
    elim (held.ticket == ticket) as (λ b. (held.ticket == ticket) ≡ b → cond b held.under None ≡ None) [
      | true ↦ λ e. by_known (grind (arith, nat_tests)) known
      | false ↦ λ e. refl
    ] refl
  where
    by_known : held.ticket ≡ ticket → Known marks base (Some held) → held.under ≡ None
    by_known same (inl older) = absurd (omega (arith, older, same, opened.number))
    by_known same (inr other) = opened_alike (subst (λ (t : ℕ). OpenedAt marks base t held.under) same other) opened

stores_nothing : {marks : List Mark} {base : ℕ} (limits : Limits) (prior : History) (moment : ℕ) (asked : MarkStep) → OwnStep marks base asked → Known marks base (seat prior) → stored limits prior asked moment ≡ []
stores_nothing limits prior moment _ seat_wanted known = refl
stores_nothing limits prior moment _ looked known = refl
stores_nothing limits prior moment _ (given_back {ticket} {keep} opened) known =
    ap (λ (u : Option Under). kept limits (next_number prior) moment u keep) (under_none ticket (seat prior) opened known)

own_store_nothing : (limits : Limits) (session : SessionId) (before after : List History) (turns : List Taken) → AreOuterTurns turns → Chain limits session before turns after → IsLegalRun limits before
    → (earlier later : List History) (prior : History) (mark : Mark) (more : List Mark) → after ≡ earlier ++ with_marks prior (mark ∷ more) ∷ later
    → length (joined before) ≤ length (joined earlier ++ prior.marks) → is_of session mark ≡ true → stored limits prior mark.step mark.moment ≡ []
own_store_nothing limits session before after turns outer chain legal earlier later prior mark more is place own =
    let begins = start_some before legal.turns_over in
    let start = begins.0 in
    let goes = facts outer chain legal start begins.1 in
    let legal_after = chain_legal chain legal in
    let actions : joined after ≡ (joined earlier ++ prior.marks) ++ mark ∷ (more ++ joined later) =
    ap joined is ∙ flat_map-append (λ (h : History). h.marks) earlier (with_marks prior (mark ∷ more) ∷ later)
    ∙ ap (λ (m : List Mark). joined earlier ++ m) (append_assoc prior.marks (mark ∷ more) (joined later)) ∙ sym (append_assoc (joined earlier) prior.marks (mark ∷ (more ++ joined later))) in
    let its = all_behind (λ (m : Mark). is_of session m ≡ true → OwnStep (joined after) start.base m.step) (joined before) goes.more (joined earlier ++ prior.marks) mark (more ++ joined later)
    (sym goes.marks ∙ actions) place goes.all own in
    let known = run_known start.base [] earlier later prior (mark ∷ more) (subst IsRun is legal_after.turns_over)
    (subst (HeadKnown start.base []) is (head_known limits after start legal_after (chain_start chain ∙ begins.1))) in
    let all : Known (joined after) start.base (seat prior) =
    subst (λ (m : List Mark). Known m start.base (seat prior)) (sym actions) (known_then (joined earlier ++ prior.marks) start.base (seat prior) (mark ∷ (more ++ joined later)) known) in
    stores_nothing limits prior mark.moment mark.step its all

-- ---- a session's turns

leaves_known : (limits : Limits) (session : SessionId) (before after : Option (List History)) (turns : List Taken) → AreOuterTurns turns → IsExtendedWhereKnown limits session before turns after
    → ChainWhereKnown limits session before turns after → LeavesWhereKnown limits session before turns after
leaves_known limits session None None turns outer extended chain = tt
leaves_known limits session None (Some after) turns outer extended chain = absurd chain
leaves_known limits session (Some before) None turns outer extended chain = absurd chain
leaves_known limits session (Some before) (Some after) turns outer extended chain = record {
  extended = extended;
  own = marks_outer (chain_fits (steps_outer outer) chain) extended.own;
  stores = own_store_nothing limits session before after turns outer chain;
}

module _ {D : Type 0} (at : D → AtDesk) (does : D → MarkStep → Turn → D → Type 0)
    (promise : (before : D) (asked : MarkStep) (turn : Turn) (after : D) → does before asked turn after → IsTurn (at before) asked turn (at after)) where
  pub leaves_desk : (before after : D) (turns : List Taken) → AreOuterTurns turns → Leads (TakesTurn does) before turns after → LeavesDesk (at before) turns (at after)
  leaves_desk before after turns outer leads =
      leaves_known (at before).limits (at before).session (at before).run (at after).run turns outer (extends at does promise before after turns leads) (chains at does promise before after turns leads)

  pub give_nothing : (before after : D) (turns : List Taken) → AllByRecursion (λ taken. IsOuterStep taken.asked) turns → Leads (TakesTurn does) before turns after → GiveNothing turns
  give_nothing before after turns steps stay = tt
  give_nothing before after turns steps (one {mid} {event} {more} turn later) =
      (ungiven event.asked event.turn steps.0 (promise before event.asked event.turn mid turn).fits, give_nothing mid after more steps.1 later)
