-- A pass over a try, a look and the end.
use lib.ListN.{get_elem?}
use mathlib.Core.Option.{some, some-injective}
use Rattle.std.proofs.{Common.{◌≡◌, ◌≢◌, ◌≤◌, ◌<◌, ℕ, suc, ◌+◌, ◌-◌, List, [], ◌∷◌, ◌++◌, length, nat_eq, Option, Some, Bool, true, false, sym, refl, ap, ◌∙◌, subst, arith, length-append, ⊎_elim}, lemmas.Bool.{cases_lt, Decides.nat_tests}}
use Rattle.std.{proofs.lemmas.List.{append-nil, Elements.filter-append}, specs.List.AllByRecursion}
use Rattle.{atomic_table.specs.Seated.TableId, agent_ports.specs.{Readings.{Readings, IsRead}, declared.session.SessionId.SessionId}, cache_policy.specs.declared.{life.Limits.Limits, mark.{Mark.Mark, MarkStep.MarkStep}, tally.Tally.Tally}}
use Rattle.{cache_policy.{specs.{Histories.History, Runs.{joined, run_with_mark}, Tallies.one_if, Turns.{Turn, turn_of}}, proofs.GrowingRuns.joined_run_with_mark}, agent_core.specs.Cores.mark_of}
use Rattle.agent_core.{specs.{Known.{TakesStep, marked, stood, refused, spent}, Tallies.tally_of}, proofs.Counting.tally_is}
use Rattle.counted_lock.specs.{declared.{board.{About.About, Claim.Claim, Cored.Cored, Stage.TheVariants.Idle}, turn.Tried.Tried}, Logs.{run_of_log, IsLegalLog, is_stopped, marks_by}, Rule.{doing, Fits, AllFit, Closes, blank_claims, times}}
use Rattle.counted_lock.specs.{Claims.{claim, Sat, own}, Plays.{saw, IsIdle, Enters, Gives, first_claims, later_claims}, Passes.{AtPass, AtCounted, HasLooked, AreNewPasses, AreOf, AllStandIn, IsClosed, numbered}}
use Rattle.counted_lock.{specs.{Keeping.{claim_of, IsPass, PassesFit}, Taking.TakesTurn, Trying.Tries}, proofs.{LogLemmas.{is_run_log, joined_log, few_marks, stopped_log}, Taking.marks_are}}

-- the marks that a step adds: its own, at its moment, or none
pub record Own (session : SessionId) (moment : ℕ) (asked : MarkStep) (marks : List Mark) : Type 0 where
  pub by : AllByRecursion (λ mark. mark.session ≡ session) marks
  pub steps : AllByRecursion (λ mark. mark.step ≡ asked) marks
  pub moments : AllByRecursion (λ mark. mark.moment ≡ moment) marks

-- what stands behind a list is known by the whole
behind : (found marks more : List Mark) → found ++ marks ≡ found ++ more → marks ≡ more
behind [] marks more e = e
behind (m ∷ ms) marks more e = behind ms marks more (cc)

pub added : (found marks more : List Mark) (run : List History) → run_of_log (found ++ marks) ≡ run → joined run ≡ found ++ more → marks ≡ more
added found marks more run is all = behind found marks more (sym (joined_log (found ++ marks)) ∙ (ap joined is ∙ all))

pub added_none : (found marks : List Mark) → run_of_log (found ++ marks) ≡ run_of_log found → marks ≡ []
added_none found marks is = added found marks [] (run_of_log found) is (joined_log found ∙ sym (append-nil found))

pub added_one : (found marks : List Mark) (mark : Mark) → run_of_log (found ++ marks) ≡ run_with_mark (run_of_log found) mark → marks ≡ mark ∷ []
added_one found marks mark is =
    added found marks (mark ∷ []) (run_with_mark (run_of_log found) mark) is
    (joined_run_with_mark (run_of_log found) mark (is_run_log found) ∙ ap (λ (l : List Mark). l ++ mark ∷ []) (joined_log found))

own_none : (session : SessionId) (moment : ℕ) (asked : MarkStep) (marks : List Mark) → marks ≡ [] → Own session moment asked marks
own_none session moment asked marks is = subst (Own session moment asked) (sym is) (record { by = tt; steps = tt; moments = tt })

pub own_marks : (limits : Limits) (found : List Mark) (session : SessionId) (moment : ℕ) (asked : MarkStep) (turn : Turn) (marks : List Mark)
    → TakesStep limits (run_of_log found) session moment asked turn (run_of_log (found ++ marks)) → Own session moment asked marks
own_marks limits found session moment asked turn marks (marked last answer last_is below rules shows is) =
    subst (Own session moment asked) (sym (added_one found marks (mark_of session asked answer moment) is)) (record { by = (refl, tt); steps = (refl, tt); moments = (refl, tt) })
own_marks limits found session moment asked _ marks (stood last last_is more rules wait_is is) = own_none session moment asked marks (added_none found marks is)
own_marks limits found session moment asked _ marks (refused last last_is below why is) = own_none session moment asked marks (added_none found marks is)
own_marks limits found session moment asked _ marks (spent all is) = own_none session moment asked marks (added_none found marks is)

-- they are the pass's own
by_pass : (number : ℕ) (session : SessionId) (marks : List Mark) → session.pass ≡ number → AllByRecursion (λ mark. mark.session ≡ session) marks → marks_by number marks ≡ marks
by_pass number session [] is by = refl
by_pass number session (mark ∷ later) is by = go (nat_eq mark.session.pass number) refl (by_pass number session later is by.1)
  where
    go : (b : Bool) → nat_eq mark.session.pass number ≡ b → marks_by number later ≡ later → marks_by number (mark ∷ later) ≡ mark ∷ later
    go true e rest = rw e (ap (λ (l : List Mark). mark ∷ l) rest)
    go false e rest = let same = ap (λ (s : SessionId). s.pass) by.0 in absurd (grind (arith, nat_tests))

pub marks_both : (number : ℕ) (xs ys : List Mark) → marks_by number (xs ++ ys) ≡ marks_by number xs ++ marks_by number ys
marks_both number xs ys = filter-append (λ m. nat_eq m.session.pass number) xs ys

-- the own marks behind marks of others
pub mine_more : (number : ℕ) (seen others found marks : List Mark) → marks_by number others ≡ [] → found ≡ seen ++ others → marks_by number marks ≡ marks
    → marks_by number (found ++ marks) ≡ marks_by number seen ++ marks
mine_more number seen others found marks foreign whole is =
    marks_both number found marks
    ∙ (λ i. (ap (marks_by number) whole ∙ (marks_both number seen others ∙ (ap (λ l. marks_by number seen ++ l) foreign ∙ append-nil (marks_by number seen)))) i ++ is i)

few_by : (number : ℕ) (log : List Mark) → length (marks_by number log) ≤ length log
few_by number [] = omega arith
few_by number (m ∷ ms) = go (nat_eq m.session.pass number) refl (few_by number ms)
  where
    go : (b : Bool) → nat_eq m.session.pass number ≡ b → length (marks_by number ms) ≤ length ms → length (marks_by number (m ∷ ms)) ≤ length (m ∷ ms)
    go true e h = rw e (omega (arith, h))
    go false e h = rw e (omega (arith, h))

pub calls_few : (number sessions front calls : ℕ) (stopped : Bool) (m : Sat) → IsPass number sessions front calls stopped m → calls < 9223372036854775808
calls_few number sessions front calls stopped m p =
    let a = p.calls_is in let b = few_by number (own m).seen in let c = few_marks (own m).limits (own m).seen p.legal in omega (arith, a, b, c)

-- each own mark is of a session whose count is below this
below_both : (sessions : ℕ) (xs ys : List Mark) → AllByRecursion (λ mark. mark.session.count < sessions) xs → AllByRecursion (λ mark. mark.session.count < sessions) ys
    → AllByRecursion (λ mark. mark.session.count < sessions) (xs ++ ys)
below_both sessions [] ys below more = more
below_both sessions (x ∷ xs) ys below more = (below.0, below_both sessions xs ys below.1 more)

below_own : (sessions : ℕ) (session : SessionId) (marks : List Mark) → session.count < sessions → AllByRecursion (λ mark. mark.session ≡ session) marks
    → AllByRecursion (λ mark. mark.session.count < sessions) marks
below_own sessions session [] below by = tt
below_own sessions session (mark ∷ later) below by =
    (let same = ap (λ (s : SessionId). s.count) by.0 in omega (arith, same, below), below_own sessions session later below by.1)

pub below_later : (sessions other : ℕ) (marks : List Mark) → sessions ≤ other → AllByRecursion (λ mark. mark.session.count < sessions) marks
    → AllByRecursion (λ mark. mark.session.count < other) marks
below_later sessions other [] more below = tt
below_later sessions other (mark ∷ later) more below = (let first = below.0 in omega (arith, first, more), below_later sessions other later more below.1)

-- what a turn leaves of a pass
pub passes_on : (session : SessionId) (reading : ℕ) (asked : MarkStep) (tried : Tried) (number sessions front calls calls' : ℕ) (stopped : Bool) (m m' : Sat) → IsPass number sessions front calls stopped m
    → session.pass ≡ number → session.count < sessions → TakesTurn session reading asked m tried m' → calls' ≡ calls + one_if tried.made → IsPass number sessions tried.front calls' tried.stopped m'
passes_on session reading asked tried number sessions front calls calls' stopped m m' p by below t raised =
    let seen : (own m').seen ≡ t.found ++ t.marks = ap (λ (c : Claim). c.seen) t.seen in
    let ours = own_marks (own m).limits t.found session _ asked (turn_of tried.answer) t.marks t.takes in
    let foreign : marks_by number t.others ≡ [] = subst (λ (k : ℕ). marks_by k t.others ≡ []) p.number_is t.foreign in
    let more = mine_more number (own m).seen t.others t.found t.marks foreign t.found_is (by_pass number session t.marks by ours.by) in
    let mine_is : marks_by number (own m').seen ≡ marks_by number (own m).seen ++ t.marks = ap (marks_by number) seen ∙ more in
    record {
      idle = t.idle;
      number_is = ap (λ (c : Claim). c.number) t.seen ∙ p.number_is;
      front_is = t.front_is ∙ ap (λ (l : List Mark). length l) (sym seen);
      calls_is =
          let a = ap (λ (l : List Mark). length l) mine_is in let b = length-append (marks_by number (own m).seen) t.marks in
          let c = p.calls_is in let d = t.many in omega (arith, a, b, c, d, raised);
      stopped_is = t.stopped_is ∙ ap is_stopped (sym seen);
      legal = subst (λ (z : Limits × List Mark). IsLegalLog z.0 z.1) (λ i. (ap (λ (c : Claim). c.limits) (sym t.seen) i, sym seen i)) t.legal;
      earlier = subst (AllByRecursion (λ mark. mark.session.count < sessions)) (sym mine_is)
          (below_both sessions (marks_by number (own m).seen) t.marks p.earlier (below_own sessions session t.marks below ours.by));
    }

-- how a place is seen
abbrev pub at_pass : TableId → ℕ → ℕ → Sat → AtPass
at_pass table number sessions m = record { table = table; limits = (own m).limits; number = number; sessions = sessions; seen = (own m).seen }

pub tries : (table : TableId) (session : SessionId) (first last : Readings) (asked : MarkStep) (tried : Tried) (number sessions front calls : ℕ) (stopped : Bool) (m m' : Sat)
    → IsPass number sessions front calls stopped m → session.pass ≡ number → IsRead first last.last last → TakesTurn session last.last asked m tried m'
    → Tries session first last asked (at_pass table number sessions m) (turn_of tried.answer) (at_pass table number sessions m')
tries table session first last asked tried number sessions front calls stopped m m' p by read t =
    let ours = own_marks (own m).limits t.found session _ asked (turn_of tried.answer) t.marks t.takes in
    let foreign : marks_by number t.others ≡ [] = subst (λ (k : ℕ). marks_by k t.others ≡ []) p.number_is t.foreign in
    let seen : (own m').seen ≡ t.found ++ t.marks = ap (λ (c : Claim). c.seen) t.seen in
    let limits_is : (own m').limits ≡ (own m).limits = ap (λ (c : Claim). c.limits) t.seen in
    record {
      reading = last.last;
      read = read;
      others = t.others;
      foreign = foreign;
      found = t.found;
      found_is = t.found_is;
      own = t.marks;
      now = λ i. record { table = table; limits = limits_is i; number = number; sessions = sessions; seen = seen i };
      mine_is = ap (marks_by number) seen ∙ mine_more number (own m).seen t.others t.found t.marks foreign t.found_is (by_pass number session t.marks by ours.by);
      takes = t.takes;
      legal = t.legal;
      refused = t.refused;
    }

-- a look
pub looks_on : (number sessions front calls : ℕ) (stopped : Bool) (m m1 m2 : Sat) (cored : Cored) (front' : ℕ) (stopped' : Bool) → IsPass number sessions front calls stopped m
    → Enters m m1 cored → Gives m1 m2 → front' ≡ cored.tally.marks → stopped' ≡ cored.core.stopped → IsPass number sessions front' calls stopped' m2
looks_on number sessions front calls stopped m m1 m2 cored front' stopped' p e g is is' =
    let same : own m2 ≡ saw (own m) e.more = g.same ∙ e.seen in
    let seen : (own m2).seen ≡ (own m).seen ++ e.more = ap (λ (c : Claim). c.seen) same in
    let there : (own m2).seen ≡ (own m1).seen = ap (λ (c : Claim). c.seen) g.same in
    let foreign : marks_by number e.more ≡ [] = subst (λ (k : ℕ). marks_by k e.more ≡ []) p.number_is e.foreign in
    let kept = mine_more number (own m).seen e.more ((own m).seen ++ e.more) [] foreign refl refl in
    let mine_is : marks_by number (own m2).seen ≡ marks_by number (own m).seen =
    ap (marks_by number) (seen ∙ sym (append-nil ((own m).seen ++ e.more))) ∙ (kept ∙ append-nil (marks_by number (own m).seen)) in
    record {
      idle = g.idle;
      number_is = ap (λ (c : Claim). c.number) same ∙ p.number_is;
      front_is = is ∙ (marks_are cored (own m1).seen e.stands.keeps e.stands.tally_is ∙ ap (λ (l : List Mark). length l) (sym there));
      calls_is = p.calls_is ∙ ap (λ (l : List Mark). length l) (sym mine_is);
      stopped_is = is' ∙ (stopped_log cored.core (own m1).seen e.stands.keeps ∙ ap is_stopped (sym there));
      legal = subst (λ (z : Limits × List Mark). IsLegalLog z.0 z.1) (λ i. (ap (λ (c : Claim). c.limits) (sym same) i, sym there i)) e.legal;
      earlier = subst (AllByRecursion (λ mark. mark.session.count < sessions)) (sym mine_is) p.earlier;
    }

pub looks : (table : TableId) (number sessions front calls : ℕ) (stopped : Bool) (m m1 m2 : Sat) (cored : Cored) → IsPass number sessions front calls stopped m → Enters m m1 cored → Gives m1 m2
    → HasLooked (at_pass table number sessions m) (at_pass table number sessions m2)
looks table number sessions front calls stopped m m1 m2 cored p e g =
    let same : own m2 ≡ saw (own m) e.more = g.same ∙ e.seen in
    let seen : (own m2).seen ≡ (own m).seen ++ e.more = ap (λ (c : Claim). c.seen) same in
    let there : (own m2).seen ≡ (own m1).seen = ap (λ (c : Claim). c.seen) g.same in
    let foreign : marks_by number e.more ≡ [] = subst (λ (k : ℕ). marks_by k e.more ≡ []) p.number_is e.foreign in
    let kept = mine_more number (own m).seen e.more ((own m).seen ++ e.more) [] foreign refl refl in
    let legal : IsLegalLog (own m2).limits (own m2).seen =
    subst (λ (z : Limits × List Mark). IsLegalLog z.0 z.1) (λ i. (ap (λ (c : Claim). c.limits) (sym same) i, sym there i)) e.legal in
    record {
      others = e.more;
      foreign = foreign;
      now = λ i. record { table = table; limits = ap (λ (c : Claim). c.limits) same i; number = number; sessions = sessions; seen = seen i };
      mine_is = ap (marks_by number) (seen ∙ sym (append-nil ((own m).seen ++ e.more))) ∙ (kept ∙ append-nil (marks_by number (own m).seen));
      legal = legal.legal;
    }

-- the new passes
blank_cut : (limits : Limits) (i n : ℕ) → i < n → blank_claims limits i (n - i) ≡ claim limits i [] ∷ blank_claims limits (suc i) (n - suc i)
blank_cut limits i n l = let e : n - i ≡ suc (n - suc i) = omega arith in ap (blank_claims limits i) e

abbrev new_at : AtCounted → ℕ → AtPass
new_at counted number = record { table = counted.table; limits = counted.limits; number = number; sessions = 0; seen = [] }

pub new_more : (counted : AtCounted) (k : ℕ) (ps : List AtPass) (p : AtPass) → AreNewPasses counted k ps → p ≡ record { table = counted.table; limits = counted.limits; number = k + length ps; sessions = 0; seen = [] }
    → AreNewPasses counted k (ps ++ p ∷ [])
new_more counted k [] p a e = (e ∙ ap (new_at counted) (omega arith), tt)
new_more counted k (q ∷ qs) p a e = (a.0, new_more counted (suc k) qs p a.1 (e ∙ ap (new_at counted) (omega arith)))

pub new_pass : (limits : Limits) (i n : ℕ) (m m' : Sat) → IsLegalLog limits [] → m ≡ (doing Idle (blank_claims limits i (n - i)), []) → i < n → m' ≡ (doing Idle (first_claims m.0.claims), [])
    → IsPass i 0 0 0 false m' × (own m' ≡ claim limits i [])
new_pass limits i n m m' legal place l is =
    let e : m' ≡ (doing Idle (claim limits i [] ∷ []), []) = is ∙ ap (λ (cs : List Claim). (doing Idle (first_claims cs), [])) (ap (λ (z : Sat). z.0.claims) place ∙ blank_cut limits i n l) in
    subst (λ (z : Sat). IsPass i 0 0 0 false z × (own z ≡ claim limits i [])) (sym e)
    (record { idle = refl; number_is = refl; front_is = refl; calls_is = refl; stopped_is = refl; legal = legal; earlier = tt }, refl)

pub new_rest : (limits : Limits) (i n : ℕ) (m m' : Sat) → m ≡ (doing Idle (blank_claims limits i (n - i)), []) → i < n → m' ≡ (doing m.0.stage (later_claims m.0.claims), m.1)
    → m' ≡ (doing Idle (blank_claims limits (i + 1) (n - (i + 1))), [])
new_rest limits i n m m' place l is =
    let up : suc i ≡ i + 1 = omega arith in
    is ∙ (ap (λ (z : Sat). (doing z.0.stage (later_claims z.0.claims), z.1)) place
    ∙ (ap (λ (cs : List Claim). (doing Idle (later_claims cs), [])) (blank_cut limits i n l) ∙ ap (λ (j : ℕ). (doing Idle (blank_claims limits j (n - j)), [])) up))

pub are_of : (counted : AtCounted) (number : ℕ) (passes : List AtPass) → AreNewPasses counted number passes → AreOf counted.table passes
are_of counted number [] new = tt
are_of counted number (pass ∷ later) new = (ap (λ (p : AtPass). p.table) new.0, are_of counted (suc number) later new.1)

-- the end
pub of_last : (table : TableId) (ps : List AtPass) (p : AtPass) → AreOf table (ps ++ p ∷ []) → AreOf table ps × (p.table ≡ table)
of_last table [] p a = (tt, a.0)
of_last table (q ∷ qs) p a = let r = of_last table qs p a.1 in ((a.0, r.0), r.1)

fit_last : (about : About) (log : List Mark) (ps : List AtPass) (p : AtPass) → PassesFit about log ps → Fits about log (claim_of p) → PassesFit about log (ps ++ p ∷ [])
fit_last about log [] p f g = (g, tt)
fit_last about log (q ∷ qs) p f g = (f.0, fit_last about log qs p f.1 g)

fit_apart : (about : About) (log : List Mark) (cs ds : List Claim) → AllFit about log (cs ++ ds) → AllFit about log cs × AllFit about log ds
fit_apart about log [] ds f = (tt, f)
fit_apart about log (c ∷ cs) ds f = let r = fit_apart about log cs ds f.1 in ((f.0, r.0), r.1)

stand_in : (about : About) (log : List Mark) (ps : List AtPass) → PassesFit about log ps → AllStandIn log ps
stand_in about log [] f = tt
stand_in about log (p ∷ ps) f = (
  record {
    seen = (f.0.more, f.0.whole);
    own = ap (marks_by p.number) (sym f.0.whole) ∙ (marks_both p.number p.seen f.0.more ∙ (ap (λ l. marks_by p.number p.seen ++ l) f.0.foreign ∙ append-nil (marks_by p.number p.seen)));
  },
  stand_in about log ps f.1,
)

-- the claims of a number are as many as its passes
times_both : (k : ℕ) (xs ys : List Claim) → times k (xs ++ ys) ≡ times k xs + times k ys
times_both k [] ys = omega arith
times_both k (x ∷ xs) ys = let h = times_both k xs ys in omega (arith, h)

numbered_one : (k : ℕ) (p : AtPass) → length (numbered k (p ∷ [])) ≡ times k (claim_of p ∷ [])
numbered_one k p = go (nat_eq p.number k) refl
  where
    go : (b : Bool) → nat_eq p.number k ≡ b → length (numbered k (p ∷ [])) ≡ times k (claim_of p ∷ [])
    go true is = rw is refl
    go false is = rw is refl

numbered_last : (k : ℕ) (ps : List AtPass) (p : AtPass) → length (numbered k (ps ++ p ∷ [])) ≡ length (numbered k ps) + times k (claim_of p ∷ [])
numbered_last k ps p =
    ap (λ (l : List AtPass). length l) (filter-append (λ (q : AtPass). nat_eq q.number k) ps (p ∷ []))
    ∙ (length-append (numbered k ps) (numbered k (p ∷ [])) ∙ ap (λ (n : ℕ). length (numbered k ps) + n) (numbered_one k p))

pub numbers_first : (u : Sat) (p : AtPass) (ps : List AtPass) → IsIdle u → own u ≡ claim_of p → (k : ℕ) → times k u.0.claims + length (numbered k ps) ≡ length (numbered k (ps ++ p ∷ []))
numbers_first u p ps idle own_is k =
    let claims = ap (times k) (ap (λ (z : Sat). z.0.claims) idle ∙ ap (λ (c : Claim). c ∷ []) own_is) in let last = numbered_last k ps p in omega (arith, claims, last)

pub numbers_more : (m u m' : Sat) (p : AtPass) (ps : List AtPass) → IsIdle u → own u ≡ claim_of p → m' ≡ (doing m.0.stage (m.0.claims ++ u.0.claims), m.1)
    → (k : ℕ) → times k m'.0.claims + length (numbered k ps) ≡ times k m.0.claims + length (numbered k (ps ++ p ∷ []))
numbers_more m u m' p ps idle own_is is k =
    let claims = ap (λ (z : Sat). times k z.0.claims) is ∙ times_both k m.0.claims u.0.claims in let first = numbers_first u p ps idle own_is k in omega (arith, claims, first)

-- marks that none but these passes made
none_of : (k : ℕ) (m : Mark) (ms : List Mark) → marks_by k (m ∷ ms) ≡ [] → (m.session.pass ≢ k) × (marks_by k ms ≡ [])
none_of k m ms none = go (nat_eq m.session.pass k) refl
  where
    go : (b : Bool) → nat_eq m.session.pass k ≡ b → (m.session.pass ≢ k) × (marks_by k ms ≡ [])
    go true is = let h : m ∷ marks_by k ms ≡ [] = rw is at none in absurd (cc h)
    go false is = (λ e. grind (arith, nat_tests), rw is at none)

each_of : (P : ℕ → Type 0) (n : ℕ) (ms : List Mark) → ((k : ℕ) → k < n → P k) → ((k : ℕ) → n ≤ k → marks_by k ms ≡ []) → AllByRecursion (λ mark. P mark.session.pass) ms
each_of P n [] is none = tt
each_of P n (m ∷ ms) is none = (
  ⊎_elim (λ (near : m.session.pass < n). is m.session.pass near) (λ (far : n ≤ m.session.pass). absurd ((none_of m.session.pass m ms (none m.session.pass far)).0 refl)) (cases_lt m.session.pass n),
  each_of P n ms is (λ k far. (none_of k m ms (none k far)).1),
)

-- the place of one pass more
pub gathers : (m u m' : Sat) (p : AtPass) (ps all : List AtPass) → IsIdle u → own u ≡ claim_of p → m' ≡ (doing m.0.stage (m.0.claims ++ u.0.claims), m.1)
    → ((about : About) (log : List Mark) → AllFit about log m.0.claims → PassesFit about log (ps ++ p ∷ []) → PassesFit about log all)
    → (about : About) (log : List Mark) → AllFit about log m'.0.claims → PassesFit about log ps → PassesFit about log all
gathers m u m' p ps all idle own_is is before about log f g =
    let claims : m'.0.claims ≡ m.0.claims ++ claim_of p ∷ [] = ap (λ (z : Sat). z.0.claims) is ∙ ap (λ (cs : List Claim). m.0.claims ++ cs) (ap (λ (z : Sat). z.0.claims) idle ∙ ap (λ (c : Claim). c ∷ []) own_is) in
    let r = fit_apart about log m.0.claims (claim_of p ∷ []) (subst (AllFit about log) claims f) in
    before about log r.0 (fit_last about log ps p g r.1.0)

pub gathers_one_more : (m u m' : Sat) → IsIdle u → m' ≡ (doing m.0.stage (m.0.claims ++ u.0.claims), m.1) → length m'.0.claims ≡ length m.0.claims + 1
gathers_one_more m u m' idle is =
    ap (λ (z : Sat). length z.0.claims) is ∙ (length-append m.0.claims u.0.claims ∙ ap (λ (cs : List Claim). length m.0.claims + length cs) (ap (λ (z : Sat). z.0.claims) idle))

-- the first pass
pub gathers_first : (u : Sat) (p : AtPass) (ps : List AtPass) → IsIdle u → own u ≡ claim_of p
    → (about : About) (log : List Mark) → AllFit about log u.0.claims → PassesFit about log ps → PassesFit about log (ps ++ p ∷ [])
gathers_first u p ps idle own_is about log f g =
    let claims : u.0.claims ≡ claim_of p ∷ [] = ap (λ (z : Sat). z.0.claims) idle ∙ ap (λ (c : Claim). c ∷ []) own_is in
    fit_last about log ps p g (subst (AllFit about log) claims f).0

pub closed : (counted : AtCounted) (passes : List AtPass) (claims : List Claim) (about : About) (ws : List ℕ) (xs : List (Option Cored)) (tally : Tally) (cored : Cored)
    → about.limits ≡ counted.limits → about.passes ≡ counted.passes → (c : Closes about claims ws xs) → ((k : ℕ) → times k claims ≡ length (numbered k passes))
    → ((log : List Mark) → AllFit about log claims → PassesFit about log passes) → cored ≡ c.core
    → tally ≡ record cored.tally { stopped = cored.core.stopped } → IsClosed counted passes tally
closed counted passes claims about ws xs tally cored limits count c same fits is tally_as =
    let run : List History = run_of_log c.log in
    let legal : IsLegalLog counted.limits c.log = subst (λ (l : Limits). IsLegalLog l c.log) limits c.legal in
    let keeps = c.stands.keeps in
    let whole : record c.core.tally { stopped = c.core.core.stopped } ≡ tally_of c.core.core.limits run =
    (λ i. record c.core.tally { stopped = keeps.stands.stopped_is i }) ∙ tally_is c.core.core.limits run keeps.last c.core.tally keeps.last_is c.stands.tally_is in
    let numbers : (k : ℕ) → k < counted.passes → length (numbered k passes) ≡ 1 = λ k l. sym (same k) ∙ c.numbers k (subst (λ (n : ℕ). k < n) (sym count) l) in
    let within : (k : ℕ) → counted.passes ≤ k → marks_by k c.log ≡ [] = λ k far. c.within k (subst (λ (n : ℕ). n ≤ k) (sym count) far) in
    record {
      run = c.log;
      legal = legal.legal;
      all = stand_in about c.log passes (fits c.log c.fits);
      numbers = numbers;
      within = within;
      each = each_of (λ k. length (numbered k passes) ≡ 1) counted.passes c.log numbers within;
      tally_is = tally_as ∙ (ap (λ (z : Cored). record z.tally { stopped = z.core.stopped }) is ∙ (whole ∙ ap (λ (l : Limits). tally_of l run) (c.limits_is ∙ limits)));
    }

pub mark_word : (about : About) (claims : List Claim) (ws : List ℕ) (xs : List (Option Cored)) (n : ℕ) (c : Closes about claims ws xs) → get_elem? ws 2 ≡ some n → n ≡ c.core.tally.marks
mark_word about claims ws xs n c at =
    let h : some (length c.log) ≡ some n = ap (λ (l : List ℕ). get_elem? l 2) (sym c.counted) ∙ at in
    sym (some-injective (length c.log) n h) ∙ sym (marks_are c.core c.log c.stands.keeps c.stands.tally_is)

pub core_out : (about : About) (claims : List Claim) (ws : List ℕ) (xs : List (Option Cored)) (x : Option Cored) (c : Closes about claims ws xs) → get_elem? xs 0 ≡ some x → x ≡ Some c.core
core_out about claims ws xs x c at = some-injective x (Some c.core) (sym at ∙ c.home)
