-- What the sessions of a daemon hand to the cache is their own.
use Rattle.std.{specs.{List.AllByRecursion, Prelude.{◌⊎◌, nat_eq, cond, filter}}, proofs.{Common.{◌≡◌, ℕ, Bool, true, false, List, [], ◌∷◌, ◌++◌, length, Option, suc, refl, sym, ap, subst, inl, inr, arith}, lemmas.Bool.Decides.nat_tests}}
use Rattle.{agent_ask.specs.Session.SessionEvents.{Received, Sent, Cut, Inquiry, CacheTurn, Port, turns_in}, agent_commands.specs.declared.went.SessionEnd.SessionEnd, agent_origin.specs.{DoorSessions.DoorExchange, declared.door.Door.Door}}
use Rattle.{agent_ports.specs.{HostParts.Views, Readings.Readings, Sides.Side, TrustFiles.TrustState, declared.session.SessionId.SessionId}, agent_serve.specs.{Pairs.ByPlace, Serves.{LinkSides, PassTurns, ServesOne}}}
use Rattle.{agent_serve.specs.Working.{HostViews, Post, ServesLinks, Works, home_post, last_post}, agent_session.{specs.{Causes.{Has, here, later}, OwnPassphrases.HandsIn}, proofs.{AtOnce.all_fit, OwnSessions.{door_own, session_own}}}}
use Rattle.cache_policy.specs.{Desks.MakesMarks, Extending.Taken, Histories.History, Turns.{Turn, with_since}, declared.{life.Limits.Limits, mark.{Mark.Mark, MarkStep.MarkStep}}}
use Rattle.{cache_policy.specs.declared.mark.MarkStep.TheVariants.{Ask, Seat, Close, Put, Clear, Flush, Peek, Stop}, counted_lock.specs.Passes.{AtCounted, AtPass, mine, AreNewPasses, StandsIn, AllStandIn, numbered}}
use Rattle.{counted_lock.specs.Turns.{AtCountedDesk, at_counted, CountedTurn}, key_commands.specs.Events.Event, pinentry_client.specs.Dialogues.PinentryDoes, session_options.specs.declared.rules.Rules.Rules}
use Rattle.agent_top.{specs.{Daemon.SumsUp, OwnPassphrases.{IsOwnTurn, IsOfSession}}, proofs.Rounds.{PassRuns, EachRuns, each_runs}}
use Rattle.agent_serve.specs.Serves as serves
use Rattle.agent_serve.specs.Working as working
use Rattle.cache_policy.specs.Desks as desks
use Rattle.agent_top.proofs.Rounds as rounds

-- ---- elements of lists

has_split : {E : Type 0} {one : E} (first more : List E) → Has one (first ++ more) → Has one first ⊎ Has one more
has_split [] more has = inr has
has_split (other ∷ first) more here = inl here
has_split (other ∷ first) more (later has) = elim (has_split first more has) [ inl before ↦ inl (later before) | inr behind ↦ inr behind ]

each_has : {E : Type 0} (Is : E → Type 0) {one : E} (list : List E) → AllByRecursion Is list → Has one list → Is one
each_has Is [] each has = elim has [ ]
each_has Is (one ∷ more) each here = each.0
each_has Is (other ∷ more) each (later has) = each_has Is more each.1 has

record Place {E : Type 0} (one : E) (list : List E) : Type 0 where
  before : List E
  behind : List E
  is : list ≡ before ++ one ∷ behind

place : {E : Type 0} {one : E} {list : List E} → Has one list → Place one list
place (here {more}) = record { before = []; behind = more; is = refl }
place (later {first} has) =
    let there = place has in record { before = first ∷ there.before; behind = there.behind; is = ap (λ l. first ∷ l) there.is }

-- what passes a test is kept
kept : {E : Type 0} (test : E → Bool) {one : E} (list : List E) → Has one list → test one ≡ true → Has one (filter test list)
kept test (one ∷ more) here so = subst (λ b. Has one (cond b (one ∷ filter test more) (filter test more))) (sym so) here
kept test {one} (other ∷ more) (later has) so = go (test other) (kept test more has so)
  where
    go : (passes : Bool) → Has one (filter test more) → Has one (cond passes (other ∷ filter test more) (filter test more))
    go true there = later there
    go false there = there
kept test [] has so = elim has [ ]

record Passing {E : Type 0} (test : E → Bool) (list : List E) : Type 0 where
  one : E
  has : Has one list
  passes : test one ≡ true

-- and where something is kept, it is of the list
some_passes : {E : Type 0} (test : E → Bool) (list : List E) → length (filter test list) ≡ 1 → Passing test list
some_passes test [] long = absurd (cc long)
some_passes test (one ∷ more) long = go (test one) refl (some_passes test more)
  where
    go : (passes : Bool) → test one ≡ passes → (length (filter test more) ≡ 1 → Passing test more) → Passing test (one ∷ more)
    go true so rest = record { one = one; has = here; passes = so }
    go false so rest =
        let there = rest (subst (λ b. length (cond b (one ∷ filter test more) (filter test more)) ≡ 1) so long) in
        record { one = there.one; has = later there.has; passes = there.passes }

-- ---- a session

-- a step that hands a passphrase in is marked as it was asked
same_step : (step asked : MarkStep) (since : Option ℕ) → step ≡ with_since since asked → HandsIn step → asked ≡ step
same_step step (Put id mode life pass) since is hands = sym is
same_step step (Close ticket keep) since is hands = sym is
same_step step (Ask id mode way first) since is hands = elim (subst HandsIn is hands) [ ]
same_step step (Seat under first) since is hands = elim (subst HandsIn is hands) [ ]
same_step step (Clear id mode) since is hands = elim (subst HandsIn is hands) [ ]
same_step step (Peek id mode) since is hands = elim (subst HandsIn is hands) [ ]
same_step step Flush since is hands = elim (subst HandsIn is hands) [ ]
same_step step Stop since is hands = elim (subst HandsIn is hands) [ ]

makes_same : {limits : Limits} {session : SessionId} {called : ℕ} {asked : MarkStep} {run : List History} {turn : Turn} {own : List Mark} {mark : Mark} → MakesMarks limits session called asked run turn own
    → Has mark own → HandsIn mark.step → asked ≡ mark.step
makes_same {asked} {mark} (desks.marked own is) here hands = same_step mark.step asked _ is.asked_is hands
makes_same (desks.marked own is) (later has) hands = elim has [ ]
makes_same desks.refused has hands = elim has [ ]
makes_same (desks.spent is) has hands = elim has [ ]

-- the turn that made a mark
record TurnOf (mark : Mark) (turns : List Taken) : Type 0 where
  turn : Turn
  has : Has (record { asked = mark.step; turn = turn }) turns

turn_of : {session : SessionId} {before after : AtPass} {first last : Readings} {turns : List Taken} {own : List Mark} {mark : Mark} → PassTurns session before first turns own after last → Has mark own → HandsIn mark.step
    → TurnOf mark turns
turn_of serves.none has hands = elim has [ ]
turn_of {mark} (serves.turned {taken} {turns} {marks} does more) has hands =
    elim (has_split does.own marks has) [
      | inl made ↦
          let same : taken.asked ≡ mark.step = makes_same does.makes made hands in
          record { turn = taken.turn; has = subst (λ asked. Has (record { asked = asked; turn = taken.turn }) (taken ∷ turns)) same here }
      | inr rest ↦ let there = turn_of more rest hands in record { turn = there.turn; has = later there.has }
    ]

turn_event : {taken : Taken} (events : List Event) → Has taken (turns_in events) → Has (CacheTurn taken) events
turn_event [] has = elim has [ ]
turn_event (Received took ∷ more) has = later (turn_event more has)
turn_event (Sent text ∷ more) has = later (turn_event more has)
turn_event (Cut text ∷ more) has = later (turn_event more has)
turn_event (Inquiry word params limit inquired ∷ more) has = later (turn_event more has)
turn_event (CacheTurn other ∷ more) here = here
turn_event (CacheTurn other ∷ more) (later has) = later (turn_event more has)
turn_event (Port what ∷ more) has = later (turn_event more has)

module _ {La C R K T : Type 0} {views : Views La C R K} {trusts : T → TrustState} {folder : List ℕ} {rules : Rules} {door : Door} {session : SessionId} {before after : LinkSides} {pass now : AtPass} {end : SessionEnd}
    (one : ServesOne views trusts folder rules door session before pass end after now) where
  pub own_turn : (mark : Mark) → Has mark one.own → HandsIn mark.step → IsOwnTurn door rules one.served.events mark
  own_turn mark has hands =
      let taken = turn_of one.turns has hands in
      let there = place (turn_event one.served.events taken.has) in
      let fits =
      all_fit (CountedTurn (λ (readings : Readings). readings)) PinentryDoes (λ (desk : AtCountedDesk Readings). at_counted desk.pass desk.session desk.out) (λ prior asked turn then does. does.is) one.served.leads in
      record {
        before = there.before;
        turn = taken.turn;
        later = there.behind;
        events_are = there.is;
        stores =
            session_own rules (DoorExchange door rules) (λ prior line events then went exchange fits. door_own line exchange fits) one.served.session fits there.before there.behind mark.step taken.turn there.is hands;
      }

-- ---- the run

module _ {Ls E Li La C R K T : Type 0} (host : HostViews Ls E Li La C R K T) (rules : Rules) (mark : Mark) (hands : HandsIn mark.step) where
  abbrev pub Here : Type 0
  Here = IsOfSession host rules mark

  -- what a worker's work, or more of it, makes of the marks of its pass: those that hand something in are of one of its sessions
  abbrev pub Made : (AtPass → E → AtPass → E → Type 0) → Type 0
  Made Work = (first : AtPass) (early : E) (now : AtPass) (back : E) → Work first early now back → Has mark (mine now) → Has mark (mine first) ⊎ Here

  by_links : (post : Post Ls) {first now : AtPass} {early back : E} → ServesLinks host rules post first early now back → Has mark (mine now) → Has mark (mine first) ⊎ Here
  by_links post working.none has = inl has
  by_links post (working.one_more {pass} {now} {later = ear} {next} {link} earlier answered serves) has =
      let one = serves.serves in
      elim (has_split (mine pass) one.own (subst (λ marks. Has mark marks) one.adds.mine_is has)) [
        | inl before ↦ by_links post earlier before
        | inr made ↦ inr (record {
          post = post;
          pass = pass;
          link = link;
          ear = ear;
          now = now;
          next = next;
          serves = serves;
          made = made;
          names = each_has (λ m. m.session ≡ working.next_session pass) one.own one.adds.by made;
          turn = own_turn one mark made hands;
        })
      ]

  by_works : (post : Post Ls) → Made (Works host rules post)
  by_works post first early now back works has = by_links post works.serves has

  by_runs : {Work : AtPass → E → AtPass → E → Type 0} → Made Work → Made (PassRuns Work)
  by_runs work_so first early now back (rounds.worked does) has = work_so first early now back does has
  by_runs work_so first early now back (rounds.worked_again {pass} {ear} earlier does) has =
      elim (work_so pass ear now back does has) [ inl before ↦ by_runs work_so first early pass ear earlier before | inr of_session ↦ inr of_session ]
  by_runs work_so first early now back (rounds.looked {pass} earlier looks) has = by_runs work_so first early pass back earlier (subst (λ marks. Has mark marks) looks.mine_is has)

  module _ (Other Last : AtPass → E → AtPass → E → Type 0) (other_so : Made Other) (last_so : Made Last) where
    by_place : (first : AtPass) (early : E) (now : AtPass) (back : E) (others : List AtPass) → ByPlace (PassRuns Other first early now back) (PassRuns Last first early now back) others → Has mark (mine now)
        → Has mark (mine first) ⊎ Here
    by_place first early now back [] runs has = by_runs last_so first early now back runs has
    by_place first early now back (next ∷ others) runs has = by_runs other_so first early now back runs has

    all_run : (counted : AtCounted) (number : ℕ) (began : List AtPass) (early : List E) (passes : List AtPass) (ears : List E) → AreNewPasses counted number began → EachRuns Other Last began early passes ears
        → {pass : AtPass} → Has pass passes → Has mark (mine pass) → Here
    all_run counted number began early [] ears new runs in_passes has = elim in_passes [ ]
    all_run counted number (first ∷ began) (ear ∷ early) (now ∷ passes) (back ∷ ears) new runs here has =
        elim (by_place first ear now back began runs.0 has) [
          | inl before ↦ let none : mine first ≡ [] = ap mine new.0 in elim (subst (λ marks. Has mark marks) none before) [ ]
          | inr of_session ↦ of_session
        ]
    all_run counted number (first ∷ began) (ear ∷ early) (now ∷ passes) (back ∷ ears) new runs (later in_passes) has = all_run counted (suc number) began early passes ears new.1 runs.1 in_passes has
    all_run counted number [] [] (now ∷ passes) ears new runs in_passes has = absurd runs
    all_run counted number [] (ear ∷ early) (now ∷ passes) ears new runs in_passes has = absurd runs
    all_run counted number (first ∷ began) [] (now ∷ passes) ears new runs in_passes has = absurd runs
    all_run counted number (first ∷ began) (ear ∷ early) (now ∷ passes) [] new runs in_passes has = absurd runs

same_number : (one other : ℕ) → nat_eq one other ≡ true → nat_eq other one ≡ true
same_number one other is = grind (arith, nat_tests)

stands_in : {run : List Mark} (passes : List AtPass) → AllStandIn run passes → {pass : AtPass} → Has pass passes → StandsIn run pass
stands_in [] all has = elim has [ ]
stands_in (pass ∷ more) all here = all.0
stands_in (other ∷ more) all (later has) = stands_in more all.1 has

module _ {Ls E Li La C R K T : Type 0} (host : HostViews Ls E Li La C R K T) (rules : Rules) {listens listens_now number : ℕ} {before after : Side} (sums : SumsUp host rules listens before number listens_now after) where
  pub of_session : (mark : Mark) → Has mark sums.closed.run → HandsIn mark.step → IsOfSession host rules mark
  of_session mark has hands =
      let found = some_passes (λ pass. nat_eq pass.number mark.session.pass) sums.passes (each_has (λ m. length (numbered m.session.pass sums.passes) ≡ 1) sums.closed.run sums.closed.each has) in
      let stands = stands_in sums.passes sums.closed.all found.has in
      let own : Has mark (mine found.one) =
      subst (λ marks. Has mark marks) stands.own (kept (λ m. nat_eq m.session.pass found.one.number) sums.closed.run has (same_number found.one.number mark.session.pass found.passes)) in
      all_run host rules mark hands (Works host rules (home_post sums.listener sums.extra)) (Works host rules (last_post sums.listener sums.extra)) (by_works host rules mark hands (home_post sums.listener sums.extra))
      (by_works host rules mark hands (last_post sums.listener sums.extra)) sums.counted 0 sums.began sums.early sums.passes sums.ears sums.new
      (each_runs (Works host rules (home_post sums.listener sums.extra)) (Works host rules (last_post sums.listener sums.extra)) host.faults sums.rounds) found.has own
