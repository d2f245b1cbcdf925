-- Each step keeps the rule of the table.
use lib.{ListN.get_elem?, Seq.set-get_or}
use mathlib.Core.{Logic.dite, Option.{some, none, some-injective, some-ne-none}}
use native.Mathlib.Decide.{ℕ_discrete}
use Rattle.std.proofs.Common.{◌≡◌, ◌≢◌, ◌≤◌, ◌<◌, ℕ, zero, suc, ◌+◌, ◌%◌, ◌^◌, Bool, true, false, nat_eq, List, [], ◌∷◌, ◌++◌, length, set, get_or, sym, refl, ap, ◌∙◌, subst, arith, Option, Some, length-append, ⊎_elim}
use Rattle.std.proofs.{Math.Nat.{mod-add-mod, mod-eq_of_lt}, lemmas.{Bool.Decides.nat_tests, List.append-nil}}
use Rattle.{atomic_table.{specs.Table.{State, step, keeps, takes, gives, Allows, Splits, Joins, opening, Seen, Final, rest, put_back}, proofs.Lists.{set_else, set_again, at_snoc, one_turn}}, cache_policy.specs.declared.mark.Mark.Mark}
use Rattle.{cache_policy.specs.{declared.life.Limits.Limits, Replay.first_history, Tallies.nothing_yet}, agent_core.specs.{Cores.StandsFor, Tallies.Tallied}}
use Rattle.counted_lock.specs.{Logs.IsLegalLog, declared.board.{Cored.Cored, About.About, Claim.Claim, Doing.Doing, Stage.{Stage, TheVariants.{Idle, Waiting, Working}}}, Standing.Stands}
use Rattle.counted_lock.specs.Rule.{Closes, wrap, doing, blank_claims, first_doing, Fits, AllFit, IsHome, IsSlot, WaitsAt, WorksAt, IsAt, Knows, total, going, active, claims_of, times, claims_by, Kept}
use Rattle.counted_lock.{specs.{Plays.{Hand, saw, number, IsIdle, IsWaiting, Works, drew, looked, counted, gave, first_claims, later_claims}, Claims.{Sat, first_of_claims, own}}, proofs.LogLemmas.{few_marks, keeps_first, keeps_legal}}
use Rattle.counted_lock.proofs.Totals.{total_set, total_le, total_one, total_two, total_snoc, put, put_here, put_else, places_stay, none_more, all_fit_more, times_each}
use mathlib.Core.Option as maybe

abbrev St : Type 0
St = State (Option Cored) Doing

module _ (about : About) where
  -- a place that has a number has the claim of one pass
  going_at : (log : List Mark) (drawn served : ℕ) (out : Bool) (owner : ℕ → ℕ) (j : ℕ) (claims : List Claim) (stage : Stage) → IsAt log drawn served out owner j claims stage → going stage ≤ length claims
  going_at log drawn served out owner j claims Idle k = omega arith
  going_at log drawn served out owner j claims (Waiting n) k = let h = ap (λ (l : List Claim). length l) k.claims_are in omega (arith, h)
  going_at log drawn served out owner j claims (Working n) k = let h = ap (λ (l : List Claim). length l) k.claims_are in omega (arith, h)

  -- so fewer than a word can count have one
  waits_few : (s : St) (k : Kept about s) → k.served ≤ k.drawn × k.drawn < k.served + wrap
  waits_few s k =
      let h = total_le active claims_of s.views (λ j v e. going_at k.log k.drawn k.served k.out k.owner j v.claims v.stage (k.each j v e).at) in
      let w = k.waits in let c = k.claimed in let f = k.few in (omega (arith, w), omega (arith, h, w, c, f))

  -- a number is one place's
  waits_alone : (s : St) (k : Kept about s) (i j : ℕ) → k.owner k.served ≡ i → i ≢ j → (claims : List Claim) (stage : Stage) → IsAt k.log k.drawn k.served k.out k.owner j claims stage
      → (log' : List Mark) (out' : Bool) → IsAt log' k.drawn k.served out' k.owner j claims stage
  waits_alone s k i j is other claims Idle at log' out' = tt
  waits_alone s k i j is other claims (Waiting n) at log' out' = record {
    later = at.later;
    drawn_is = at.drawn_is;
    alone = at.alone;
    home = λ e. absurd (other (sym is ∙ (ap k.owner (sym e) ∙ at.alone)));
    one = at.one;
    claims_are = at.claims_are;
  }
  waits_alone s k i j is other claims (Working n) at log' out' = absurd (other (sym is ∙ (ap k.owner (sym at.now) ∙ at.alone)))

  draw_else : (owner : ℕ → ℕ) (log : List Mark) (drawn served : ℕ) (out : Bool) (id j : ℕ) (claims : List Claim) (stage : Stage) → served ≤ drawn → (out ≡ true → served < drawn) → IsAt log drawn served out owner j claims stage
      → IsAt log (drawn + 1) served out (put owner drawn id) j claims stage
  draw_else owner log drawn served out id j claims Idle le lt at = tt
  draw_else owner log drawn served out id j claims (Waiting n) le lt at = let b = at.drawn_is in record {
    later = at.later;
    drawn_is = omega (arith, b);
    alone = put_else owner drawn id n (λ e. omega (arith, b, e)) ∙ at.alone;
    home = at.home;
    one = at.one;
    claims_are = at.claims_are;
  }
  draw_else owner log drawn served out id j claims (Working n) le lt at = let b = at.drawn_is in record {
    now = at.now;
    drawn_is = omega (arith, b);
    alone = put_else owner drawn id n (λ e. omega (arith, b, e)) ∙ at.alone;
    taken = at.taken;
    one = at.one;
    claims_are = at.claims_are;
    seen = at.seen;
  }

  slot_lt : (out : Bool) (homes : List (maybe.Option (Option Cored))) (log : List Mark) (drawn served : ℕ) → IsSlot about.limits homes log drawn served out → out ≡ true → served < drawn
  slot_lt true homes log drawn served k e = k.1
  slot_lt false homes log drawn served k e = cc

  slot_more : (out : Bool) (homes : List (maybe.Option (Option Cored))) (log : List Mark) (drawn served : ℕ) → IsSlot about.limits homes log drawn served out → IsSlot about.limits homes log (drawn + 1) served out
  slot_more true homes log drawn served k = (k.0, omega (arith, k.1))
  slot_more false homes log drawn served k = k

  not_out : (out : Bool) → (out ≡ true → ⊥) → out ≡ false
  not_out true h = absurd (h refl)
  not_out false h = refl

  -- the parts of a place at a stage
  claims_at : (m : Sat) (stage : Stage) (hand : Hand) → m ≡ (doing stage (own m ∷ []), hand) → m.0.claims ≡ own m ∷ []
  claims_at m stage hand is = ap (λ (z : Sat). z.0.claims) is

  stage_at : (m : Sat) (stage : Stage) (hand : Hand) → m ≡ (doing stage (own m ∷ []), hand) → m.0.stage ≡ stage
  stage_at m stage hand is = ap (λ (z : Sat). z.0.stage) is

  pub draws : (slots id : ℕ) (m : Sat) → IsIdle m → Allows (Kept about) slots id m 0 (λ n. (n + 1) % 2 ^ 64) (drew (step slots 0 1 0 none) m)
  draws slots id m pose s k deep at small =
      let few = waits_few s k in
      let c = own m in
      let w = doing (Waiting k.drawn) (c ∷ []) in
      let known = k.each id m.0 at in
      let same_claims = claims_at m Idle [] pose in
      let same_stage = stage_at m Idle [] pose in
      let empty : m.1 ≡ [] = ap (λ (z : Sat). z.1) pose in
      let lt = slot_lt k.out s.homes k.log k.drawn k.served k.slot in (
        w,
        keeps,
        tt,
        (record {
          log = k.log;
          drawn = k.drawn + 1;
          served = k.served;
          out = k.out;
          owner = put k.owner k.drawn id;
          few = k.few;
          words_are = ap (λ (ws : List ℕ). set ws 0 ((get_or ws 0 0 + 1) % wrap)) k.words_are ∙ ap (λ (z : ℕ). z ∷ k.served % wrap ∷ length k.log ∷ []) (mod-add-mod k.drawn wrap 1);
          legal = k.legal;
          slot = slot_more k.out s.homes k.log k.drawn k.served k.slot;
          waits = (let t = total_set active s.views id m.0 w at in let g = ap going same_stage in let h = k.waits in omega (arith, t, g, h));
          claimed = (let t = total_set claims_of s.views id m.0 w at in let g = ap (λ (l : List Claim). length l) same_claims in let h = k.claimed in omega (arith, t, g, h));
          apart = λ n. (let t = total_set (claims_by n) s.views id m.0 w at in let g = ap (times n) same_claims in let h = k.apart n in omega (arith, t, g, h));
          within = k.within;
          each = places_stay (Knows about k.log (k.drawn + 1) k.served k.out (put k.owner k.drawn id)) s.views id w
              (record {
                fit = subst (AllFit about k.log) same_claims known.fit;
                at = record {
                  later = few.0;
                  drawn_is = omega arith;
                  alone = put_here k.owner k.drawn id;
                  home = λ e. not_out k.out (λ o. let l = lt o in omega (arith, l, e));
                  one = c;
                  claims_are = refl;
                };
              })
              (λ j d other e. let d_known = k.each j d e in record {
                fit = d_known.fit;
                at = draw_else k.owner k.log k.drawn k.served k.out id j d.claims d.stage few.0 lt d_known.at;
              });
        }),
        (record {
          waiting = ap (λ (h : Hand). (w, h)) empty;
          number_is = ap (λ (ws : List ℕ). get_or ws 0 0) (sym k.words_are);
          same = refl;
        }),
      )

  slot_home : (out : Bool) (homes : List (maybe.Option (Option Cored))) (log : List Mark) (drawn served : ℕ) → IsSlot about.limits homes log drawn served out → out ≡ false → IsHome about.limits homes log
  slot_home true homes log drawn served k e = cc
  slot_home false homes log drawn served k e = k

  pub looks : (slots id : ℕ) (m : Sat) → IsWaiting m → Allows (Kept about) slots id m 1 (λ n. n) (looked (step slots 1 0 0 none) m)
  looks slots id m pose s k deep at small =
      let few = waits_few s k in
      let c = own m in
      let n = number m in
      let same_claims = claims_at m (Waiting n) [] pose in
      let same_stage = stage_at m (Waiting n) [] pose in
      let empty : m.1 ≡ [] = ap (λ (z : Sat). z.1) pose in
      let known = k.each id m.0 at in
      let waits : WaitsAt k.drawn k.served k.out k.owner id m.0.claims n = subst (IsAt k.log k.drawn k.served k.out k.owner id m.0.claims) same_stage known.at in
      let found : get_or s.words 1 0 ≡ k.served % wrap = ap (λ (ws : List ℕ). get_or ws 1 0) k.words_are in
      let same_words : set s.words 1 (get_or s.words 1 0) ≡ k.drawn % wrap ∷ k.served % wrap ∷ length k.log ∷ [] = set-get_or s.words 1 0 ∙ k.words_are in
      dite (ℕ_discrete (get_or s.words 1 0) (n % wrap))
      (λ hit.
      let a = waits.later in let b = waits.drawn_is in let d = few.1 in
      let turn : k.served ≡ n = one_turn k.served n wrap a (omega (arith, b, d)) (sym found ∙ hit) in
      let home = slot_home k.out s.homes k.log k.drawn k.served k.slot (waits.home (sym turn)) in
      let fits : Fits about k.log c = (subst (AllFit about k.log) same_claims known.fit).0 in
      let c' = saw c fits.more in
      let w = doing (Working n) (c' ∷ []) in (
        w,
        takes 0 (Some home.core),
        ap (λ (h : List (maybe.Option (Option Cored))). get_elem? h 0) home.home,
        (record {
          log = k.log;
          drawn = k.drawn;
          served = k.served;
          out = true;
          owner = k.owner;
          few = k.few;
          words_are = same_words;
          legal = k.legal;
          slot = (ap (λ (h : List (maybe.Option (Option Cored))). set h 0 none) home.home, omega (arith, turn, b));
          waits = (let t = total_set active s.views id m.0 w at in let g = ap going same_stage in let h = k.waits in omega (arith, t, g, h));
          claimed = (let t = total_set claims_of s.views id m.0 w at in let g = ap (λ (l : List Claim). length l) same_claims in let h = k.claimed in omega (arith, t, g, h));
          apart = λ x. (let t = total_set (claims_by x) s.views id m.0 w at in let g = ap (times x) same_claims in let h = k.apart x in omega (arith, t, g, h));
          within = k.within;
          each = places_stay (Knows about k.log k.drawn k.served true k.owner) s.views id w
              (record {
                fit = (
                  record {
                    limits_is = fits.limits_is;
                    more = [];
                    whole = append-nil (c.seen ++ fits.more) ∙ fits.whole;
                    foreign = refl;
                    inside = fits.inside;
                  },
                  tt,
                );
                at = record {
                  now = sym turn;
                  drawn_is = b;
                  alone = waits.alone;
                  taken = refl;
                  one = c';
                  claims_are = refl;
                  seen = fits.whole;
                };
              })
              (λ j d other e. let d_known = k.each j d e in record {
                fit = d_known.fit;
                at = waits_alone s k id j (ap k.owner turn ∙ waits.alone) (λ z. other (sym z)) d.claims d.stage d_known.at k.log true;
              });
        }),
        (
          (λ _. record {
            more = fits.more;
            core = home.core;
            foreign = fits.foreign;
            seen = refl;
            works = ap (λ (h : Hand). (w, (0, Some home.core) ∷ h)) empty;
            legal = subst (λ (z : Limits × List Mark). IsLegalLog z.0 z.1) (λ i. (sym fits.limits_is i, sym fits.whole i)) k.legal;
            limits_is = home.limits_is ∙ sym fits.limits_is;
            stands = subst (Stands home.core) (sym fits.whole) home.stands;
          }),
          (λ miss. absurd (miss hit)),
        ),
      ))
      (λ miss. (
        m.0,
        keeps,
        tt,
        (record {
          log = k.log;
          drawn = k.drawn;
          served = k.served;
          out = k.out;
          owner = k.owner;
          few = k.few;
          words_are = same_words;
          legal = k.legal;
          slot = k.slot;
          waits = subst (λ (vs : List Doing). total active vs + k.served ≡ k.drawn) (sym (set_again s.views id m.0 at)) k.waits;
          claimed = subst (λ (vs : List Doing). total claims_of vs ≡ about.passes) (sym (set_again s.views id m.0 at)) k.claimed;
          apart = subst (λ (vs : List Doing). (x : ℕ) → total (claims_by x) vs ≤ 1) (sym (set_again s.views id m.0 at)) k.apart;
          within = k.within;
          each = subst (λ (vs : List Doing). (j : ℕ) (v : Doing) → get_elem? vs j ≡ some v → Knows about k.log k.drawn k.served k.out k.owner j v) (sym (set_again s.views id m.0 at)) k.each;
        }),
        ((λ hit. absurd (miss hit)), (λ _. refl)),
      ))

  -- the claim of a place that has the core has seen the whole run
  works_seen : (log : List Mark) (drawn served : ℕ) (out : Bool) (owner : ℕ → ℕ) (id : ℕ) (m : Sat) (n : ℕ) → WorksAt log drawn served out owner id m.0.claims n → (own m).seen ≡ log
  works_seen log drawn served out owner id m n w = ap (λ (cs : List Claim). (first_of_claims cs).seen) w.claims_are ∙ w.seen

  slot_log : (out : Bool) (homes : List (maybe.Option (Option Cored))) (log log' : List Mark) (drawn served : ℕ) → out ≡ true → IsSlot about.limits homes log drawn served out → IsSlot about.limits homes log' drawn served out
  slot_log true homes log log' drawn served e k = k
  slot_log false homes log log' drawn served e k = cc

  one_time : (k : ℕ) (c : Claim) → c.number ≡ k → times k (c ∷ []) ≡ 1
  one_time k c is = go (nat_eq c.number k) refl
    where
      go : (b : Bool) → nat_eq c.number k ≡ b → times k (c ∷ []) ≡ 1
      go true e = rw e (omega arith)
      go false e = absurd (grind (arith, nat_tests))

  pub marks : (slots id : ℕ) (m : Sat) (mark : Mark) → Works m m.1 → mark.session.pass ≡ (own m).number → IsLegalLog (own m).limits ((own m).seen ++ mark ∷ [])
      → Allows (Kept about) slots id m 2 (λ n. (n + 1) % 2 ^ 64) (counted mark (step slots 2 1 0 none) m)
  marks slots id m mark pose by legal s k deep at small =
      let c = own m in
      let n = number m in
      let same_claims = claims_at m (Working n) m.1 pose in
      let same_stage = stage_at m (Working n) m.1 pose in
      let known = k.each id m.0 at in
      let works : WorksAt k.log k.drawn k.served k.out k.owner id m.0.claims n = subst (IsAt k.log k.drawn k.served k.out k.owner id m.0.claims) same_stage known.at in
      let whole : c.seen ≡ k.log = works_seen k.log k.drawn k.served k.out k.owner id m n works in
      let fits : Fits about k.log c = (subst (AllFit about k.log) same_claims known.fit).0 in
      let log' : List Mark = k.log ++ mark ∷ [] in
      let legal' : IsLegalLog about.limits log' = subst (λ (z : Limits × List Mark). IsLegalLog z.0 (z.1 ++ mark ∷ [])) (λ i. (fits.limits_is i, whole i)) legal in
      let long : length log' ≡ length k.log + 1 = length-append k.log (mark ∷ []) in
      let short = few_marks about.limits log' legal' in
      let owned : k.owner k.served ≡ id = ap k.owner (sym works.now) ∙ works.alone in
      let c' = saw c (mark ∷ []) in
      let w = doing (Working n) (c' ∷ []) in (
        w,
        keeps,
        tt,
        (record {
          log = log';
          drawn = k.drawn;
          served = k.served;
          out = k.out;
          owner = k.owner;
          few = k.few;
          words_are = ap (λ (ws : List ℕ). set ws 2 ((get_or ws 2 0 + 1) % wrap)) k.words_are
              ∙ ap (λ (z : ℕ). k.drawn % wrap ∷ k.served % wrap ∷ z ∷ []) (mod-eq_of_lt (omega (arith, short, long)) ∙ sym long);
          legal = legal';
          slot = slot_log k.out s.homes k.log log' k.drawn k.served works.taken k.slot;
          waits = (let t = total_set active s.views id m.0 w at in let g = ap going same_stage in let h = k.waits in omega (arith, t, g, h));
          claimed = (let t = total_set claims_of s.views id m.0 w at in let g = ap (λ (l : List Claim). length l) same_claims in let h = k.claimed in omega (arith, t, g, h));
          apart = λ x. (let t = total_set (claims_by x) s.views id m.0 w at in let g = ap (times x) same_claims in let h = k.apart x in omega (arith, t, g, h));
          within = λ x far. none_more x k.log mark (λ e. let i = fits.inside in omega (arith, i, far, e, by)) (k.within x far);
          each = places_stay (Knows about log' k.drawn k.served k.out k.owner) s.views id w
              (record {
                fit = (
                  record {
                    limits_is = fits.limits_is;
                    more = [];
                    whole = append-nil (c.seen ++ mark ∷ []) ∙ ap (λ (l : List Mark). l ++ mark ∷ []) whole;
                    foreign = refl;
                    inside = fits.inside;
                  },
                  tt,
                );
                at = record {
                  now = works.now;
                  drawn_is = works.drawn_is;
                  alone = works.alone;
                  taken = works.taken;
                  one = c';
                  claims_are = refl;
                  seen = ap (λ (l : List Mark). l ++ mark ∷ []) whole;
                };
              })
              (λ j d other e. let d_known = k.each j d e in
              let two = total_two (claims_by mark.session.pass) s.views id j m.0 d (λ z. other (sym z)) at e in
              let most_one = k.apart mark.session.pass in
              let here = ap (times mark.session.pass) same_claims ∙ one_time mark.session.pass c (sym by) in
              record {
                fit = all_fit_more about k.log d.claims mark (omega (arith, two, most_one, here)) d_known.fit;
                at = waits_alone s k id j owned (λ z. other (sym z)) d.claims d.stage d_known.at log' k.out;
              });
        }),
        (record {
          seen = refl;
          works = refl;
        }),
      )

  waits_next : (log log' : List Mark) (drawn served : ℕ) (out : Bool) (owner : ℕ → ℕ) (id j : ℕ) (claims : List Claim) (stage : Stage) → owner served ≡ id → id ≢ j
      → IsAt log drawn served out owner j claims stage → IsAt log' drawn (served + 1) false owner j claims stage
  waits_next log log' drawn served out owner id j claims Idle is other at = tt
  waits_next log log' drawn served out owner id j claims (Waiting n) is other at =
      let a = at.later in let apart : n ≢ served = λ e. other (sym is ∙ (ap owner (sym e) ∙ at.alone)) in record {
        later = omega (arith, a, apart);
        drawn_is = at.drawn_is;
        alone = at.alone;
        home = λ e. refl;
        one = at.one;
        claims_are = at.claims_are;
      }
  waits_next log log' drawn served out owner id j claims (Working n) is other at = absurd (other (sym is ∙ (ap owner (sym at.now) ∙ at.alone)))

  slot_away : (out : Bool) (homes : List (maybe.Option (Option Cored))) (log : List Mark) (drawn served : ℕ) → out ≡ true → IsSlot about.limits homes log drawn served out → homes ≡ none ∷ []
  slot_away true homes log drawn served e k = k.0
  slot_away false homes log drawn served e k = cc

  pub leaves : (slots id : ℕ) (m : Sat) (core : Cored) → Works m ((0, Some core) ∷ []) → core.core.limits ≡ (own m).limits → Stands core (own m).seen
      → Allows (Kept about) slots id m 1 (λ n. (n + 1) % 2 ^ 64) (gave (step slots 1 1 0 none) m)
  leaves slots id m core pose limits stands s k deep at small =
      let c = own m in
      let n = number m in
      let same_claims = claims_at m (Working n) ((0, Some core) ∷ []) pose in
      let same_stage = stage_at m (Working n) ((0, Some core) ∷ []) pose in
      let hand : m.1 ≡ (0, Some core) ∷ [] = ap (λ (z : Sat). z.1) pose in
      let known = k.each id m.0 at in
      let works : WorksAt k.log k.drawn k.served k.out k.owner id m.0.claims n = subst (IsAt k.log k.drawn k.served k.out k.owner id m.0.claims) same_stage known.at in
      let whole : c.seen ≡ k.log = works_seen k.log k.drawn k.served k.out k.owner id m n works in
      let fits : Fits about k.log c = (subst (AllFit about k.log) same_claims known.fit).0 in
      let owned : k.owner k.served ≡ id = ap k.owner (sym works.now) ∙ works.alone in
      let away = slot_away k.out s.homes k.log k.drawn k.served works.taken k.slot in
      let w = doing Idle (c ∷ []) in (
        w,
        gives,
        tt,
        (record {
          log = k.log;
          drawn = k.drawn;
          served = k.served + 1;
          out = false;
          owner = k.owner;
          few = k.few;
          words_are = ap (λ (ws : List ℕ). set ws 1 ((get_or ws 1 0 + 1) % wrap)) k.words_are ∙ ap (λ (z : ℕ). k.drawn % wrap ∷ z ∷ length k.log ∷ []) (mod-add-mod k.served wrap 1);
          legal = k.legal;
          slot = record {
            core = core;
            home = ap (put_back s.homes) hand ∙ ap (λ (h : List (maybe.Option (Option Cored))). set h 0 (some (Some core))) away;
            limits_is = limits ∙ fits.limits_is;
            stands = subst (Stands core) whole stands;
          };
          waits = (let t = total_set active s.views id m.0 w at in let g = ap going same_stage in let h = k.waits in omega (arith, t, g, h));
          claimed = (let t = total_set claims_of s.views id m.0 w at in let g = ap (λ (l : List Claim). length l) same_claims in let h = k.claimed in omega (arith, t, g, h));
          apart = λ x. (let t = total_set (claims_by x) s.views id m.0 w at in let g = ap (times x) same_claims in let h = k.apart x in omega (arith, t, g, h));
          within = k.within;
          each = places_stay (Knows about k.log k.drawn (k.served + 1) false k.owner) s.views id w
              (record {
                fit = subst (AllFit about k.log) same_claims known.fit;
                at = tt;
              })
              (λ j d other e. let d_known = k.each j d e in record {
                fit = d_known.fit;
                at = waits_next k.log k.log k.drawn k.served k.out k.owner id j d.claims d.stage owned (λ z. other (sym z)) d_known.at;
              });
        }),
        (record {
          same = refl;
          idle = ap (λ (h : Hand). (w, rest h)) hand;
        }),
      )

  -- a place is run_of_log in two, or two are put together
  times_log : (x : ℕ) (cs : List Claim) → times x (first_claims cs) + times x (later_claims cs) ≡ times x cs
  times_log x [] = omega arith
  times_log x (c ∷ cs) = omega arith

  fit_first : (log : List Mark) (cs : List Claim) → AllFit about log cs → AllFit about log (first_claims cs)
  fit_first log [] f = tt
  fit_first log (c ∷ cs) f = (f.0, tt)

  fit_later : (log : List Mark) (cs : List Claim) → AllFit about log cs → AllFit about log (later_claims cs)
  fit_later log [] f = tt
  fit_later log (c ∷ cs) f = f.1

  length_log : (cs : List Claim) → length (first_claims cs) + length (later_claims cs) ≡ length cs
  length_log [] = omega arith
  length_log (c ∷ cs) = omega arith

  pub splits : (id : ℕ) (v : Doing) → v.stage ≡ Idle → Splits (Kept about) id v (doing v.stage (later_claims v.claims)) (doing Idle (first_claims v.claims))
  splits id v idle s k at =
      let left = doing v.stage (later_claims v.claims) in
      let right = doing Idle (first_claims v.claims) in
      let known = k.each id v at in
      record {
        log = k.log;
        drawn = k.drawn;
        served = k.served;
        out = k.out;
        owner = k.owner;
        few = k.few;
        words_are = k.words_are;
        legal = k.legal;
        slot = k.slot;
        waits = (let t = total_set active s.views id v left at in let u = total_snoc active (set s.views id left) right in let h = k.waits in omega (arith, t, u, h));
        claimed = (let t = total_set claims_of s.views id v left at in let u = total_snoc claims_of (set s.views id left) right in let g = length_log v.claims in let h = k.claimed in omega (arith, t, u, g, h));
        apart = λ x. (let t = total_set (claims_by x) s.views id v left at in let u = total_snoc (claims_by x) (set s.views id left) right in let g = times_log x v.claims in let h = k.apart x in omega (arith, t, u, g, h));
        within = k.within;
        each = λ j d e. ⊎_elim
            (λ (z : get_elem? (set s.views id left) j ≡ some d). places_stay (Knows about k.log k.drawn k.served k.out k.owner) s.views id left
            (record { fit = fit_later k.log v.claims known.fit; at = subst (IsAt k.log k.drawn k.served k.out k.owner id (later_claims v.claims)) (sym idle) tt })
            (λ i y _ l. k.each i y l) j d z)
            (λ (z : right ≡ d). subst (Knows about k.log k.drawn k.served k.out k.owner j) z (record { fit = fit_first k.log v.claims known.fit; at = tt }))
            (at_snoc (set s.views id left) right d j e);
      }

  times_both : (x : ℕ) (cs ds : List Claim) → times x (cs ++ ds) ≡ times x cs + times x ds
  times_both x [] ds = omega arith
  times_both x (c ∷ cs) ds = let h = times_both x cs ds in omega (arith, h)

  fit_both : (log : List Mark) (cs ds : List Claim) → AllFit about log cs → AllFit about log ds → AllFit about log (cs ++ ds)
  fit_both log [] ds f g = g
  fit_both log (c ∷ cs) ds f g = (f.0, fit_both log cs ds f.1 g)

  pub joins : (id : ℕ) (v : Doing) (other : ℕ) (u : Doing) → v.stage ≡ Idle → u.stage ≡ Idle → Joins (Kept about) id v other u (doing v.stage (v.claims ++ u.claims)) (doing Idle [])
  joins id v other u idle idle' s k at apart there =
      let both = doing v.stage (v.claims ++ u.claims) in
      let spent = doing Idle [] in
      let vs : List Doing = set s.views id both in
      let was : get_elem? s.views other ≡ some u = sym (set_else s.views id other both apart) ∙ there in
      let known = k.each id v at in
      let known' = k.each other u was in
      record {
        log = k.log;
        drawn = k.drawn;
        served = k.served;
        out = k.out;
        owner = k.owner;
        few = k.few;
        words_are = k.words_are;
        legal = k.legal;
        slot = k.slot;
        waits = (let t = total_set active s.views id v both at in let y = total_set active vs other u spent there in let g = ap going idle' in let h = k.waits in omega (arith, t, y, g, h));
        claimed = (let t = total_set claims_of s.views id v both at in let y = total_set claims_of vs other u spent there in let g = length-append v.claims u.claims in let h = k.claimed in omega (arith, t, y, g, h));
        apart = λ x. (let t = total_set (claims_by x) s.views id v both at in let y = total_set (claims_by x) vs other u spent there in let g = times_both x v.claims u.claims in let h = k.apart x in omega (arith, t, y, g, h));
        within = k.within;
        each = places_stay (Knows about k.log k.drawn k.served k.out k.owner) vs other spent (record { fit = tt; at = tt })
            (λ j d _ e. places_stay (Knows about k.log k.drawn k.served k.out k.owner) s.views id both
            (record { fit = fit_both k.log v.claims u.claims known.fit known'.fit; at = subst (IsAt k.log k.drawn k.served k.out k.owner id (v.claims ++ u.claims)) (sym idle) tt })
            (λ i y _ l. k.each i y l) j d e);
      }

  blank_length : (limits : Limits) (j n : ℕ) → length (blank_claims limits j n) ≡ n
  blank_length limits j zero = refl
  blank_length limits j (suc n) = let h = blank_length limits (suc j) n in omega (arith, h)

  blank_before : (x : ℕ) (limits : Limits) (j n : ℕ) → x < j → times x (blank_claims limits j n) ≡ 0
  blank_before x limits j zero l = refl
  blank_before x limits j (suc n) l = go (nat_eq j x) refl (blank_before x limits (suc j) n (omega arith))
    where
      go : (b : Bool) → nat_eq j x ≡ b → times x (blank_claims limits (suc j) n) ≡ 0 → times x (blank_claims limits j (suc n)) ≡ 0
      go true e h = absurd (grind (arith, nat_tests))
      go false e h = rw e (omega (arith, h))

  blank_apart : (x : ℕ) (limits : Limits) (j n : ℕ) → times x (blank_claims limits j n) ≤ 1
  blank_apart x limits j zero = omega arith
  blank_apart x limits j (suc n) = go (nat_eq j x) refl (blank_apart x limits (suc j) n)
    where
      go : (b : Bool) → nat_eq j x ≡ b → times x (blank_claims limits (suc j) n) ≤ 1 → times x (blank_claims limits j (suc n)) ≤ 1
      go true e h = let same : j ≡ x = grind (arith, nat_tests) in let h = blank_before x limits (suc j) n (omega (arith, same)) in rw e (omega (arith, h))
      go false e h = rw e (omega (arith, h))

  blank_fit : (j n : ℕ) → j + n ≤ about.passes → AllFit about [] (blank_claims about.limits j n)
  blank_fit j zero l = tt
  blank_fit j (suc n) l = (record { limits_is = refl; more = []; whole = refl; foreign = refl; inside = omega arith }, blank_fit (suc j) n (omega arith))

  pub opens : (core : Cored) → about.passes < 4294967296 → core.core.limits ≡ about.limits → core.core.moment ≡ 0 → StandsFor core.core first_history → core.tally ≡ nothing_yet
      → Kept about (opening (0 ∷ 0 ∷ 0 ∷ []) (Some core ∷ []) (first_doing about))
  opens core few limits at_zero stands none_yet = record {
    log = [];
    drawn = 0;
    served = 0;
    out = false;
    owner = λ _. 0;
    few = few;
    words_are = refl;
    legal = subst (λ (l : Limits). IsLegalLog l []) limits (keeps_legal core.core [] (keeps_first core.core at_zero stands));
    slot = record {
      core = core;
      home = refl;
      limits_is = limits;
      stands = record {
        keeps = keeps_first core.core at_zero stands;
        tally_is = subst (Tallied core.core.limits (first_history ∷ [])) (sym none_yet) (record { marks = refl; given = refl; empty = refl; opened = refl; stored = refl; cleared = refl; flushed = refl });
      };
    };
    waits = refl;
    claimed = (let h = blank_length about.limits 0 about.passes in omega (arith, h));
    apart = λ x. (let h = blank_apart x about.limits 0 about.passes in omega (arith, h));
    within = λ x _. refl;
    each = λ j v e. first_knows j v e;
  }
    where
      first_knows : (j : ℕ) (v : Doing) → get_elem? (first_doing about ∷ []) j ≡ some v → Knows about [] 0 0 false (λ _. 0) j v
      first_knows zero v e = subst (Knows about [] 0 0 false (λ _. 0) 0) (some-injective (first_doing about) v e) (record { fit = blank_fit 0 about.passes (omega arith); at = tt })
      first_knows (suc j) v e = absurd (some-ne-none v (sym e))

  not_taken : (out : Bool) (homes : List (maybe.Option (Option Cored))) (log : List Mark) (drawn served : ℕ) → drawn ≡ served → IsSlot about.limits homes log drawn served out → IsHome about.limits homes log
  not_taken true homes log drawn served e k = let l = k.1 in absurd (omega (arith, l, e))
  not_taken false homes log drawn served e k = k

  -- with the claims of all passes no core is out
  pub closes : (id : ℕ) (v : Doing) (ws : List ℕ) (xs : List (Option Cored)) → v.stage ≡ Idle → length v.claims ≡ about.passes → Final (Seen (Kept about) id v) ws xs → Closes about v.claims ws xs
  closes id v ws xs idle all final =
      let s = final.0 in
      let k = final.1.0 in
      let at = final.1.1 in
      let spent = doing Idle [] in
      let vs : List Doing = set s.views id spent in
      let le = total_le active claims_of vs (places_stay (λ j d. active d ≤ claims_of d) s.views id spent (omega arith) (λ j d _ e. going_at k.log k.drawn k.served k.out k.owner j d.claims d.stage (k.each j d e).at)) in
      let a = total_set active s.views id v spent at in
      let b = total_set claims_of s.views id v spent at in
      let c = k.claimed in let d = k.waits in let g = ap going idle in
      let even : k.drawn ≡ k.served = omega (arith, le, a, b, c, d, g, all) in
      let home = not_taken k.out s.homes k.log k.drawn k.served even k.slot in
      record {
        log = k.log;
        legal = k.legal;
        counted = sym final.2 ∙ k.words_are;
        drawn = k.drawn % wrap;
        served = k.served % wrap;
        core = home.core;
        home = final.4 0 (Some home.core) (ap (λ (h : List (maybe.Option (Option Cored))). get_elem? h 0) home.home);
        limits_is = home.limits_is;
        stands = home.stands;
        fits = (k.each id v at).fit;
        numbers = times_each about k.log v.claims (k.each id v at).fit (λ n. let a = total_one (claims_by n) s.views id v at in let b = k.apart n in omega (arith, a, b)) all;
        within = k.within;
      }
