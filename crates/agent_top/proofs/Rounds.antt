-- What the daemon does with its passes and ears, round after round.
use Rattle.std.proofs.Common.{◌≡◌, ◌⊎◌, inl, inr, ℕ, List, [], ◌∷◌, Option, subst, sym}
use Rattle.{counted_lock.specs.Passes.{AtPass, HasLooked}, agent_serve.specs.{Pairs.{ByPlace, PairedTo}, Working.{HostViews, WorkEach}}, session_options.specs.declared.rules.Rules.Rules}
use Rattle.agent_top.specs.Daemon.{FirstLooks, DaemonGoesOn, Rounds, AreEarsOf, one_round, one_more_round}

-- what the daemon does with one pass and its ear: its worker works, once or again, and the daemon looks how far the run is
pub data PassRuns {E : Type 0} (Work : AtPass → E → AtPass → E → Type 0) : AtPass → E → AtPass → E → Type 0 where
  worked : {first now : AtPass} {early later : E} → Work first early now later → PassRuns Work first early now later
  worked_again : {first pass now : AtPass} {early ear later : E} → PassRuns Work first early pass ear → Work pass ear now later → PassRuns Work first early now later
  looked : {first pass now : AtPass} {early later : E} → PassRuns Work first early pass later → HasLooked pass now → PassRuns Work first early now later

-- the same of each pass and its ear, where the last one's worker works in a way of its own
abbrev pub EachRuns : {E : Type 0} → (Other Last : AtPass → E → AtPass → E → Type 0) → List AtPass → List E → List AtPass → List E → Type 0
EachRuns Other Last = PairedTo (λ pass ear back. PassRuns Other pass ear back.0 back.1) (λ pass ear back. PassRuns Last pass ear back.0 back.1)

module _ {E : Type 0} (Other Last : AtPass → E → AtPass → E → Type 0) where
  -- what the workers do in one round
  abbrev pub EachWorks : List AtPass → List E → List AtPass → List E → Type 0
  EachWorks = PairedTo (λ pass ear back. Other pass ear back.0 back.1) (λ pass ear back. Last pass ear back.0 back.1)

  -- what a worker does in one round, behind whose pass these stand
  abbrev WorksSo : AtPass → E → AtPass → E → List AtPass → Type 0
  WorksSo pass ear now back behind = ByPlace (Other pass ear now back) (Last pass ear now back) behind

  -- and what was done with the pass so far
  abbrev RunsSo : AtPass → E → AtPass → E → List AtPass → Type 0
  RunsSo pass ear now back behind = ByPlace (PassRuns Other pass ear now back) (PassRuns Last pass ear now back) behind

  worked_by_place : (pass : AtPass) (ear : E) (now : AtPass) (back : E) (behind : List AtPass) → WorksSo pass ear now back behind → RunsSo pass ear now back behind
  worked_by_place pass ear now back [] does = worked does
  worked_by_place pass ear now back (next ∷ later) does = worked does

  -- the workers worked
  pub all_worked : (js : List AtPass) (ks : List E) (fs : List AtPass) (bs : List E) → EachWorks js ks fs bs → EachRuns Other Last js ks fs bs
  all_worked [] [] [] [] each = tt
  all_worked (j ∷ js) (k ∷ ks) (f ∷ fs) (b ∷ bs) each = (worked_by_place j k f b js each.0, all_worked js ks fs bs each.1)
  all_worked [] [] [] (b ∷ bs) each = absurd each
  all_worked [] [] (f ∷ fs) bs each = absurd each
  all_worked [] (k ∷ ks) fs bs each = absurd each
  all_worked (j ∷ js) [] fs bs each = absurd each
  all_worked (j ∷ js) (k ∷ ks) [] bs each = absurd each
  all_worked (j ∷ js) (k ∷ ks) (f ∷ fs) [] each = absurd each

  again_by_place : (first : AtPass) (early : E) (pass : AtPass) (ear : E) (now : AtPass) (back : E) (began : List AtPass) (es : List E) (behind : List AtPass) (ks : List E) → EachRuns Other Last began es behind ks
      → RunsSo first early pass ear began → WorksSo pass ear now back behind → RunsSo first early now back began
  again_by_place first early pass ear now back [] es [] ks ran before does = worked_again before does
  again_by_place first early pass ear now back (a ∷ began) es (j ∷ behind) ks ran before does = worked_again before does
  again_by_place first early pass ear now back [] [] (j ∷ behind) ks ran before does = absurd ran
  again_by_place first early pass ear now back [] (e ∷ es) (j ∷ behind) ks ran before does = absurd ran
  again_by_place first early pass ear now back (a ∷ began) [] [] ks ran before does = absurd ran
  again_by_place first early pass ear now back (a ∷ began) (e ∷ es) [] ks ran before does = absurd ran

  -- and again
  pub all_worked_again : (began : List AtPass) (es : List E) (js : List AtPass) (ks : List E) (fs : List AtPass) (bs : List E) → EachRuns Other Last began es js ks → EachWorks js ks fs bs → EachRuns Other Last began es fs bs
  all_worked_again [] [] [] [] [] [] ran each = tt
  all_worked_again (a ∷ began) (e ∷ es) (j ∷ js) (k ∷ ks) (f ∷ fs) (b ∷ bs) ran each =
      (again_by_place a e j k f b began es js ks ran.1 ran.0 each.0, all_worked_again began es js ks fs bs ran.1 each.1)
  all_worked_again [] [] [] [] [] (b ∷ bs) ran each = absurd each
  all_worked_again [] [] [] [] (f ∷ fs) bs ran each = absurd each
  all_worked_again [] [] [] (k ∷ ks) fs bs ran each = absurd ran
  all_worked_again [] [] (j ∷ js) ks fs bs ran each = absurd ran
  all_worked_again [] (e ∷ es) js ks fs bs ran each = absurd ran
  all_worked_again (a ∷ began) [] js ks fs bs ran each = absurd ran
  all_worked_again (a ∷ began) (e ∷ es) [] ks fs bs ran each = absurd ran
  all_worked_again (a ∷ began) (e ∷ es) (j ∷ js) [] fs bs ran each = absurd ran
  all_worked_again (a ∷ began) (e ∷ es) (j ∷ js) (k ∷ ks) [] bs ran each = absurd each
  all_worked_again (a ∷ began) (e ∷ es) (j ∷ js) (k ∷ ks) (f ∷ fs) [] ran each = absurd each

  looked_by_place : (first : AtPass) (early : E) (pass now : AtPass) (back : E) (began : List AtPass) → RunsSo first early pass back began → HasLooked pass now → RunsSo first early now back began
  looked_by_place first early pass now back [] before looks = looked before looks
  looked_by_place first early pass now back (a ∷ began) before looks = looked before looks

  -- the first of them looked
  pub first_looked : (began : List AtPass) (es : List E) (js : List AtPass) (ks : List E) (fs : List AtPass) → EachRuns Other Last began es js ks → FirstLooks js fs → EachRuns Other Last began es fs ks
  first_looked (a ∷ began) (e ∷ es) (j ∷ js) (k ∷ ks) (f ∷ fs) ran looks =
      (looked_by_place a e j f k began ran.0 looks.0, subst (λ later. EachRuns Other Last began es later ks) (sym looks.1) ran.1)
  first_looked [] [] [] ks fs ran looks = absurd looks
  first_looked [] [] (j ∷ js) ks fs ran looks = absurd ran
  first_looked [] (e ∷ es) js ks fs ran looks = absurd ran
  first_looked (a ∷ began) [] js ks fs ran looks = absurd ran
  first_looked (a ∷ began) (e ∷ es) [] ks fs ran looks = absurd ran
  first_looked (a ∷ began) (e ∷ es) (j ∷ js) [] fs ran looks = absurd ran
  first_looked (a ∷ began) (e ∷ es) (j ∷ js) (k ∷ ks) [] ran looks = absurd looks

  -- so each pass ran
  pub each_runs : (faults : E → ℕ) {began : List AtPass} {es : List E} {now : List AtPass} {bs : List E} → Rounds faults EachWorks began es now bs → EachRuns Other Last began es now bs
  each_runs faults {began} {es} {now} {bs} (one_round {worked = fs} each looks) = first_looked began es fs bs now (all_worked began es fs bs each) looks
  each_runs faults {began} {es} {now} {bs} (one_more_round {passes = js} {worked = fs} {ears = ks} before on each looks) =
      first_looked began es fs bs now (all_worked_again began es js ks fs bs (each_runs faults before) each) looks

module _ {E : Type 0} (faults : E → ℕ) (Work : List AtPass → List E → List AtPass → List E → Type 0) where
  -- these passes and ears are new to the workers; or they worked with them, and the daemon goes on
  abbrev pub NewOrGoOn : List AtPass → List E → List AtPass → List E → Type 0
  NewOrGoOn began es js ks = ((js ≡ began) × (ks ≡ es)) ⊎ (Rounds faults Work began es js ks × DaemonGoesOn faults js ks)

  -- a round, which ends with a look
  pub port_round : (began : List AtPass) (es : List E) (js : List AtPass) (ks : List E) (fs : List AtPass) (bs : List E) (now : List AtPass) → NewOrGoOn began es js ks → Work js ks fs bs → FirstLooks fs now
      → Rounds faults Work began es now bs
  port_round began es js ks fs bs now (inl new) each looks = one_round (subst (λ j. Work j es fs bs) new.0 (subst (λ k. Work js k fs bs) new.1 each)) looks
  port_round began es js ks fs bs now (inr before) each looks = one_more_round before.0 before.1 each looks

module _ {Ls E Li La C R K T : Type 0} (host : HostViews Ls E Li La C R K T) (rules : Rules) (listener : Ls) (extra : Option Ls) where
  -- the ears of the workers stay their listeners'
  ears_stay : (js : List AtPass) (ks : List E) (fs : List AtPass) (bs : List E) → WorkEach host rules listener extra js ks fs bs → AreEarsOf host.hears listener extra ks → AreEarsOf host.hears listener extra bs
  ears_stay [] [] [] [] each own = tt
  ears_stay (j ∷ []) (k ∷ []) (f ∷ []) (b ∷ []) each own = (each.0.own_ear own.0, tt)
  ears_stay (j ∷ i ∷ js) (k ∷ h ∷ ks) (f ∷ e ∷ fs) (b ∷ a ∷ bs) each own = (each.0.own_ear own.0, ears_stay (i ∷ js) (h ∷ ks) (e ∷ fs) (a ∷ bs) each.1 own.1)
  ears_stay [] [] [] (b ∷ bs) each own = absurd each
  ears_stay [] [] (f ∷ fs) bs each own = absurd each
  ears_stay [] (k ∷ ks) fs bs each own = absurd each
  ears_stay (j ∷ js) [] fs bs each own = absurd each
  ears_stay (j ∷ js) (k ∷ ks) [] bs each own = absurd each
  ears_stay (j ∷ js) (k ∷ ks) (f ∷ fs) [] each own = absurd each
  ears_stay (j ∷ []) (k ∷ []) (f ∷ []) (b ∷ a ∷ bs) each own = absurd each.1
  ears_stay (j ∷ []) (k ∷ []) (f ∷ e ∷ fs) (b ∷ bs) each own = absurd each.1
  ears_stay (j ∷ []) (k ∷ h ∷ ks) (f ∷ fs) (b ∷ bs) each own = absurd each.1
  ears_stay (j ∷ i ∷ js) (k ∷ []) (f ∷ fs) (b ∷ bs) each own = absurd each.1
  ears_stay (j ∷ i ∷ js) (k ∷ h ∷ ks) (f ∷ []) (b ∷ bs) each own = absurd each.1
  ears_stay (j ∷ i ∷ js) (k ∷ h ∷ ks) (f ∷ e ∷ fs) (b ∷ []) each own = absurd each.1

  pub ears_stay_own : (began : List AtPass) (es : List E) (now : List AtPass) (bs : List E) → Rounds host.faults (WorkEach host rules listener extra) began es now bs → AreEarsOf host.hears listener extra es
      → AreEarsOf host.hears listener extra bs
  ears_stay_own began es now bs (one_round {worked = fs} each looks) own = ears_stay began es fs bs each own
  ears_stay_own began es now bs (one_more_round {passes = js} {worked = fs} {ears = ks} before on each looks) own = ears_stay js ks fs bs each (ears_stay_own began es js ks before own)

  -- the workers stood at the same listeners
  pub by_extra : (given : Option Ls) (began : List AtPass) (es : List E) (passes : List AtPass) (ears : List E) → extra ≡ given
      → Rounds host.faults (WorkEach host rules listener extra) began es passes ears → Rounds host.faults (WorkEach host rules listener given) began es passes ears
  by_extra given began es passes ears alike rounds = subst (λ e. Rounds host.faults (WorkEach host rules listener e) began es passes ears) alike rounds
