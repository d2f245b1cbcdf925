-- A session alone at a desk: its run is the replay of its marked turns.
use Rattle.std.{specs.{Prelude.{◌≡◌, ◌≢◌, ℕ, List, [], ◌∷◌, ◌++◌, map, Bool, true, false, None, refl, ◌==◌, ◌⊎◌, length, if◌then◌else◌}, List.AllByRecursion}, proofs.Common.{ap, sym, ◌∙◌, subst, append-nil, append_assoc, inl, inr}}
use Rattle.{agent_ports.specs.{Leads.{Leads, none as stay, one}, Readings.{HasGiven, none as none_given, one as given_one}, declared.session.SessionId.SessionId}, cache_policy.specs.declared.bounds.TheConstants.MAX_MARKS}
use Rattle.cache_policy.specs.{declared.{life.Limits.Limits, mark.{Mark.Mark, MarkStep.MarkStep}}, Desks.Shows, Extending.{Taken, TakesTurn}, Histories.{History, moments, with_mark}}
use Rattle.cache_policy.specs.{Replay.{moments_at, NoneEmpty, Marked, none as none_marked, made, unmade}, Runs.{joined, moment_before, next_history, turn_over, run_with_mark}, Turns.{Turn, Stand, Refused, Stopping, FitsStep, since_of}}
use Rattle.cache_policy.proofs.GrowingRuns.{joined_run_with_mark}
use Rattle.agent_core.specs.{Cores.mark_of, Known.{next_moment, TakesStep, marked, stood, refused, spent}, Stepped.IsSettled}
use Rattle.agent_core.{specs.Solos.{AtSolo, OwnStep, PlaysNext, next_list, at_end, Waits, again, goes, gives_back, TakesOwn, at_once, waiting, TurnsSolo}, proofs.Knowing.moment_at_end}

-- where there is no script, and no other session has a ticket
pub record IsAlone (solo : AtSolo) : Type 0 where
  pub script : solo.script ≡ []
  pub nobody : solo.holder ≡ None

alone_next : (before : AtSolo) (listed : Bool) (after : AtSolo) → before.script ≡ [] → PlaysNext before listed after → after ≡ before
alone_next before listed after none (next_list list later is leads) = absurd (cc (none, is))
alone_next before listed after none (at_end is same) = same

alone_waits : (asked : MarkStep) (before : AtSolo) (turn : Turn) (after : AtSolo) → IsAlone before → Waits asked before turn after → ⊥
alone_waits asked before turn after alone (again next step later) = none_next before _ alone.script next
  where
    none_next : (before after : AtSolo) → before.script ≡ [] → PlaysNext before true after → ⊥
    none_next before after none (next_list list later is leads) = cc (none, is)
alone_waits asked before turn after alone (goes next step) = none_next before _ alone.script next
  where
    none_next : (before after : AtSolo) → before.script ≡ [] → PlaysNext before true after → ⊥
    none_next before after none (next_list list later is leads) = cc (none, is)
alone_waits asked before turn after alone (gives_back is closes step) = cc (alone.nobody, closes.holder_is)

alone_own : (asked : MarkStep) (before : AtSolo) (turn : Turn) (after : AtSolo) → IsAlone before → TakesOwn asked before turn after → OwnStep before asked turn after
alone_own asked before turn after alone (at_once step) = step
alone_own asked before turn after alone (waiting {mid = mid} step waits) =
    absurd (alone_waits _ mid turn after (record {
      script = ap (λ (s : AtSolo). s.script) step.same ∙ alone.script;
      nobody = ap (λ (s : AtSolo). s.holder) step.same ∙ alone.nobody;
    }) waits)

-- a turn is then its own step
pub alone_turn : (asked : MarkStep) (before : AtSolo) (turn : Turn) (after : AtSolo) → IsAlone before → TurnsSolo before asked turn after → OwnStep before asked turn after
alone_turn asked before turn after alone turns =
    let same = alone_next before turns.listed turns.there alone.script turns.plays in
    alone_own asked before turn after alone (subst (λ (s : AtSolo). TakesOwn asked s turn after) same turns.own)

not_stand : (asked : MarkStep) (turn : Turn) → FitsStep asked turn → IsSettled turn
not_stand asked (Stand wait) fits = fits
not_stand asked _ fits = tt

-- no history without a mark comes behind
all_filled : (run : List History) (mark : Mark) → AllByRecursion (λ history. history.marks ≢ []) run → AllByRecursion (λ history. history.marks ≢ []) (run_with_mark run mark)
all_filled [] mark all = tt
all_filled (history ∷ []) mark all =
    elim (length history.marks == MAX_MARKS) as (λ b. AllByRecursion (λ (h : History). h.marks ≢ []) (if b then history ∷ with_mark (turn_over history) mark ∷ [] else with_mark history mark ∷ [])) [
      | true ↦ (all.0, (λ is. cc is, tt))
      | false ↦ (push_filled history.marks, tt)
    ]
  where
    push_filled : (marks : List Mark) → marks ++ mark ∷ [] ≢ []
    push_filled [] = λ is. cc is
    push_filled (first ∷ later) = λ is. cc is
all_filled (history ∷ next ∷ later) mark all = (all.0, all_filled (next ∷ later) mark all.1)

none_empty : (run : List History) (mark : Mark) → NoneEmpty run → NoneEmpty (run_with_mark run mark)
none_empty [] mark none = tt
none_empty (history ∷ []) mark none =
    elim (length history.marks == MAX_MARKS) as (λ b. NoneEmpty (if b then history ∷ with_mark (turn_over history) mark ∷ [] else with_mark history mark ∷ [])) [
      | true ↦ (λ is. cc is, tt)
      | false ↦ tt
    ]
none_empty (history ∷ next ∷ later) mark none = all_filled (next ∷ later) mark none

-- what turns made of a run
pub record Replayed (before : AtSolo) (turns : List Taken) (after : AtSolo) : Type 0 where
  pub readings : List ℕ
  pub given : HasGiven before.clock readings after.clock
  pub steps : List MarkStep
  pub read : List ℕ
  pub marked : Marked turns readings steps read
  pub own : List Mark
  pub marks : joined after.run ≡ joined before.run ++ own
  pub by : AllByRecursion (λ mark. mark.session ≡ before.session) own
  pub steps_are : map (λ mark. mark.step) own ≡ steps
  pub firsts : AllByRecursion (λ step_of. since_of step_of ≡ None) steps
  pub moments_are : moments own ≡ moments_at (moment_before (joined before.run)) read
  pub none_empty : NoneEmpty before.run → NoneEmpty after.run

-- one turn more, in front
unmade_then : (before mid after : AtSolo) (taken : Taken) (turns : List Taken) → OwnStep before taken.asked taken.turn mid → mid.run ≡ before.run
    → (taken.turn ≡ Refused) ⊎ (taken.turn ≡ Stopping) → Replayed mid turns after → Replayed before (taken ∷ turns) after
unmade_then before mid after taken turns step same why later = record {
  readings = step.takes.reading ∷ later.readings;
  given = given_one step.takes.read later.given;
  steps = later.steps;
  read = later.read;
  marked = unmade step.takes.reading why later.marked;
  own = later.own;
  marks = later.marks ∙ ap (λ (run : List History). joined run ++ later.own) same;
  by = subst (λ (s : SessionId). AllByRecursion (λ mark. mark.session ≡ s) later.own) (ap (λ (s : AtSolo). s.session) step.same) later.by;
  steps_are = later.steps_are;
  firsts = later.firsts;
  moments_are = later.moments_are ∙ ap (λ (run : List History). moments_at (moment_before (joined run)) later.read) same;
  none_empty = λ none. later.none_empty (subst NoneEmpty (sym same) none);
}

made_then : (before mid after : AtSolo) (taken : Taken) (turns : List Taken) (mark : Mark) → mid.run ≡ run_with_mark before.run mark
    → joined mid.run ≡ joined before.run ++ mark ∷ [] → (taken.turn ≡ Refused → ⊥) → (step : OwnStep before taken.asked taken.turn mid) → mark.session ≡ before.session → mark.step ≡ taken.asked
    → since_of taken.asked ≡ None → mark.moment ≡ next_moment before.run step.takes.reading → Replayed mid turns after → Replayed before (taken ∷ turns) after
made_then before mid after taken turns mark grown all kept step by step_is first moment later = record {
  readings = step.takes.reading ∷ later.readings;
  given = given_one step.takes.read later.given;
  steps = taken.asked ∷ later.steps;
  read = step.takes.reading ∷ later.read;
  marked = made step.takes.reading kept later.marked;
  own = mark ∷ later.own;
  marks = later.marks ∙ (ap (λ (m : List Mark). m ++ later.own) all ∙ append_assoc (joined before.run) (mark ∷ []) later.own);
  by = (by, subst (λ (s : SessionId). AllByRecursion (λ mark. mark.session ≡ s) later.own) (ap (λ (s : AtSolo). s.session) step.same) later.by);
  steps_are = ap (λ (s : MarkStep). s ∷ map (λ (m : Mark). m.step) later.own) step_is ∙ ap (λ (l : List MarkStep). taken.asked ∷ l) later.steps_are;
  firsts = (first, later.firsts);
  moments_are =
      ap (λ (l : List ℕ). mark.moment ∷ l) (later.moments_are
      ∙ ap (λ (m : ℕ). moments_at m later.read) (ap moment_before all ∙ moment_at_end 0 (joined before.run) mark))
      ∙ ap (λ (m : ℕ). m ∷ moments_at m later.read) moment;
  none_empty = λ none. later.none_empty (subst NoneEmpty (sym grown) (none_empty before.run mark none));
}

one_then : (before mid after : AtSolo) (taken : Taken) (turns : List Taken) → OwnStep before taken.asked taken.turn mid → IsSettled taken.turn
    → since_of taken.asked ≡ None → Replayed mid turns after → Replayed before (taken ∷ turns) after
one_then before mid after taken turns step settled first later = by step.takes.takes refl
  where
    shown : (limits : Limits) (history : History) (mark : Mark) (turn : Turn) → Shows limits history mark turn → turn ≡ Refused → ⊥
    shown limits history mark turn shows is = subst (λ (t : Turn). Shows limits history mark t) is shows

    by : {turn : Turn} → TakesStep before.limits before.run before.session (next_moment before.run step.takes.reading) taken.asked turn mid.run → taken.turn ≡ turn
        → Replayed before (taken ∷ turns) after
    by {turn} (marked last answer last_is below rules shows is) same =
        let mark : Mark = mark_of before.session taken.asked answer (next_moment before.run step.takes.reading) in
        made_then before mid after taken turns mark is
        (ap joined is ∙ joined_run_with_mark before.run mark step.takes.was_legal.turns_over)
        (λ kept. shown before.limits (next_history last) mark turn shows (sym same ∙ kept)) step refl refl first refl later
    by (stood last last_is some rules wait_is is) same = absurd (subst IsSettled same settled)
    by (refused last last_is below why is) same = unmade_then before mid after taken turns step is (inl same) later
    by (spent all is) same = unmade_then before mid after taken turns step is (inr same) later

pub replayed : {before : AtSolo} {turns : List Taken} {after : AtSolo} → IsAlone before → Leads (TakesTurn TurnsSolo) before turns after → Replayed before turns after
replayed {before} alone stay = record {
  readings = [];
  given = none_given;
  steps = [];
  read = [];
  marked = none_marked;
  own = [];
  marks = sym (append-nil (joined before.run));
  by = tt;
  steps_are = refl;
  firsts = tt;
  moments_are = refl;
  none_empty = λ none. none;
}
replayed {before} {after = after} alone (one {mid} {event} {more} turns later) =
    let step = alone_turn event.asked before event.turn mid alone turns in
    one_then before mid after event more step (not_stand event.asked event.turn turns.is.fits) turns.first
    (replayed (record {
      script = ap (λ (s : AtSolo). s.script) step.same ∙ alone.script;
      nobody = ap (λ (s : AtSolo). s.holder) step.same ∙ alone.nobody;
    }) later)
