-- What a step of the core adds to the run.
use Rattle.std.proofs.{Common.{◌≡◌, ◌≤◌, ℕ, ◌+◌, true, false, List, [], ◌∷◌, ◌++◌, length, Some, None, sym, refl, ap, ◌∙◌, subst, arith}, lemmas.{List.append-nil}}
use Rattle.{agent_ports.specs.declared.session.SessionId.SessionId, cache_policy.specs.declared.{bounds.TheConstants.{MAX_MOMENT}, life.Limits.Limits, mark.{Mark.Mark, MarkStep.MarkStep}, tally.Tally.Tally, wait.Wait.Wait}}
use Rattle.cache_policy.specs.{Desks.Shows, Entries.stored, Histories.History, Runs.{last_base, next_history, is_spent, run_with_mark, joined, moment_before}, Tallies.one_if, Turns.{Turn, Stand, Refused, Stopping}}
use Rattle.agent_core.specs.{Cores.{AtCore, mark_of, WantsMemory, IsStep, marked, stood, refused, spent}, Known.TakesStep, Recording.{KeepsRun, reply_of}, Stepped.IsSettled, Tallies.{counted, Tallied, CanCount}}
use Rattle.agent_core.proofs.{Counting.{can_count, tally_counted, tally_stays}, Knowing.{legal_last, spent_run, going, is_marked, made, keeps_same, keeps_refused, took_refused, took_stood, seat_next, below_next}, Seating.going_on}
use Rattle.counted_lock.specs.{declared.{board.{Claim.Claim, Stage.TheVariants.Working}, trial.Trial.Trial}, Logs.{run_of_log, IsLegalLog}, Rule.doing, Plays.{Hand, number, Works, Counts}, Claims.{Sat, own}}
use Rattle.counted_lock.{specs.{Settling.{tally_with, moment_on, Stepped, Settles}, Standing.Stands, Turns.WantsMemoryAt}, proofs.LogLemmas.{joined_log, with_one, keeps_legal}}
use Rattle.agent_core.specs.Known as known

-- a step that found no memory wants some for itself
wanted : (before after : AtCore) (last : History) (session : SessionId) (moment : ℕ) (asked : MarkStep) (turn : Turn) → IsStep before last session moment asked turn after → turn ≡ Refused
    → WantsMemory before.limits (next_history last) asked moment
wanted before after last session moment asked turn (marked more is) refuses =
    absurd (subst (λ (t : Turn). Shows before.limits (next_history last) (mark_of session asked is.reply_is moment) t) refuses is.shows)
wanted before after last session moment asked _ (stood more rules wait_is same) refuses = absurd (cc refuses)
wanted before after last session moment asked _ (refused more why same) refuses = why
wanted before after last session moment asked _ (spent is same) refuses = absurd (cc refuses)

-- a step leaves the run with these marks, and this tally
pub record Adds (limits : Limits) (log : List Mark) (asked : MarkStep) (turn : Turn) (trial : Trial) (core : AtCore) (marks : List Mark) (tally : Tally) : Type 0 where
  pub takes : TakesStep limits (run_of_log log) trial.session (moment_on log trial) asked turn (run_of_log (log ++ marks))
  pub stands : Stands (record { core = core; tally = tally }) (log ++ marks)
  pub refused : turn ≡ Refused → WantsMemoryAt limits log asked (moment_on log trial)

module _ (limits : Limits) (log : List Mark) (asked : MarkStep) (turn : Turn) (trial : Trial) (core : AtCore) (s : Stepped limits log asked turn trial core) where
  -- no mark is made where the agent is spent
  spent_never : is_spent (next_history s.keeps.last) ≡ false → s.before.base + s.before.count ≡ last_base → ⊥
  spent_never more all =
      going_on s.before.limits (run_of_log log) s.keeps.last s.keeps.legal s.keeps.last_is
      (below_next s.keeps.last s.keeps.below (legal_last s.before (run_of_log log) s.keeps).base more) (spent_run s.before (run_of_log log) s.keeps all)

  pub tally_fits : CanCount trial.tally
  tally_fits =
      let legal = legal_last s.before (run_of_log log) s.keeps in
      can_count s.before.limits (run_of_log log) s.keeps.last trial.tally s.keeps.legal s.keeps.last_is s.keeps.below legal.few s.tally_is

  later : moment_before (joined (run_of_log log)) ≤ moment_on log trial
  later = let same = ap moment_before (joined_log log) in omega (arith, same)

  within : moment_on log trial ≤ MAX_MOMENT
  within =
      let last : s.before.moment ≡ moment_before log = s.keeps.moment ∙ ap moment_before (joined_log log) in
      let small = s.keeps.stands.moment in
      omega (arith, last, small)

  -- the step, by the lifetimes that the lock has
  takes_at : (after : List History) → TakesStep s.before.limits (run_of_log log) trial.session (moment_on log trial) asked turn after
      → TakesStep limits (run_of_log log) trial.session (moment_on log trial) asked turn after
  takes_at after takes = subst (λ (l : Limits). TakesStep l (run_of_log log) trial.session (moment_on log trial) asked turn after) s.before_is takes

  wants_at : turn ≡ Refused → WantsMemoryAt limits log asked (moment_on log trial)
  wants_at refuses = record {
    last = s.keeps.last;
    last_is = s.keeps.last_is;
    wants = subst (λ (l : Limits). WantsMemory l (next_history s.keeps.last) asked (moment_on log trial)) s.before_is
        (wanted s.before core s.keeps.last trial.session (moment_on log trial) asked turn s.step refuses);
  }

  adds_none : TakesStep s.before.limits (run_of_log log) trial.session (moment_on log trial) asked turn (run_of_log log) → KeepsRun core (run_of_log log)
      → Adds limits log asked turn trial core [] trial.tally
  adds_none takes keeps =
      let same : log ≡ log ++ [] = sym (append-nil log) in record {
        takes = subst (λ (l : List Mark). TakesStep limits (run_of_log log) trial.session (moment_on log trial) asked turn (run_of_log l)) same (takes_at (run_of_log log) takes);
        stands = subst (λ (l : List Mark). Stands (record { core = core; tally = trial.tally }) l) same (record {
          keeps = keeps;
          tally_is = tally_stays s.before.limits core.limits (run_of_log log) (run_of_log log) trial.tally (s.limits_is ∙ sym s.before_is) refl s.tally_is;
        });
        refused = wants_at;
      }

  -- a step that made its mark
  own_mark : Mark
  own_mark = mark_of trial.session asked (reply_of turn) core.moment

  tally_is_with : counted trial.tally own_mark trial.stores ≡ tally_with trial (reply_of turn)
  unfolding own_mark
  tally_is_with = λ i. record (tally_with trial (reply_of turn)) {
    cleared = trial.tally.cleared + one_if (sym s.trial_is.clears_is i);
    flushed = trial.tally.flushed + one_if (sym s.trial_is.flushes_is i);
  }

  stores_is : (moment : ℕ) → length (stored s.before.limits (next_history s.keeps.last) asked moment) ≡ one_if trial.stores
  stores_is moment = s.trial_is.stores_is (next_history s.keeps.last) moment (seat_next s.keeps.last ∙ sym s.keeps.stands.seat_is)

  pub adds_made : IsSettled turn → (turn ≡ Refused → ⊥) → (s.before.base + s.before.count ≡ last_base → ⊥)
      → Adds limits log asked turn trial core (mark_of trial.session asked (reply_of turn) core.moment ∷ []) (tally_with trial (reply_of turn))
  unfolding own_mark
  adds_made settled taken some =
      let run : List History = run_of_log log in
      let more = going s.before run s.keeps some in
      let is = is_marked s.before core s.keeps.last trial.session (moment_on log trial) asked turn settled taken more s.step in
      let all = made s.before core run s.keeps trial.session asked turn (moment_on log trial) more (s.limits_is ∙ sym s.before_is) later within is own_mark refl in
      let now : run_with_mark run own_mark ≡ run_of_log (log ++ own_mark ∷ []) = sym (with_one log own_mark) in
      let tallied = tally_counted s.before.limits run s.keeps.last own_mark trial.tally trial.stores s.keeps.legal.turns_over s.keeps.last_is s.tally_is (stores_is core.moment) in
      record {
        takes = takes_at (run_of_log (log ++ own_mark ∷ []))
            (subst (λ (r : List History). TakesStep s.before.limits run trial.session (moment_on log trial) asked turn r) now all.takes);
        stands = record {
          keeps = subst (KeepsRun core) now all.keeps;
          tally_is = subst (λ (r : List History). Tallied core.limits r (tally_with trial (reply_of turn))) now
              (subst (λ (t : Tally). Tallied core.limits (run_with_mark run own_mark) t) tally_is_with
              (tally_stays s.before.limits core.limits (run_with_mark run own_mark) (run_with_mark run own_mark) (counted trial.tally own_mark trial.stores)
              (s.limits_is ∙ sym s.before_is) refl tallied));
        };
        refused = wants_at;
      }

  -- so the run with the mark is legal
  pub legal_made : (tally : Tally) (marks : List Mark) → Adds limits log asked turn trial core marks tally → IsLegalLog limits (log ++ marks)
  legal_made tally marks adds = subst (λ (l : Limits). IsLegalLog l (log ++ marks)) s.limits_is (keeps_legal core (log ++ marks) adds.stands.keeps)

-- a step that found no memory
kept_refused : (before after : AtCore) (run : List History) (last : History) (session : SessionId) (moment : ℕ) (asked : MarkStep) → KeepsRun before run
    → IsStep before last session moment asked Refused after → KeepsRun after run
kept_refused before after run last session moment asked keeps (marked more is) = absurd is.shows
kept_refused before after run last session moment asked keeps (refused more why same) = keeps_refused before after run keeps same

pub adds_refused : (limits : Limits) (log : List Mark) (asked : MarkStep) (trial : Trial) (core : AtCore) (s : Stepped limits log asked Refused trial core)
    → Adds limits log asked Refused trial core [] trial.tally
adds_refused limits log asked trial core s =
    adds_none limits log asked Refused trial core s (took_refused s.before core (run_of_log log) s.keeps trial.session (moment_on log trial) asked s.step)
    (kept_refused s.before core (run_of_log log) s.keeps.last trial.session (moment_on log trial) asked s.keeps s.step)

-- one that has to stand
not_spent : (limits : Limits) (log : List Mark) (asked : MarkStep) (wait : Wait) (trial : Trial) (core : AtCore) (s : Stepped limits log asked (Stand wait) trial core)
    → IsStep s.before s.keeps.last trial.session (moment_on log trial) asked (Stand wait) core → is_spent (next_history s.keeps.last) ≡ false
not_spent limits log asked wait trial core s (marked more is) = more
not_spent limits log asked wait trial core s (stood more rules wait_is same) = more

pub adds_stood : (limits : Limits) (log : List Mark) (asked : MarkStep) (wait : Wait) (trial : Trial) (core : AtCore) (s : Stepped limits log asked (Stand wait) trial core)
    → Adds limits log asked (Stand wait) trial core [] trial.tally
adds_stood limits log asked wait trial core s =
    let some = spent_never limits log asked (Stand wait) trial core s (not_spent limits log asked wait trial core s s.step) in
    let took = took_stood s.before core (run_of_log log) s.keeps trial.session (moment_on log trial) asked wait some s.step in
    adds_none limits log asked (Stand wait) trial core s took.takes (keeps_same s.before core (run_of_log log) s.keeps took.same)

-- and one that comes to a spent agent
spent_step : (limits : Limits) (log : List Mark) (asked : MarkStep) (turn : Turn) (trial : Trial) (core : AtCore) (s : Stepped limits log asked turn trial core)
    → s.before.base + s.before.count ≡ last_base → IsStep s.before s.keeps.last trial.session (moment_on log trial) asked turn core
    → Adds limits log asked turn trial core [] trial.tally
spent_step limits log asked turn trial core s all (marked more is) = absurd (spent_never limits log asked turn trial core s more all)
spent_step limits log asked _ trial core s all (stood {wait = wait} more rules wait_is same) = absurd (spent_never limits log asked (Stand wait) trial core s more all)
spent_step limits log asked _ trial core s all (refused more why same) = absurd (spent_never limits log asked Refused trial core s more all)
spent_step limits log asked _ trial core s all (spent is same) =
    adds_none limits log asked Stopping trial core s (known.spent (spent_run s.before (run_of_log log) s.keeps all) refl)
    (keeps_same s.before core (run_of_log log) s.keeps same)

pub adds_spent : (limits : Limits) (log : List Mark) (asked : MarkStep) (turn : Turn) (trial : Trial) (core : AtCore) (s : Stepped limits log asked turn trial core)
    → trial.spent ≡ true → Adds limits log asked turn trial core [] trial.tally
adds_spent limits log asked turn trial core s on = spent_step limits log asked turn trial core s (s.trial_is.spent_is.0 on) s.step

-- what the place knows then
pub settles_none : (asked : MarkStep) (turn : Turn) (trial : Trial) (core : AtCore) (m : Sat) → Works m ((0, None) ∷ []) → Adds (own m).limits (own m).seen asked turn trial core [] trial.tally
    → Settles trial asked turn core None m m
settles_none asked turn trial core m works adds = record {
  marks = [];
  many = refl;
  takes = adds.takes;
  refused = adds.refused;
  seen = λ i. record (own m) { seen = sym (append-nil (own m).seen) i };
  works = works;
  stands = subst (Stands (record { core = core; tally = trial.tally })) (append-nil (own m).seen) adds.stands;
}

pub settles_made : (asked : MarkStep) (turn : Turn) (trial : Trial) (core : AtCore) (mark : Mark) (tally : Tally) (m m' : Sat) → Adds (own m).limits (own m).seen asked turn trial core (mark ∷ []) tally
    → Counts mark m m' → Works m ((0, None) ∷ []) → Settles trial asked turn core (Some tally) m m'
settles_made asked turn trial core mark tally m m' adds counts works = record {
  marks = mark ∷ [];
  many = refl;
  takes = adds.takes;
  refused = adds.refused;
  seen = counts.seen;
  works = counts.works ∙ ap (λ (l : Hand). (doing (Working (number m')) (own m' ∷ []), l)) (ap (λ (z : Sat). z.1) works);
  stands = subst (Stands (record { core = core; tally = tally })) (sym (ap (λ (z : Claim). z.seen) counts.seen)) adds.stands;
}
