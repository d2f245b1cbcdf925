-- A run that begins at base 0 is known by its marks alone.
use Rattle.std.{proofs.{Common.{◌≡◌, ◌<◌, ℕ, ◌+◌, List, [], ◌∷◌, ◌++◌, length, false, Option, Some, sym, refl, ap, ◌∙◌, subst, arith, inr}, lemmas.List.{append_assoc, append-nil}}, specs.Option.option_map_or}
use Rattle.cache_policy.specs.{declared.{bounds.TheConstants.MAX_MARKS, life.Limits.Limits, mark.Mark.Mark}, Histories.History, Replay.first_history, Runs.{last_base, IsRun, run_with_mark, joined, start_of_run, moment_before, moment_of}}
use Rattle.{cache_policy.{specs.{Seat.stopped, Desks.IsSpentRun}, proofs.GrowingRuns.{is_run_run_with_mark, joined_run_with_mark, last_is_legal, start_run_with_mark}}, agent_core.specs.{Cores.{AtCore, StandsFor}, Recording.KeepsRun}}
use Rattle.agent_core.proofs.{Counting.{first_base, numbers}, Knowing.moment_is}
use Rattle.counted_lock.specs.Logs.{run_from, run_of_log, IsLegalLog, is_stopped}

pub log_more : (run : List History) (marks : List Mark) (mark : Mark) → run_from run (marks ++ mark ∷ []) ≡ run_with_mark (run_from run marks) mark
log_more run [] mark = refl
log_more run (m ∷ ms) mark = log_more (run_with_mark run m) ms mark

is_run_from : (run : List History) (marks : List Mark) → IsRun run → IsRun (run_from run marks)
is_run_from run [] is = is
is_run_from run (m ∷ ms) is = is_run_from (run_with_mark run m) ms (is_run_run_with_mark run m is)

joined_from : (run : List History) (marks : List Mark) → IsRun run → joined (run_from run marks) ≡ joined run ++ marks
joined_from run [] is = sym (append-nil (joined run))
joined_from run (m ∷ ms) is =
    joined_from (run_with_mark run m) ms (is_run_run_with_mark run m is)
    ∙ (ap (λ (l : List Mark). l ++ ms) (joined_run_with_mark run m is) ∙ append_assoc (joined run) (m ∷ []) ms)

start_from : (run : List History) (marks : List Mark) → start_of_run (run_from run marks) ≡ start_of_run run
start_from run [] = refl
start_from run (m ∷ ms) = start_from (run_with_mark run m) ms ∙ start_run_with_mark run m

pub is_run_log : (marks : List Mark) → IsRun (run_of_log marks)
is_run_log marks = is_run_from (first_history ∷ []) marks tt

pub joined_log : (marks : List Mark) → joined (run_of_log marks) ≡ marks
joined_log marks = joined_from (first_history ∷ []) marks tt

pub start_log : (marks : List Mark) → start_of_run (run_of_log marks) ≡ Some first_history
start_log marks = start_from (first_history ∷ []) marks

base_of_start : (run : List History) → start_of_run run ≡ Some first_history → first_base run ≡ 0
unfolding first_base
base_of_start [] e = refl
base_of_start (history ∷ later) e = let h : record history { marks = [] } ≡ first_history = cc in ap (λ (z : History). z.base) h

-- so the word that counts them doesn't wrap
pub few_marks : (limits : Limits) (marks : List Mark) → IsLegalLog limits marks → length marks < last_base + MAX_MARKS
few_marks limits marks legal =
    let all = numbers (run_of_log marks) legal.last (is_run_log marks) legal.last_is in
    let none = base_of_start (run_of_log marks) (start_log marks) in
    let same = ap (λ (l : List Mark). length l) (joined_log marks) in
    let last = last_is_legal limits (run_of_log marks) legal.last legal.last_is legal.legal.each in
    let few = last.few in let below = legal.below in
    omega (arith, all, none, same, few, below)

pub keeps_legal : (core : AtCore) (marks : List Mark) → KeepsRun core (run_of_log marks) → IsLegalLog core.limits marks
keeps_legal core marks keeps = record { legal = keeps.legal; last = keeps.last; last_is = keeps.last_is; below = keeps.below }

-- a new core stands for the run without marks
pub keeps_first : (core : AtCore) → core.moment ≡ 0 → StandsFor core first_history → KeepsRun core (run_of_log [])
keeps_first core zero stands = record {
  legal = record { turns_over = tt; each = (record { replies = tt; moments = tt; base = refl; not_spent = inr refl; few = omega arith; held = tt }, tt); moments = tt };
  last = first_history;
  last_is = refl;
  stands = stands;
  moment = zero;
  below = omega arith;
}

-- as many marks as the last one's number: a spent run has them all
pub spent_has_all_marks : (log : List Mark) → IsSpentRun (run_of_log log) → length log ≡ last_base
spent_has_all_marks log is =
    let all = numbers (run_of_log log) is.last (is_run_log log) is.last_is in
    let none = base_of_start (run_of_log log) (start_log log) in
    let same = ap (λ (l : List Mark). length l) (joined_log log) in
    let spent = is.all in
    omega (arith, all, none, same, spent)

-- one mark more
pub with_one : (log : List Mark) (mark : Mark) → run_of_log (log ++ mark ∷ []) ≡ run_with_mark (run_of_log log) mark
with_one log mark = log_more (first_history ∷ []) log mark

-- whether it is stopped is as the core has it
pub stopped_log : (core : AtCore) (log : List Mark) → KeepsRun core (run_of_log log) → core.stopped ≡ is_stopped log
stopped_log core log keeps = keeps.stands.stopped_is ∙ sym (ap (λ (h : Option History). option_map_or stopped h false) keeps.last_is)

-- the moment of the next step
pub moment_log : (core : AtCore) (log : List Mark) (reading : ℕ) → KeepsRun core (run_of_log log) → moment_of core.moment reading ≡ moment_of (moment_before log) reading
moment_log core log reading keeps = moment_is core (run_of_log log) reading keeps ∙ ap (λ (l : List Mark). moment_of (moment_before l) reading) (joined_log log)

pub legal_first : (limits : Limits) (core : AtCore) → core.limits ≡ limits → core.moment ≡ 0 → StandsFor core first_history → IsLegalLog limits []
legal_first limits core same zero stands = subst (λ (l : Limits). IsLegalLog l []) same (keeps_legal core [] (keeps_first core zero stands))
