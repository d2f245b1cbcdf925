-- A run that is stopped stays so.
use Rattle.std.{proofs.Common.{◌≡◌, List, [], ◌∷◌, ◌++◌, Bool, true, false, ◌||◌, Option, None, Some, refl, ap, ◌∙◌}, specs.{Prelude.{length, ◌==◌}, Option.option_map_or}}
use Rattle.cache_policy.{specs.{declared.{bounds.TheConstants.MAX_MARKS, mark.Mark.Mark}, Histories.{History, with_mark}, Runs.{last_history, next_history, run_with_mark}, Seat.{stopped, is_stop}}, proofs.Growing.stopped_turn_over}
use Rattle.{cache_policy.proofs.{GrowingRuns.last_run_with_mark, OneMore.stopped_with_mark}, counted_lock.specs.Logs.{run_from, run_of_log, is_stopped}}

next_stopped : (history : History) → stopped history ≡ true → stopped (next_history history) ≡ true
next_stopped history is = by_room (length history.marks == MAX_MARKS) refl where
  by_room : (full : Bool) → (length history.marks == MAX_MARKS) ≡ full → stopped (next_history history) ≡ true
  by_room true at = rw at (stopped_turn_over history ∙ is)
  by_room false at = rw at is

with_mark_stopped : (history : History) (mark : Mark) → stopped history ≡ true → stopped (with_mark history mark) ≡ true
with_mark_stopped history mark is = stopped_with_mark history mark ∙ ap (λ (b : Bool). b || is_stop mark.step) is

stays_from : (run : List History) (history : History) (later : List Mark) → last_history run ≡ Some history → stopped history ≡ true
    → option_map_or stopped (last_history (run_from run later)) false ≡ true
stays_from run history [] last is = ap (λ (h : Option History). option_map_or stopped h false) last ∙ is
stays_from run history (mark ∷ later) last is =
    stays_from (run_with_mark run mark) (with_mark (next_history history) mark) later (last_run_with_mark run history mark last)
    (with_mark_stopped (next_history history) mark (next_stopped history is))

from_both : (run : List History) (log later : List Mark) → run_from run (log ++ later) ≡ run_from (run_from run log) later
from_both run [] later = refl
from_both run (mark ∷ log) later = from_both (run_with_mark run mark) log later

pub stays_stopped : (log later : List Mark) → is_stopped log ≡ true → is_stopped (log ++ later) ≡ true
stays_stopped log later is = ap (λ (r : List History). option_map_or stopped (last_history r) false) (from_both _ log later) ∙ by_last (last_history (run_of_log log)) refl is where
  by_last : (last : Option History) → last_history (run_of_log log) ≡ last → option_map_or stopped last false ≡ true
      → option_map_or stopped (last_history (run_from (run_of_log log) later)) false ≡ true
  by_last None at stops = absurd (cc stops)
  by_last (Some history) at stops = stays_from (run_of_log log) history later at stops
