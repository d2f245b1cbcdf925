-- The history that is next for a core, and how the core comes to stand for it with one mark more.
use Rattle.std.{specs.{Prelude.{◌≡◌, ℕ, ◌+◌, ◌<◌, ◌≤◌, ◌==◌, List, [], ◌∷◌, length, Bool, true, false, Option, Some, None, refl, if◌then◌else◌}, Option.option_and_then}, proofs.Common.{ap, sym, ◌∙◌, subst, arith}}
use Rattle.std.proofs.lemmas.{Bool.Decides.nat_tests, List.{length_push, Sums.fold-append}}
use Rattle.cache_policy.specs.{declared.{bounds.TheConstants.{MAX_MARKS, MAX_MOMENT}, life.Limits.Limits, mark.Mark.Mark, history.Held.Held}, Histories.{History, next_number, with_mark}}
use Rattle.cache_policy.{specs.{Seat.{under_of, is_open, is_stop, unless_given_back, seat, stopped}, Runs.{turn_over, next_history, moment_before}, Legal.IsLegal}, proofs.OneMore.{stopped_with_mark, seat_with_mark}}
use Rattle.{cache_policy.proofs.Growing.{legal_turn_over, seat_turn_over, stopped_turn_over}, cache_book.{specs.{declared.slot.Slot.Slot, Slots.slots, Shelves.swept}, proofs.Marking.{slots_later, or_false}}}
use Rattle.agent_core.specs.{declared.state.State.State, States.{seen, IsState}, Taking.{HasMarked, held_at, next_base, next_count, next_slots, slots_at}, Cores.{AtCore, StandsFor}}

-- these are a history's base, count of marks, slots at a moment, seat, and whether it has stopped; and it has room for a mark
pub record IsOf (limits : Limits) (base count : ℕ) (list : List Slot) (moment : ℕ) (held : Option Held) (stops : Bool) (next : History) : Type 0 where
  pub legal : IsLegal limits next
  pub few : length next.marks < MAX_MARKS
  pub base_is : base ≡ next.base
  pub count_is : count ≡ length next.marks
  pub slots_are : list ≡ slots limits next moment
  pub seat_is : held ≡ seat next
  pub stopped_is : stops ≡ stopped next
  pub since : moment_before next.marks ≤ moment

since_last : (marks : List Mark) (moment : ℕ) → (0 < length marks → moment ≡ moment_before marks) → moment_before marks ≤ moment
since_last [] moment h = omega arith
since_last (mark ∷ later) moment h = let last : moment ≡ moment_before (mark ∷ later) = h (omega arith) in omega (arith, last)

full : (count : ℕ) → (count == MAX_MARKS) ≡ true → count ≡ MAX_MARKS
full count h = grind (arith, nat_tests)

not_full : (count : ℕ) → count ≤ MAX_MARKS → (count == MAX_MARKS) ≡ false → count < MAX_MARKS
not_full count few h = grind (arith, nat_tests)

-- so they are those of the next history, for a core that stands for this one
pub next_is : (core : AtCore) (history : History) → IsLegal core.limits history → StandsFor core history
    → IsOf core.limits (if core.count == MAX_MARKS then core.base + MAX_MARKS else core.base) (if core.count == MAX_MARKS then 0 else core.count)
    (if core.count == MAX_MARKS then [] else core.slots) core.moment core.held core.stopped (next_history history)
next_is core history legal stands =
    subst (λ (n : ℕ). IsOf core.limits (if n == MAX_MARKS then core.base + MAX_MARKS else core.base) (if n == MAX_MARKS then 0 else n)
    (if n == MAX_MARKS then [] else core.slots) core.moment core.held core.stopped (next_history history)) (sym stands.count)
    (elim (length history.marks == MAX_MARKS) as (λ b. (length history.marks == MAX_MARKS) ≡ b
    → IsOf core.limits (if b then core.base + MAX_MARKS else core.base) (if b then 0 else length history.marks)
    (if b then [] else core.slots) core.moment core.held core.stopped (if b then turn_over history else history)) [
      | true ↦ λ e. record {
        legal = legal_turn_over core.limits history legal (full (length history.marks) e);
        few = omega arith;
        base_is = ap (λ (n : ℕ). n + MAX_MARKS) stands.base;
        count_is = refl;
        slots_are = refl;
        seat_is = stands.seat_is ∙ sym (seat_turn_over history);
        stopped_is = stands.stopped_is ∙ sym (stopped_turn_over history);
        since = omega arith;
      }
      | false ↦ λ e. record {
        legal = legal;
        few = not_full (length history.marks) legal.few e;
        base_is = stands.base;
        count_is = refl;
        slots_are = stands.slots_are;
        seat_is = stands.seat_is;
        stopped_is = stands.stopped_is;
        since = since_last history.marks core.moment stands.latest;
      }
    ] refl)

-- a state that stands for a history, at the moment of a step
pub record IsReady (before : State) (history : History) (moment : ℕ) : Type 0 where
  pub next : IsOf before.limits (next_base before) (next_count before) (next_slots before) before.moment (held_at before) before.stopped (next_history history)
  pub later : before.moment ≤ moment
  pub within : moment ≤ MAX_MOMENT

pub ready : (before : State) (history : History) (moment : ℕ) → IsLegal before.limits history → StandsFor (seen before) history
    → before.moment ≤ moment → moment ≤ MAX_MOMENT → IsReady before history moment
ready before history moment legal stands later within = record { next = next_is (seen before) history legal stands; later = later; within = within }

-- the slots that are left at the moment of the step
pub slots_at_ready : (before : State) (history : History) (moment : ℕ) → IsReady before history moment
    → slots_at before moment ≡ slots before.limits (next_history history) moment
slots_at_ready before history moment is =
    ap (swept moment) is.next.slots_are ∙ sym (slots_later before.limits (next_history history) before.moment moment is.later)

-- what a mark makes of the next history is what the state has
pub record Agrees (before : State) (next : History) (mark : Mark) (list : List Slot) (held : Option Held) (stops : Bool) : Type 0 where
  pub slots_are : list ≡ slots before.limits (with_mark next mark) mark.moment
  pub seat_is : held ≡ seat (with_mark next mark)
  pub stopped_is : stops ≡ stopped (with_mark next mark)

pub stands_then : (before after : State) (history : History) (mark : Mark) (list : List Slot) (held : Option Held) (stops : Bool)
    → IsReady before history mark.moment → HasMarked before mark.moment list held stops after → IsState after
    → Agrees before (next_history history) mark list held stops → StandsFor (seen after) (with_mark (next_history history) mark)
stands_then before after history mark list held stops is marked state agrees = record {
  base = marked.base ∙ is.next.base_is;
  count = marked.count ∙ (ap (λ (n : ℕ). n + 1) is.next.count_is ∙ sym (length_push (next_history history).marks mark));
  moment = state.moment;
  latest = λ some. marked.moment_is ∙ sym (fold-append (λ _ (m : Mark). m.moment) 0 (next_history history).marks (mark ∷ []));
  slots_are = marked.slots ∙ (agrees.slots_are
      ∙ (ap (λ (moment : ℕ). slots before.limits (with_mark (next_history history) mark) moment) (sym marked.moment_is)
      ∙ ap (λ (limits : Limits). slots limits (with_mark (next_history history) mark) after.moment) (sym marked.limits)));
  seat_is = marked.held_is ∙ agrees.seat_is;
  stopped_is = marked.stopped ∙ agrees.stopped_is;
  room = state.room;
}

-- a step that opens nothing and gives no ticket back leaves the seat
pub seat_kept : (before : State) (history : History) (mark : Mark) → IsReady before history mark.moment → is_open mark.reply ≡ false
    → ((held : Held) → unless_given_back mark.step held ≡ Some held) → held_at before ≡ seat (with_mark (next_history history) mark)
seat_kept before history mark is shut kept =
    is.next.seat_is
    ∙ (sym (same (seat (next_history history)))
    ∙ (ap (λ (b : Bool). if b then Some opened else option_and_then (unless_given_back mark.step) (seat (next_history history))) (sym shut)
    ∙ sym (seat_with_mark (next_history history) mark)))
  where
    opened : Held
    opened = record { ticket = next_number (next_history history); under = under_of mark.step }

    same : (o : Option Held) → option_and_then (unless_given_back mark.step) o ≡ o
    same None = refl
    same (Some held) = kept held

-- and one that isn't a Stop whether it has stopped
pub stopped_kept : (before : State) (history : History) (mark : Mark) → IsReady before history mark.moment → is_stop mark.step ≡ false
    → before.stopped ≡ stopped (with_mark (next_history history) mark)
stopped_kept before history mark is going =
    is.next.stopped_is ∙ (sym (or_false (stopped (next_history history)) (is_stop mark.step) going) ∙ sym (stopped_with_mark (next_history history) mark))
