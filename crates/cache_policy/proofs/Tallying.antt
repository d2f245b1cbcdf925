-- A tally, by one mark more.
use Rattle.std.proofs.Common.{◌≡◌, ℕ, ◌+◌, Bool, true, false, List, [], ◌∷◌, ◌++◌, length, refl, ap, sym, ◌∙◌, add-zero, arith, length-append}
use Rattle.cache_policy.specs.{declared.{life.Limits.Limits, mark.Mark.Mark, entry.Entry.Entry, tally.Tally.Tally}, Entries.{entries, stored}, Histories.{History, with_mark}, Runs.turn_over, Seat.{is_open, stopped}}
use Rattle.cache_policy.{specs.Tallies.{how_many, one_if, is_given, is_empty, is_clear, is_flush, with_history, with_one}, proofs.{OneMore.stopped_with_mark, Growing.stopped_turn_over, EntriesLemmas.entries_with_mark}}

how_many_first : (passes : Mark → Bool) (first : Mark) (marks : List Mark) → how_many passes (first ∷ marks) ≡ one_if (passes first) + how_many passes marks
how_many_first passes first marks = either (passes first) refl where
  either : (b : Bool) → passes first ≡ b → how_many passes (first ∷ marks) ≡ one_if (passes first) + how_many passes marks
  either true is = rw is (omega arith)
  either false is = rw is (omega arith)

how_many_push : (passes : Mark → Bool) (marks : List Mark) (mark : Mark) → how_many passes (marks ++ mark ∷ []) ≡ how_many passes marks + one_if (passes mark)
how_many_push passes [] mark = how_many_first passes mark [] ∙ omega arith
how_many_push passes (first ∷ marks) mark =
    let more = how_many_push passes marks mark in
    let here = how_many_first passes first (marks ++ mark ∷ []) in
    let there = how_many_first passes first marks in
    omega (arith, more, here, there)

how_many_more : (passes : Mark → Bool) (before : ℕ) (marks : List Mark) (mark : Mark) → before + how_many passes (marks ++ mark ∷ []) ≡ before + how_many passes marks + one_if (passes mark)
how_many_more passes before marks mark = let more = how_many_push passes marks mark in omega (arith, more)

pub tally_with_mark : (limits : Limits) (before : Tally) (history : History) (mark : Mark)
    → with_history limits before (with_mark history mark) ≡ with_one (with_history limits before history) mark (length (stored limits history mark.step mark.moment))
tally_with_mark limits before history mark =
    let marks : before.marks + length (history.marks ++ mark ∷ []) ≡ before.marks + length history.marks + 1 = omega (arith, length-append history.marks (mark ∷ [])) in
    let given = how_many_more (λ mark. is_given mark.reply) before.given history.marks mark in
    let empty = how_many_more (λ mark. is_empty mark.reply) before.empty history.marks mark in
    let opened = how_many_more (λ mark. is_open mark.reply) before.opened history.marks mark in
    let cleared = how_many_more (λ mark. is_clear mark.step) before.cleared history.marks mark in
    let flushed = how_many_more (λ mark. is_flush mark.step) before.flushed history.marks mark in
    let list = ap (λ (l : List Entry). length l) (entries_with_mark limits history mark) ∙ length-append (entries limits history) (stored limits history mark.step mark.moment) in
    let entries_are : before.stored + length (entries limits (with_mark history mark)) ≡ before.stored + length (entries limits history) + length (stored limits history mark.step mark.moment) = omega (arith, list) in
    let stops = stopped_with_mark history mark in
    λ i. record { marks = marks i; given = given i; empty = empty i; opened = opened i; stored = entries_are i; cleared = cleared i; flushed = flushed i; stopped = stops i }

pub tally_turn_over : (limits : Limits) (tally : Tally) (history : History) → tally.stopped ≡ stopped history → with_history limits tally (turn_over history) ≡ tally
tally_turn_over limits tally history same =
    let stops = stopped_turn_over history ∙ sym same in
    λ i. record {
      marks = add-zero tally.marks i;
      given = add-zero tally.given i;
      empty = add-zero tally.empty i;
      opened = add-zero tally.opened i;
      stored = add-zero tally.stored i;
      cleared = add-zero tally.cleared i;
      flushed = add-zero tally.flushed i;
      stopped = stops i;
    }
