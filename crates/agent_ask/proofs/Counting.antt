-- Failures among events are counted, those among calls of a prompter too.
use Rattle.std.{proofs.{Common.{◌≡◌, ◌≤◌, ◌+◌, ℕ, Bool, cond, true, false, List, [], ◌∷◌, ◌++◌, length, refl, sym, arith}, lemmas.List.{length-append, Elements.filter-append, Sums.length-filter}}, specs.List.{count_by, filter}}
use Rattle.agent_ports.specs.{Counts.{RoseBy, Rose}, Leads.{Leads, none, one}}
use Rattle.agent_ask.specs.{Events.Call, Prompters.{AtPrompter, IsCall, is_failed}}

-- one more event, which failed, or didn't
counted : {E : Type 0} (failed : Bool) (event : E) (more : List E) (before mid after : ℕ) → (failed ≡ true → Rose before mid) → before ≤ mid → RoseBy (length more) mid after
    → RoseBy (length (cond failed (event ∷ more) more)) before after
counted true event more before mid after rose moves later = let first = rose refl in omega (arith, first, later)
counted false event more before mid after rose moves later = omega (arith, moves, later)

module _ {E : Type 0} (failed : E → Bool) where
  -- an event alone
  pub one_is_counted : (event : E) (before after : ℕ) → (failed event ≡ true → Rose before after) → before ≤ after → RoseBy (count_by failed (event ∷ [])) before after
  one_is_counted event before after rose moves = rw (sym (length-filter failed (event ∷ []))) (counted (failed event) event [] before after after rose moves (omega arith))

  -- some events, and then others
  pub both_are_counted : (first second : List E) (before mid after : ℕ) → RoseBy (count_by failed first) before mid → RoseBy (count_by failed second) mid after
      → RoseBy (count_by failed (first ++ second)) before after
  both_are_counted first second before mid after rose rose_more =
      let split : count_by failed (first ++ second) ≡ count_by failed first + count_by failed second =
      rw (sym (length-filter failed (first ++ second)), sym (length-filter failed first), sym (length-filter failed second), filter-append failed first second)
      (length-append (filter failed first) (filter failed second)) in
      omega (arith, rose, rose_more, split)

-- Events, each of which leaves a count or raises it, and raises it where it failed.
module _ {S E : Type 0} (does : S → E → S → Type 0) (failed : E → Bool) (count : S → ℕ) (moves : (before : S) (event : E) (after : S) → does before event after → count before ≤ count after)
    (rises : (before : S) (event : E) (after : S) → does before event after → failed event ≡ true → Rose (count before) (count after)) where
  all_counted : (before after : S) (events : List E) → Leads does before events after → RoseBy (length (filter failed events)) (count before) (count after)
  all_counted before after events none = omega arith
  all_counted before after events (one {mid} {event} {more} first later) =
      counted (failed event) event (filter failed more) (count before) (count mid) (count after) (rises before event mid first) (moves before event mid first) (all_counted mid after more later)

  pub failures_counted : (before after : S) (events : List E) → Leads does before events after → RoseBy (count_by failed events) (count before) (count after)
  failures_counted before after events leads = rw (sym (length-filter failed events)) (all_counted before after events leads)

-- over any prompter
module _ {P : Type 0} (at : P → AtPrompter) (prompted : P → Call → P → Type 0)
    (promise : (before : P) (call : Call) (after : P) → prompted before call after → IsCall (at before) call (at after)) where
  pub failures : (before after : P) (calls : List Call) → Leads prompted before calls after → RoseBy (count_by is_failed calls) (at before).faults (at after).faults
  failures before after calls leads =
      failures_counted prompted is_failed (λ (p : P). (at p).faults) (λ before call after does. (promise before call after does).faults) (λ before call after does. (promise before call after does).rose)
      before after calls leads
