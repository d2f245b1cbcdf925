-- What stands between a prompt's start and its end: its questions, and neither a start nor an end.
use Rattle.std.{specs.{List.AllByRecursion, Prelude.⊤}, proofs.Common.{ℕ, List, Result, zero, suc}}
use Rattle.{agent_ask.specs.{Events.{Start, Shut, PromptEvent, Called}, Prompts.{IsTry, Repeats, Tries, repeated}, Tests.PinTest, declared.prompt.{ask.Asked.Asked, spec.AskPlan.AskPlan}}, key_commands.proofs.EachEvent.each_append}
use Rattle.agent_ask.specs.Prompts as prompts

abbrev pub IsBetween : PromptEvent → Type 0
IsBetween (Called (Start spec opened)) = ⊥
IsBetween (Called Shut) = ⊥
IsBetween _ = ⊤

abbrev pub Between : List PromptEvent → Type 0
Between events = AllByRecursion IsBetween events

repeats_are_questions : (count : ℕ) (pin : List ℕ) → Between (repeated count pin)
repeats_are_questions zero pin = tt
repeats_are_questions (suc count) pin = (tt, repeats_are_questions count pin)

repeats_between : {count : ℕ} {pin : List ℕ} {events : List PromptEvent} {end : Result (List ℕ) _} → Repeats count pin events end → Between events
repeats_between {count} {pin} prompts.same = repeats_are_questions count pin
repeats_between {pin} (prompts.differs {before} less other) = each_append IsBetween (repeated before pin) _ (repeats_are_questions before pin) (tt, tt)
repeats_between {pin} (prompts.ended {before} outcome less is) = each_append IsBetween (repeated before pin) _ (repeats_are_questions before pin) (tt, tt)

try_between : {plan : AskPlan} {Rule : List ℕ → Type 0} {error : List ℕ} {events : List PromptEvent} {tests : List PinTest} {end : Result (List ℕ) _} → IsTry plan Rule error events tests end → Between events
try_between (prompts.ended outcome is) = (tt, tt)
try_between (prompts.weak fails) = (tt, tt)
try_between (prompts.bad meets wrong) = (tt, tt)
try_between (prompts.untested meets) = (tt, (tt, tt))
try_between (prompts.accepted meets right repeats) = (tt, repeats_between repeats)

pub tries_between : {plan : AskPlan} {Rule : List ℕ → Type 0} {number : ℕ} {before : _} {events : List PromptEvent} {tests : List PinTest} {end : Asked} → Tries plan Rule number before events tests end
    → Between events
tries_between (prompts.good within try) = try_between try
tries_between (prompts.over within try) = try_between try
tries_between (prompts.again {events} {more} within try later) = each_append IsBetween events more (try_between try) (tries_between later)
tries_between (prompts.bad past) = tt
