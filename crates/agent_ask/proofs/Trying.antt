-- Tests one after another, the last of them, and tries by rules that are the same.
use Rattle.std.{proofs.Common.{◌≡◌, ◌≢◌, ℕ, List, [], ◌∷◌, ◌++◌, Option, Some, None, Result, Ok, Err, refl, ap, sym, ◌∙◌, subst, append_assoc}, specs.Option.option_map}
use Rattle.{agent_ports.{specs.Leads.{none, one}, proofs.Leading.leads_then}, session_client.specs.declared.{client_error.ClientError.ClientError, refusal.Refusal.TheVariants.{Agent, Client}}}
use Rattle.agent_ask.specs.{Doing.HasEvents, Events.PromptEvent, Prompts.{IsTry, ended, weak, bad, untested, accepted, Repeats, same, Tries, good, over, again, AsksBefore, tried, AsksPinBy}}
use Rattle.agent_ask.specs.{Tests.{SameRule, IsTest, PinTest, test_of, Tests, WithTests, EndsBy, EndsAccepted, EndsOutOfMemory}, declared.prompt.{ask.Asked.Asked, spec.{AskPlan.AskPlan, PromptSpec.PromptSpec}, test.Tested.Tested}}
use Rattle.agent_ask.{specs.{declared.{prompt.{test.Tested.TheVariants.{Yes, NoMemory}, tries.{Failure.Failure, Stop.Stop}}, client.caller.Heard.Heard}, Callers.unheard_of, PinActions.IsGiven}, proofs.Making.made_then}
use Rattle.agent_ask.proofs.Stopping.{never_stops, never_repeats}
use Rattle.session_client.specs.declared.code.Code.TheVariants as code
use Rattle.agent_ask.specs.declared.prompt.ask.Asked.TheVariants as asked
use Rattle.agent_ask.specs.declared.prompt.tries.Stop.TheVariants as stop

module _ {T : Type 0} {tested : T → List ℕ → Tested → T → Type 0} where
  -- the rule stays the same
  pub same_rule : {Rule : T → List ℕ → Type 0} {before after : T} {tests : List PinTest}
      → ((now : T) (pin : List ℕ) (answer : Tested) (later : T) → tested now pin answer later → IsTest (Rule now) pin answer (Rule later))
      → Tests tested before tests after → SameRule (Rule before) (Rule after)
  same_rule promise none = record { to = λ pin is. is; from = λ pin is. is }
  same_rule promise (one does later) =
      let first = (promise _ _ _ _ does).same in
      let rest = same_rule promise later in
      record { to = λ pin is. rest.to pin (first.to pin is); from = λ pin is. first.from pin (rest.from pin is) }

  -- the last of some tests
  pub ends_by : {pin : List ℕ} {answer : Tested} (earlier : List PinTest) {before after : T} → Tests tested before (earlier ++ test_of pin answer ∷ []) after
      → EndsBy tested pin answer before after
  ends_by [] (one does none) = record { earlier = []; mid = _; reaches = none; last = does }
  ends_by (test ∷ more) (one does later) = let rest = ends_by more later in record { earlier = test ∷ rest.earlier; mid = rest.mid; reaches = one does rest.reaches; last = rest.last }

  -- events with their tests, and then others
  pub tested_then : {S : Type 0} {Does : S → PromptEvent → S → Type 0} {First Second : List PromptEvent → List PinTest → Type 0} (Whole : List PromptEvent → List PinTest → Type 0)
      {before mid after : S} {test_before test_mid test_after : T}
      → ((events more : List PromptEvent) (tests later : List PinTest) → First events tests → Second more later → Whole (events ++ more) (tests ++ later))
      → HasEvents Does (λ events. WithTests tested test_before test_mid (First events)) before mid
      → HasEvents Does (λ events. WithTests tested test_mid test_after (Second events)) mid after
      → HasEvents Does (λ events. WithTests tested test_before test_after (Whole events)) before after
  tested_then Whole {test_before} {test_after} joins =
      made_then (λ events. WithTests tested test_before test_after (Whole events))
      (λ events more first second. record {
        tests = first.tests ++ second.tests;
        done = joins events more first.tests second.tests first.done second.done;
        tested_so = leads_then first.tested_so second.tested_so;
      })

repeats_ok : {count : ℕ} {typed pin : List ℕ} {events : List PromptEvent} → Repeats count typed events (Ok pin) → typed ≡ pin
repeats_ok same = refl

module _ {plan : AskPlan} {Rule : List ℕ → Type 0} where
  accepted_one : {error pin : List ℕ} {events : List PromptEvent} {tests : List PinTest} → IsTry plan Rule error events tests (Ok pin) → tests ≡ test_of pin Yes ∷ []
  accepted_one (accepted met right repeats) = ap (λ (p : List ℕ). test_of p Yes ∷ []) (repeats_ok repeats)

  no_pin : {error pin : List ℕ} {events : List PromptEvent} {tests : List PinTest} → IsTry plan Rule error events tests (Err (stop.Over (asked.Pin pin))) → ⊥
  no_pin {pin} (ended what is) = never_stops (asked.Pin pin) tt what is
  no_pin {pin} (accepted met right repeats) = never_repeats (asked.Pin pin) tt repeats

  out_one : {error : List ℕ} {events : List PromptEvent} {tests : List PinTest} → IsTry plan Rule error events tests (Err (stop.Over asked.NoMemory))
      → (pin : List ℕ) × (tests ≡ test_of pin NoMemory ∷ [])
  out_one (ended what is) = absurd (never_stops asked.NoMemory tt what is)
  out_one (untested {pin} met) = (pin, refl)
  out_one (accepted met right repeats) = absurd (never_repeats asked.NoMemory tt repeats)

  -- the last test of tries that came to a passphrase
  accepted_last : {number : ℕ} {before : Option Failure} {events : List PromptEvent} {tests : List PinTest} {pin : List ℕ} → Tries plan Rule number before events tests (asked.Pin pin)
      → (earlier : List PinTest) × (tests ≡ earlier ++ test_of pin Yes ∷ [])
  accepted_last (good few once) = ([], accepted_one once)
  accepted_last (over few once) = absurd (no_pin once)
  accepted_last (again {tests} few once more) = let rest = accepted_last more in (tests ++ rest.0, ap (λ (t : List PinTest). tests ++ t) rest.1 ∙ sym (append_assoc tests rest.0 _))

  -- and of those that found no memory
  out_last : {number : ℕ} {before : Option Failure} {events : List PromptEvent} {tests : List PinTest} → Tries plan Rule number before events tests asked.NoMemory
      → (pin : List ℕ) × (earlier : List PinTest) × (tests ≡ earlier ++ test_of pin NoMemory ∷ [])
  out_last (over few once) = let last = out_one once in (last.0, [], last.1)
  out_last (again {tests} few once more) = let rest = out_last more in (rest.0, tests ++ rest.1, ap (λ (t : List PinTest). tests ++ t) rest.2 ∙ sym (append_assoc tests rest.1 _))

  -- no client said what tries come to
  never_once : {error : List ℕ} {events : List PromptEvent} {tests : List PinTest} (heard : Heard) → IsTry plan Rule error events tests (Err (stop.Over (asked.Heard heard))) → ⊥
  never_once heard (ended what is) = never_stops (asked.Heard heard) tt what is
  never_once heard (accepted meets right repeats) = never_repeats (asked.Heard heard) tt repeats

  pub never_heard : {number : ℕ} {before : Option Failure} {events : List PromptEvent} {tests : List PinTest} (heard : Heard) → Tries plan Rule number before events tests (asked.Heard heard) → ⊥
  never_heard heard (over few once) = never_once heard once
  never_heard heard (again few once more) = never_heard heard more

  module _ {spec : PromptSpec} where
    pin_last : {events : List PromptEvent} {tests : List PinTest} {pin : List ℕ} → AsksBefore spec plan Rule events tests (asked.Pin pin) → (earlier : List PinTest) × (tests ≡ earlier ++ test_of pin Yes ∷ [])
    pin_last (tried opens tries) = accepted_last tries

    memory_last : {events : List PromptEvent} {tests : List PinTest} → AsksBefore spec plan Rule events tests asked.NoMemory → (pin : List ℕ) × (earlier : List PinTest) × (tests ≡ earlier ++ test_of pin NoMemory ∷ [])
    memory_last (tried opens tries) = out_last tries

    -- the last test of a prompt that came to a passphrase, and of one that found no memory
    module _ {T : Type 0} {tested : T → List ℕ → Tested → T → Type 0} {before after : T} {events : List PromptEvent} where
      pub accepted_by : {pin : List ℕ} → AsksPinBy tested before after spec plan Rule events (asked.Pin pin) → EndsAccepted tested pin before after
      accepted_by asks = let last = pin_last asks.asks.asks in ends_by last.0 (subst (λ tests. Tests tested before tests after) last.1 asks.tested_so)

      pub memory_by : AsksPinBy tested before after spec plan Rule events asked.NoMemory → EndsOutOfMemory tested before after
      memory_by asks = let last = memory_last asks.asks.asks in (last.0, ends_by last.1 (subst (λ tests. Tests tested before tests after) last.2 asks.tested_so))

-- a request that is refused for want of memory had a prompt that found none
pub found_no_memory : (answer : Asked) → IsGiven answer (Err (Agent code.NoMemory)) → answer ≡ asked.NoMemory
found_no_memory (asked.Pin pin) is = cc is
found_no_memory asked.Cancelled is = cc is
found_no_memory asked.TimedOut is = cc is
found_no_memory asked.NoPinentry is = cc is
found_no_memory asked.Bad is = cc is
found_no_memory (asked.Heard heard) is = absurd (never (unheard_of heard) is)
  where
    never : (why : Option ClientError) → option_map Client why ≢ Some (Agent code.NoMemory)
    never None is = cc is
    never (Some other) is = cc is
found_no_memory asked.NoMemory is = refl

-- a test that every passphrase passes wants none
pub wants_no_memory : {T : Type 0} {before after : T} {spec : PromptSpec} {plan : AskPlan} {Rule : List ℕ → Type 0} {events : List PromptEvent} {answer : Asked}
    → AsksPinBy (λ now pin tested later. tested ≡ Yes) before after spec plan Rule events answer → answer ≢ asked.NoMemory
wants_no_memory asks is = let out = memory_by (rw is at asks) in cc out.1.last

-- a try by one rule is one by the other
pub try_as : {plan : AskPlan} {Rule Other : List ℕ → Type 0} {error : List ℕ} {events : List PromptEvent} {tests : List PinTest} {end : Result (List ℕ) Stop} → SameRule Rule Other
    → IsTry plan Other error events tests end → IsTry plan Rule error events tests end
try_as rules (ended outcome is) = ended outcome is
try_as rules (weak not) = weak not
try_as rules (bad met not) = bad met (λ is. not (rules.to _ is))
try_as rules (untested met) = untested met
try_as rules (accepted met right repeats) = accepted met (rules.from _ right) repeats
