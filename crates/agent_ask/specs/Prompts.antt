-- One prompt for a passphrase, from its start to its end (GnuPG manual, "Agent GET_PASSPHRASE"; pinentry manual, "protocol"). How many
-- tries there are, their order and their texts are this project's own.
use Rattle.std.specs.{Prelude.{◌≡◌, ◌≢◌, ◌≤◌, ◌<◌, ◌+◌, ℕ, Bool, true, false, not, List, [], ◌∷◌, ◌++◌, length, count_by, replicate, codes, Option, Some, None, Result, Ok, Err, ⊤}, Char.is_ascii_alphabetic}
use Rattle.agent_ask.specs.{Events.{Start, GetPin, Shut, PromptEvent, Called, Notified, OutOfMemory}, declared.{prompt.ask.Asked.Asked, client.caller.Heard.{Heard, TheVariants.Fine}}}
use Rattle.agent_ask.specs.declared.prompt.{prompter.Outcome.{Outcome, TheVariants.{Pin, Cancelled, TimedOut, Failed, Broken}}, spec.{AskPlan.AskPlan, PromptSpec.PromptSpec}, tries.Failure.{Failure, TheVariants.{BadPassphrase, TooWeak, Differ}}}
use Rattle.agent_ask.specs.{declared.prompt.{tries.Stop.Stop, test.Tested.{Tested, TheVariants.{Yes, No, NoMemory}}}, Tests.{PinTest, Tests, test_of}}
use Rattle.agent_ask.specs.declared.prompt.ask.Asked.TheVariants as asked
use Rattle.agent_ask.specs.declared.prompt.prompter.Opened.TheVariants as opened
use Rattle.agent_ask.specs.declared.prompt.tries.Stop.TheVariants as stop

-- a new passphrase meets the check, where there is one: so many bytes, and so many of them that are no ASCII letters
abbrev pub MeetsCheck : Option (ℕ × ℕ) → List ℕ → Type 0
MeetsCheck None pin = ⊤
MeetsCheck (Some least) pin = (least.0 ≤ length pin) × (least.1 ≤ count_by (λ byte. not (is_ascii_alphabetic byte)) pin)

-- how many tries a prompt has
abbrev pub most_tries : ℕ
most_tries = 3

-- what failed a try, as it is told to the user
abbrev pub failure_words : Failure → List ℕ
failure_words BadPassphrase = codes "Bad passphrase"
failure_words TooWeak = codes "This passphrase is too weak"
failure_words Differ = codes "Passphrases differ"

-- what the try of this number shows as an error, where this failed the try before it
abbrev pub try_text : AskPlan → Option Failure → ℕ → List ℕ
try_text plan None number = plan.first_error.items
try_text plan (Some failure) number =
    failure_words failure ++ codes " (try " ++ (48 + number) ∷ codes " of 3)"

abbrev pub repeat_text : List ℕ
repeat_text = codes "Please repeat the passphrase"

-- what a question came to: a passphrase, or the end of the prompt
abbrev pub pin_or_stop : Outcome → Result (List ℕ) Stop
pin_or_stop (Pin pin) = Ok pin
pin_or_stop Cancelled = Err (stop.Over asked.Cancelled)
pin_or_stop TimedOut = Err (stop.Over asked.TimedOut)
pin_or_stop Failed = Err (stop.Over asked.NoPinentry)
pin_or_stop (Broken breach) = Err (stop.Over asked.NoPinentry)

-- a passphrase was typed, where this was shown as an error
abbrev pub typed : List ℕ → List ℕ → PromptEvent
typed error pin = Called (GetPin error (Pin pin))

-- it was repeated so many times
abbrev pub repeated : ℕ → List ℕ → List PromptEvent
repeated count pin = replicate count (typed repeat_text pin)

-- The repeats of a passphrase: all are the same, or another one comes, or the end of the prompt, where some are still to come.
pub data Repeats (count : ℕ) (pin : List ℕ) : List PromptEvent → Result (List ℕ) Stop → Type 0 where
  same : Repeats count pin (repeated count pin) (Ok pin)
  differs : {before : ℕ} {other : List ℕ} → before < count → other ≢ pin
      → Repeats count pin (repeated before pin ++ typed repeat_text other ∷ []) (Err (stop.Failed Differ))
  ended : {before : ℕ} (outcome : Outcome) {end : Stop} → before < count → pin_or_stop outcome ≡ Err end
      → Repeats count pin (repeated before pin ++ Called (GetPin repeat_text outcome) ∷ []) (Err end)

-- A try: its events, its test where the passphrase meets the check, and the passphrase that it comes to, what failed it, or what ended
-- the prompt.
pub data IsTry (plan : AskPlan) (Rule : List ℕ → Type 0) (error : List ℕ) : List PromptEvent → List PinTest → Result (List ℕ) Stop → Type 0 where
  -- the prompt ended in place of a passphrase
  ended : (outcome : Outcome) {end : Stop} → pin_or_stop outcome ≡ Err end
      → IsTry plan Rule error (Called (GetPin error outcome) ∷ []) [] (Err end)
  -- the check comes before the test
  weak : {pin : List ℕ} → ¬ MeetsCheck plan.check pin → IsTry plan Rule error (typed error pin ∷ []) [] (Err (stop.Failed TooWeak))
  bad : {pin : List ℕ} → MeetsCheck plan.check pin → ¬ Rule pin
      → IsTry plan Rule error (typed error pin ∷ []) (test_of pin No ∷ []) (Err (stop.Failed BadPassphrase))
  untested : {pin : List ℕ} → MeetsCheck plan.check pin
      → IsTry plan Rule error (typed error pin ∷ OutOfMemory ∷ []) (test_of pin NoMemory ∷ []) (Err (stop.Over asked.NoMemory))
  -- an accepted passphrase, and its repeats
  accepted : {pin : List ℕ} {events : List PromptEvent} {end : Result (List ℕ) Stop} → MeetsCheck plan.check pin → Rule pin
      → Repeats plan.repeat pin events end → IsTry plan Rule error (typed error pin ∷ events) (test_of pin Yes ∷ []) end

-- The tries from the one of this number on, where this failed the one before, and their tests: the passphrase of the first try that
-- doesn't fail, what ended the prompt earlier, or a bad passphrase after three tries that failed.
pub data Tries (plan : AskPlan) (Rule : List ℕ → Type 0) : ℕ → Option Failure → List PromptEvent → List PinTest → Asked → Type 0 where
  good : {number : ℕ} {before : Option Failure} {events : List PromptEvent} {tests : List PinTest} {pin : List ℕ} → number ≤ most_tries
      → IsTry plan Rule (try_text plan before number) events tests (Ok pin) → Tries plan Rule number before events tests (asked.Pin pin)
  over : {number : ℕ} {before : Option Failure} {events : List PromptEvent} {tests : List PinTest} {end : Asked} → number ≤ most_tries
      → IsTry plan Rule (try_text plan before number) events tests (Err (stop.Over end)) → Tries plan Rule number before events tests end
  again : {number : ℕ} {before : Option Failure} {events more : List PromptEvent} {tests later : List PinTest} {failure : Failure} {end : Asked}
      → number ≤ most_tries → IsTry plan Rule (try_text plan before number) events tests (Err (stop.Failed failure))
      → Tries plan Rule (number + 1) (Some failure) more later end → Tries plan Rule number before (events ++ more) (tests ++ later) end
  bad : {number : ℕ} {before : Option Failure} → most_tries < number → Tries plan Rule number before [] [] asked.Bad

-- A prompt is opened, and the client is told of it where it wants to be: there is no pinentry, or what the client said. One that isn't told is fine.
pub data Opens (spec : PromptSpec) (notify : Bool) : List PromptEvent → Option Heard → Type 0 where
  failed : Opens spec notify (Called (Start spec opened.Failed) ∷ []) None
  broken : {breach : _} → Opens spec notify (Called (Start spec (opened.Broken breach)) ∷ []) None
  quiet : {pid : ℕ} → notify ≡ false → Opens spec notify (Called (Start spec (opened.Pid pid)) ∷ []) (Some Fine)
  told : {pid : ℕ} {heard : Heard} → notify ≡ true → Opens spec notify (Called (Start spec (opened.Pid pid)) ∷ Notified pid heard ∷ []) (Some heard)

-- what is done before the prompter is shut, and the tests in it
pub data AsksBefore (spec : PromptSpec) (plan : AskPlan) (Rule : List ℕ → Type 0) : List PromptEvent → List PinTest → Asked → Type 0 where
  unopened : {events : List PromptEvent} → Opens spec plan.notify events None → AsksBefore spec plan Rule events [] asked.NoPinentry
  client_error : {events : List PromptEvent} {heard : Heard} → heard ≢ Fine → Opens spec plan.notify events (Some heard) → AsksBefore spec plan Rule events [] (asked.Heard heard)
  tried : {events more : List PromptEvent} {tests : List PinTest} {end : Asked} → Opens spec plan.notify events (Some Fine)
      → Tries plan Rule 1 None more tests end → AsksBefore spec plan Rule (events ++ more) tests end

-- one prompt for a passphrase that is right by this rule: its events, and the answer
pub record AsksPin (spec : PromptSpec) (plan : AskPlan) (Rule : List ℕ → Type 0) (events : List PromptEvent) (end : Asked) : Type 0 where
  pub before : List PromptEvent
  pub whole : events ≡ before ++ Called Shut ∷ []
  -- the tests, one for each try whose passphrase met the check
  pub tests : List PinTest
  pub asks : AsksBefore spec plan Rule before tests end

-- such a prompt, whose tests led the test from one state to another
pub record AsksPinBy {T : Type 0} (tested : T → List ℕ → Tested → T → Type 0) (before after : T) (spec : PromptSpec) (plan : AskPlan) (Rule : List ℕ → Type 0)
    (events : List PromptEvent) (end : Asked) : Type 0 where
  pub asks : AsksPin spec plan Rule events end
  pub tested_so : Tests tested before asks.tests after
