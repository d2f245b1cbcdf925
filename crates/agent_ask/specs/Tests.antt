-- What a test's answers mean, and the answers that it gives one after another. This is the project's own.
use Rattle.std.specs.Prelude.{ℕ, List, ⊤}
use Rattle.agent_ports.specs.Leads.{Leads}
use Rattle.agent_ask.specs.declared.prompt.test.Tested.{Tested, TheVariants.{Yes, No, NoMemory}}

-- two rules for the same passphrases
pub record SameRule (Rule Other : List ℕ → Type 0) : Type 0 where
  pub to : (pin : List ℕ) → Rule pin → Other pin
  pub from : (pin : List ℕ) → Other pin → Rule pin

-- yes exactly where the fact holds, no exactly where it doesn't
abbrev pub Judges : Type 0 → Tested → Type 0
Judges Fact Yes = Fact
Judges Fact No = ¬ Fact
Judges Fact NoMemory = ⊤

-- an answer by this rule, which is the same after it
pub record IsTest (Rule : List ℕ → Type 0) (pin : List ℕ) (answer : Tested) (RuleAfter : List ℕ → Type 0) : Type 0 where
  pub judges : Judges (Rule pin) answer
  pub same : SameRule Rule RuleAfter

-- a test of a passphrase, with its answer
pub record PinTest : Type 0 where
  pub pin : List ℕ
  pub answer : Tested

abbrev pub test_of : List ℕ → Tested → PinTest
test_of pin answer = record { pin = pin; answer = answer }

-- tests that led from one state of a test to another
abbrev pub Tests : {T : Type 0} → (T → List ℕ → Tested → T → Type 0) → T → List PinTest → T → Type 0
Tests tested = Leads (λ before test after. tested before test.pin test.answer after)

-- they led there, and this was done in between
pub record WithTests {T : Type 0} (tested : T → List ℕ → Tested → T → Type 0) (before after : T) (Done : List PinTest → Type 0) : Type 0 where
  pub tests : List PinTest
  pub done : Done tests
  pub tested_so : Tests tested before tests after

-- the last of them was of this passphrase, and answered so
pub record EndsBy {T : Type 0} (tested : T → List ℕ → Tested → T → Type 0) (pin : List ℕ) (answer : Tested) (before after : T) : Type 0 where
  pub earlier : List PinTest
  pub mid : T
  pub reaches : Tests tested before earlier mid
  pub last : tested mid pin answer after

-- this passphrase was found right, and that was the last test
abbrev pub EndsAccepted : {T : Type 0} → (T → List ℕ → Tested → T → Type 0) → List ℕ → T → T → Type 0
EndsAccepted tested pin before after = EndsBy tested pin Yes before after

-- the last test found no memory
abbrev pub EndsOutOfMemory : {T : Type 0} → (T → List ℕ → Tested → T → Type 0) → T → T → Type 0
EndsOutOfMemory tested before after = (pin : List ℕ) × EndsBy tested pin NoMemory before after
