-- A prompter, and what each call of it does. This is the project's own.
use Rattle.std.specs.Prelude.{◌≡◌, ◌≤◌, ℕ, Bool, true, false}
use Rattle.agent_ports.specs.Counts.{Rose}
use Rattle.agent_ask.specs.Events.{Call, Start, GetPin, Confirm, Shut}
use Rattle.agent_ask.specs.declared.prompt.prompter.Opened.TheVariants as opened
use Rattle.agent_ask.specs.declared.prompt.prompter.Outcome.TheVariants as outcome
use Rattle.agent_ask.specs.declared.prompt.prompter.Consent.TheVariants as consent

-- what a prompter shows: whether it is ready for a question, whether a child stands, and how many calls failed
pub record AtPrompter : Type 0 where
  pub ready : Bool
  pub child : Bool
  pub faults : ℕ

-- as a new one
pub record IsShut (at : AtPrompter) : Type 0 where
  pub idle : at.ready ≡ false
  pub childless : at.child ≡ false

-- the call failed
abbrev pub is_failed : Call → Bool
is_failed (Start spec opened.Failed) = true
is_failed (GetPin error outcome.Failed) = true
is_failed (Confirm consent.Failed) = true
is_failed _ = false

-- whether the prompter is ready after a call
abbrev pub is_ready_after : Call → Bool
is_ready_after (Start spec (opened.Pid pid)) = true
is_ready_after (GetPin error (outcome.Pin pin)) = true
is_ready_after (GetPin error outcome.Cancelled) = true
is_ready_after (GetPin error outcome.TimedOut) = true
is_ready_after (Confirm consent.Yes) = true
is_ready_after (Confirm consent.No) = true
is_ready_after (Confirm consent.Cancelled) = true
is_ready_after (Confirm consent.TimedOut) = true
is_ready_after _ = false

-- What each call does. A call fails only where the count rises in it.
pub record IsCall (before : AtPrompter) (call : Call) (after : AtPrompter) : Type 0 where
  pub ready : after.ready ≡ is_ready_after call
  pub child : call ≡ Shut → after.child ≡ false
  pub faults : before.faults ≤ after.faults
  pub rose : is_failed call ≡ true → Rose before.faults after.faults
