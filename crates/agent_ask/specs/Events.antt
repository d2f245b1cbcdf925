-- The events of a prompt: what is asked of a prompter and of the client, with each answer. These are the project's own.
use Rattle.std.specs.Prelude.{ℕ, List}
use Rattle.agent_ask.specs.declared.{prompt.{spec.PromptSpec.PromptSpec, prompter.{Opened.Opened, Outcome.Outcome, Consent.Consent}}, client.caller.Heard.Heard}

-- a call of a prompter, with its answer
pub data Call : Type 0 where
  Start : PromptSpec → Opened → Call
  -- with the text that is shown as an error
  GetPin : List ℕ → Outcome → Call
  Confirm : Consent → Call
  Shut : Call

-- what the client is asked
pub data Question : Type 0 where
  -- it is told that a prompt was opened, in the process of this number
  Launched : ℕ → Question
  -- a passphrase is wanted, by this word
  Wanted : List ℕ → Question

-- an event of a prompt
pub data PromptEvent : Type 0 where
  -- the prompter was called
  Called : Call → PromptEvent
  -- the client was told that the prompt is open, in the process of this number
  Notified : ℕ → Heard → PromptEvent
  -- the test of a passphrase found no memory
  OutOfMemory : PromptEvent
