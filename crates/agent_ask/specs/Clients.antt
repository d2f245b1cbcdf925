-- A session's client as a prompt has to do with it. This is the project's own.
use Rattle.std.specs.Prelude.{ℕ, List, Result, Ok, Err}
use Rattle.session_client.specs.{Asking.{TellsClient, LeftByError}, Lines.{Lines, Views, IsOpen}, declared.{refusal.Refusal.{Refusal, TheVariants.Client}, client_error.ClientError.ClientError}}
use Rattle.agent_ask.specs.{Callers.{IsHearing, SaysNote, SaysWish}, Events.{Question, Launched, Wanted}, declared.client.caller.Heard.Heard}

module _ {lines : Lines} {C : Type 0} (views : Views lines C) where
  -- how its connection is left by a request that came to this: open, but where it is refused since the client is gone
  abbrev pub LeftByRefusal : Refusal → C → C → Type 0
  LeftByRefusal (Client why) start now = LeftByError views why start now
  LeftByRefusal _ start now = IsOpen views now

  abbrev pub LeftByAction : {A : Type 0} → Result A Refusal → C → C → Type 0
  LeftByAction (Ok value) start now = IsOpen views now
  LeftByAction (Err why) start now = LeftByRefusal why start now

  module _ (Wished : C → List ℕ → Result (List ℕ) ClientError → C → Type 0) where
    -- a question to a client whose connection is open, and its answer
    pub data Hears (before : C) : Question → Heard → C → Type 0 where
      note : {pid : ℕ} {heard : Heard} {after : C} (result : Result (Unit {0}) ClientError) → IsOpen views before → TellsClient views pid result before after
          → SaysNote result heard → IsHearing (Launched pid) heard (IsOpen views after) → Hears before (Launched pid) heard after
      wish : {word : List ℕ} {heard : Heard} {after : C} (result : Result (List ℕ) ClientError) → IsOpen views before → Wished before word result after
          → SaysWish result heard → IsHearing (Wanted word) heard (IsOpen views after) → Hears before (Wanted word) heard after

    pub hearing : {before after : C} {question : Question} {answer : Heard} → Hears before question answer after → IsHearing question answer (IsOpen views after)
    hearing (note result going tells says is) = is
    hearing (wish result going wished says is) = is
