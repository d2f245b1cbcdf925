-- Private: what the code's tries and prompts leave.
use Rattle.std.specs.Prelude.{◌≢◌, ℕ, Bool, true, false, List, Option, Some, None, Result, Ok, Err, ⊤}
use Rattle.agent_ask.specs.{Callers.heard_of, Consents.agreed_of, Events.{Question, Launched}, declared.{prompt.{ask.Asked.Asked, consent.Agreed.Agreed, prompter.Consent.Consent}, client.caller.Heard.{Heard, TheVariants.Fine}}}
use Rattle.{agent_ask.specs.declared.prompt.tries.Stop.{Stop, TheVariants.{Failed, Over}}, session_client.specs.declared.{client_error.ClientError.ClientError, refusal.Refusal.{Refusal, TheVariants.Client}}}
use Rattle.agent_ask.specs.declared.prompt.ask.Asked.TheVariants as asked
use Rattle.agent_ask.specs.declared.prompt.consent.Agreed.TheVariants as agreed

-- the prompt isn't over
abbrev pub GoesOn : Result (List ℕ) Stop → Type 0
GoesOn (Ok pin) = ⊤
GoesOn (Err (Failed failure)) = ⊤
GoesOn (Err (Over end)) = ⊥

-- the same in the words of the definitions: whether there is a pinentry, and what a prompt came to, or the client error in its place
abbrev pub opening_by : Result Bool ClientError → Option Heard
opening_by (Ok false) = None
opening_by (Ok true) = Some Fine
opening_by (Err why) = Some (heard_of why)

abbrev pub asked_by : Result Asked ClientError → Asked
asked_by (Ok answer) = answer
asked_by (Err why) = asked.Heard (heard_of why)

abbrev pub agreed_by : Result Consent ClientError → Agreed
agreed_by (Ok consent) = agreed_of consent
agreed_by (Err why) = agreed.Heard (heard_of why)

-- no client said this
abbrev pub IsTried : Asked → Type 0
IsTried answer = (heard : Heard) → answer ≢ asked.Heard heard

-- how the caller is left: it listens, or said this in place of taking note, and was asked nothing behind it
abbrev pub IsLeft : {C A : Type 0} → (C → Question → Heard → C → Type 0) → (C → Type 0) → Result A ClientError → C → C → Type 0
IsLeft heard listens (Ok value) before now = listens now
IsLeft heard listens (Err why) before now = (pid : ℕ) × heard before (Launched pid) (heard_of why) now

-- it isn't refused by a client error
abbrev pub IsOwn : {A : Type 0} → Result A Refusal → Type 0
IsOwn (Err (Client why)) = ⊥
IsOwn result = ⊤
