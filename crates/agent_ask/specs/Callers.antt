-- What the client's answers mean. This is the project's own.
use Rattle.std.specs.Prelude.{◌≡◌, ℕ, List, Bool, true, false, Option, Some, None, Result, Ok, Err, ⊤}
use Rattle.session_client.specs.declared.client_error.ClientError.{ClientError}
use Rattle.agent_ask.specs.{Events.{Question, Launched, Wanted}, declared.client.caller.Heard.{Heard, TheVariants.{Fine, Secret, Cancelled, TooMuch, Unexpected, Gone}}}
use Rattle.session_client.specs.declared.client_error.ClientError.TheVariants as client_error

-- the client is gone
abbrev pub is_gone : Heard → Bool
is_gone (Gone how) = true
is_gone _ = false

-- what it said in place of what was wanted, where it gave nothing
abbrev pub unheard_of : Heard → Option ClientError
unheard_of Fine = None
unheard_of (Secret secret) = None
unheard_of Cancelled = Some client_error.Cancelled
unheard_of TooMuch = Some client_error.TooMuch
unheard_of Unexpected = Some client_error.Unexpected
unheard_of (Gone how) = Some (client_error.Gone how)

-- a client error as an answer, and what came of telling the client of a prompt or of asking it for a passphrase
abbrev pub heard_of : ClientError → Heard
heard_of client_error.Cancelled = Cancelled
heard_of client_error.TooMuch = TooMuch
heard_of client_error.Unexpected = Unexpected
heard_of (client_error.Gone how) = Gone how

abbrev pub heard_by : Result (Unit {0}) ClientError → Heard
heard_by (Ok noted) = Fine
heard_by (Err why) = heard_of why

abbrev pub wish_by : Result (List ℕ) ClientError → Heard
wish_by (Ok secret) = Secret secret
wish_by (Err why) = heard_of why

-- what a client was heard to say that was told of a prompt, and one that was asked for a passphrase
abbrev pub SaysNote : Result (Unit {0}) ClientError → Heard → Type 0
SaysNote (Ok noted) heard = heard ≡ Fine
SaysNote (Err why) heard = unheard_of heard ≡ Some why

abbrev pub SaysWish : Result (List ℕ) ClientError → Heard → Type 0
SaysWish (Ok secret) heard = heard ≡ Secret secret
SaysWish (Err why) heard = unheard_of heard ≡ Some why

-- a client that is told of a prompt gives no passphrase, and one that is asked for a passphrase gives it
abbrev pub IsNote : Heard → Type 0
IsNote (Secret secret) = ⊥
IsNote _ = ⊤

abbrev pub FitsQuestion : Question → Heard → Type 0
FitsQuestion (Launched pid) answer = IsNote answer
FitsQuestion (Wanted word) Fine = ⊥
FitsQuestion question answer = ⊤

-- an answer, after which the caller listens so
pub record IsHearing (question : Question) (answer : Heard) (Listens : Type 0) : Type 0 where
  pub fits : FitsQuestion question answer
  pub listens : is_gone answer ≡ false → Listens
