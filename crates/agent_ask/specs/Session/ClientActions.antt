-- The actions of a request that are done with its client. This is the project's own.
use Rattle.std.specs.Prelude.{◌≡◌, ℕ, ◌++◌, List, [], ◌∷◌, Option, Result, Ok, Err}
use Rattle.session_client.specs.{Asking.{AnyInquired, said_by}, Lines.Lines, declared.{refusal.Refusal.{Refusal, TheVariants.Client}, client_error.ClientError.ClientError}}
use Rattle.agent_ask.specs.Session.{PortCalls.EventOf, Actions.{ActionOf, ◌>>=◌}, SessionEvents.{AnyEvent, Sent, Cut, Inquiry}}
use Rattle.session_client.specs.declared.client_error.Gone.TheVariants as gone
use Rattle.session_client.specs.declared.client_error.ClientError.TheVariants as client_error

-- a text is written, or its write fails and the client is gone
pub data Writes {T O F : Type 0} (text : List ℕ) (held : Option ℕ) : List (AnyEvent T O F) → Result (Unit {0}) Refusal → Option ℕ → Type 0 where
  written : Writes text held (Sent text ∷ []) (Ok tt) held
  cut : {sent : List ℕ} (unsent : List ℕ) → text ≡ sent ++ unsent → Writes text held (Cut sent ∷ []) (Err (Client (client_error.Gone gone.WriteFault))) held

module _ (lines : Lines) where
  -- the client is asked by a word for so many bytes at most, and gives them or says something else
  pub data Inquires (word : List ℕ) (limit : ℕ) (held : Option ℕ) : List (EventOf lines) → Result (List ℕ) Refusal → Option ℕ → Type 0 where
    given : {bytes : List ℕ} {inquired : AnyInquired lines.Outcome} → said_by lines inquired ≡ Ok bytes
        → Inquires word limit held (Inquiry word [] limit inquired ∷ []) (Ok bytes) held
    not_given : {why : ClientError} {inquired : AnyInquired lines.Outcome} → said_by lines inquired ≡ Err why
        → Inquires word limit held (Inquiry word [] limit inquired ∷ []) (Err (Client why)) held

  -- it is told something first
  abbrev pub AsksClient : (told word : List ℕ) (limit : ℕ) → ActionOf (EventOf lines) (List ℕ)
  AsksClient told word limit = do
    wrote ← Writes told
    Inquires word limit
