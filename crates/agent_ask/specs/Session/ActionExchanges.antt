-- The exchange of a request whose actions are these: they are done one after another, a ticket that is held then is given back and nothing is kept, and last the
-- request is answered, or its refusal, by its line where it has one. This is the project's own.
use Rattle.std.specs.Prelude.{◌++◌, ℕ, List, [], ◌∷◌, Option, None, Ok, Err}
use Rattle.session_client.specs.{Refusals.gone_by, declared.{refusal.Refusal.Refusal, client_error.Gone.Gone}}
use Rattle.agent_ask.specs.Session.{Actions.ActionOf, SessionEvents.{AnyEvent, Sent, said_last}, TurnActions.Closes}

-- what a request is answered where it isn't refused, what is kept after it, and how the session goes on
pub record AnyReply (S W : Type 0) : Type 0 where
  pub text : List ℕ
  pub kept : S
  pub went : W

-- A refusal leaves what was kept before, and ends the session where its client is gone.
pub data AnyExchange {T O F S W : Type 0} (refusal_line : Refusal → Option (List ℕ)) (went_after : Option Gone → W) (actions : ActionOf (AnyEvent T O F) (AnyReply S W)) (before : S)
    : List (AnyEvent T O F) → S → W → Type 0 where
  answered : (events : List (AnyEvent T O F)) (held : Option ℕ) (reply : AnyReply S W) {back : List (AnyEvent T O F)} → actions None events (Ok reply) held
      → Closes None held back (Ok tt) None → AnyExchange refusal_line went_after actions before (events ++ (back ++ Sent reply.text ∷ [])) reply.kept reply.went
  refused : (events : List (AnyEvent T O F)) (held : Option ℕ) (why : Refusal) {back : List (AnyEvent T O F)} → actions None events (Err why) held
      → Closes None held back (Ok tt) None → AnyExchange refusal_line went_after actions before (events ++ (back ++ said_last (refusal_line why))) before (went_after (gone_by why))
