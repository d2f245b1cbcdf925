-- An exchange on the trust list by what its request came to: its work, the return of a ticket that it still holds, and its line.
use Rattle.std.proofs.Common.{ℕ, List, [], ◌∷◌, ◌++◌, Option, None, Ok, Err, sym, subst, append-nil}
use Rattle.{agent_ask.specs.Session.{ActionExchanges.AnyExchange, Actions.{goes_on, stops, returns}, SessionEvents.{Sent, said_last}, TurnActions.Closes}, assuan_server.specs.Written.{ok, refusal_line}, session_client.specs.Refusals.gone_by}
use Rattle.{session_client.specs.declared.refusal.Refusal.Refusal, session_options.specs.{OptionValues.OptionValues, declared.rules.Rules.Rules}, agent_commands.specs.{Endings.went_after, declared.went.Went.{Went, TheVariants.On}}}
use Rattle.{key_commands.specs.Events.Event, agent_origin.specs.{TrustExchanges.{Carried, TrustReplies, TrustExchange}, declared.trust.request.TrustRequest.TrustRequest}}
use Rattle.agent_ask.specs.Session.ActionExchanges as exchange

module _ (rules : Rules) (options : OptionValues) (request : TrustRequest) where
  pub data Told : List Event → Went → Type 0 where
    answered : (events back : List Event) {held : Option ℕ} → Carried rules options request None events (Ok tt) held → Closes None held back (Ok tt) None → Told (events ++ (back ++ Sent ok ∷ [])) On
    refused : (events back : List Event) {held : Option ℕ} (why : Refusal) → Carried rules options request None events (Err why) held → Closes None held back (Ok tt) None
        → Told (events ++ (back ++ said_last (refusal_line why))) (went_after (gone_by why))

  told_at : {events : List Event} {after : OptionValues} {went : Went} → AnyExchange refusal_line went_after (TrustReplies rules options request) options events after went → Told events went
  told_at (exchange.answered _ held _ {back} (goes_on {first} carried returns) closes) =
      subst (λ (e : List Event). Told (e ++ (back ++ Sent ok ∷ [])) On) (sym (append-nil first)) (answered first back carried closes)
  told_at (exchange.refused events held why {back} (stops carried) closes) = refused events back why carried closes
  told_at (exchange.refused _ held why (goes_on carried returned) closes) = elim returned [ ]

  pub told : {events : List Event} {went : Went} → TrustExchange rules options request events went → Told events went
  told exchanged = told_at exchanged
