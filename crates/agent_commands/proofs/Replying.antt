-- Requests that were carried out, and whose replies were written, as a session on the cache shows them.
use Rattle.std.proofs.Common.{◌≡◌, ℕ, Option, Some, None, Result, refl}
use Rattle.{agent_ask.specs.{Session.{PortCalls.{PortCall, world_with}, ActionExchanges.AnyExchange, ActionStates.action_state}, Seats.GivesTicket}, assuan_server.specs.{Clients.connection_views, Connections.Connection, Written.refusal_line}}
use Rattle.{cache_policy.specs.{declared.mark.MarkStep.MarkStep, Turns.Turn}, session_client.specs.declared.{refusal.Refusal.Refusal, client_error.Gone.Gone}, session_options.specs.OptionValues.OptionValues}
use Rattle.agent_commands.specs.{Endings.{went_after, gone_after}, Exchanges.CacheReply, Actions.CacheAction, States.{ServedState, AnswersRequest}, Steps.{IsText, went_of, CarriesOut, RespondsTo}, declared.response.Response.Response}
use Rattle.agent_commands.specs.declared.went.Went.{Went}
use Rattle.agent_ask.proofs.Replying as replying
use Rattle.session_client.specs.declared.client_error.Gone.TheVariants as gone
use Rattle.agent_commands.specs.declared.response.Response.TheVariants as response

pub gone_as_it_went : (how : Option Gone) → gone_after (went_after how) ≡ how
gone_as_it_went None = refl
gone_as_it_went (Some gone.Ended) = refl
gone_as_it_went (Some gone.TooLong) = refl
gone_as_it_went (Some gone.Spent) = refl
gone_as_it_went (Some gone.ReadFault) = refl
gone_as_it_went (Some gone.WriteFault) = refl

-- no response says that the client is gone
goes : (answer : Response) → gone_after (went_of answer) ≡ None
goes response.Ok = refl
goes response.Bye = refl
goes response.Killed = refl
goes response.Help = refl
goes (response.Version version) = refl
goes (response.Number number) = refl
goes (response.Passphrase secret plain) = refl

pub answers : (actions : OptionValues → CacheAction CacheReply) (before : OptionValues) {D E : Type 0} {turned : D → MarkStep → Turn → D → Type 0} {ported : E → PortCall → E → Type 0}
    (start : ServedState (world_with turned ported)) (held : Option ℕ) (mid now : Connection) (desk desk_now : D) (ends_now : E) (answer : Result Response Refusal) (after : OptionValues) (went : Went)
    → CarriesOut turned ported (actions before) before start answer after held (action_state connection_views turned ported mid desk ends_now)
    → GivesTicket turned None held desk desk_now → RespondsTo mid answer went now
    → AnswersRequest {w = world_with turned ported} (λ values. AnyExchange refusal_line went_after (actions values) values) before start went after
    (action_state connection_views turned ported now desk_now ends_now)
answers actions before {turned} {ported} start held mid now desk desk_now ends_now answer after went carries gives responds =
    replying.answers connection_views turned ported went_after gone_after gone_as_it_went refusal_line (actions before) before start held mid now desk desk_now ends_now IsText went_of goes carries gives responds
