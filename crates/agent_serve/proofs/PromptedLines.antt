-- Lines of a session, at either door, in whose exchanges the prompter's calls are those of prompts, one after another.
use Rattle.std.proofs.Common.{ℕ, List, Option, refl}
use Rattle.{session_options.specs.{OptionValues.OptionValues, declared.rules.Rules.Rules}, agent_commands.specs.declared.{request.Request.Request, went.Went.Went}, key_commands.specs.Events.{Event, IsUncalled}}
use Rattle.{key_commands.proofs.{EachEvent.each_returned, EachRequest.{so, then, whole}}, agent_origin.{proofs.{EachLine.request_whole, EachTrust.{carried_so, carried_laws}}, specs.DoorSessions.{AllowedExchange, DoorExchange}}}
use Rattle.agent_origin.specs.{TrustExchanges.TrustExchange, SessionExchanges.RequestExchange, declared.{door.Door.Door, session_state.SessionState.SessionState, trust.request.TrustRequest.TrustRequest}}
use Rattle.agent_serve.{specs.Prompts.Prompted, proofs.PromptedEvents.{prompted_carries, uncalled}}
use Rattle.agent_origin.specs.DoorSessions as door

pub request_prompted : {rules : Rules} {kept now : SessionState} (request : Request) {events : List Event} {went : Went} → RequestExchange rules kept request events now went → Prompted events
request_prompted = request_whole prompted_carries (λ text. tt) refl

trust_prompted : (rules : Rules) (options : OptionValues) (request : TrustRequest) {events : List Event} {went : Went} → TrustExchange rules options request events went → Prompted events
trust_prompted rules options request =
    let carries = prompted_carries {env = options.env} in
    whole carries (λ text. tt) (then carries (carried_so (carried_laws {options = options} carries (λ call. tt)) rules request) (λ done. so carries (each_returned IsUncalled _)))

-- ---- at a door

allowed_prompted : {rules : Rules} {before after : SessionState} {line : List ℕ} {command : Option _} {events : List Event} {went : Went} → AllowedExchange rules before line command events after went → Prompted events
allowed_prompted door.helped = uncalled _ (tt, tt)
allowed_prompted door.unset = uncalled _ (tt, tt)
allowed_prompted {rules} {before} (door.trusts exchange) = trust_prompted rules before.options _ exchange
allowed_prompted (door.any exchange) = request_prompted _ exchange

pub door_prompted : {at : Door} {rules : Rules} {before after : SessionState} {line : List ℕ} {events : List Event} {went : Went} → DoorExchange at rules before line events after went → Prompted events
door_prompted (door.forbidden never) = uncalled _ (tt, tt)
door_prompted (door.is_allowed allows exchange) = allowed_prompted exchange
