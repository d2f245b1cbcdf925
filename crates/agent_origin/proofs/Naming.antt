-- Each prompt of a session's request names the terminal and the language that its option values have.
use Rattle.std.{specs.List.AllByRecursion, proofs.Common.{◌≡◌, Bool, List, [], ◌∷◌, ◌++◌, Option, refl, sym, subst}}
use Rattle.agent_ask.specs.{Consents.ConsentBefore, Events.{Start, GetPin, Confirm, Shut, PromptEvent, Called, Notified, OutOfMemory}, Session.{PortCalls.{Prompt, Trust}, SessionEvents.{Received, CacheTurn, Port}}, Prompts.{AsksBefore, Opens}}
use Rattle.{agent_ask.specs.{SessionPrompts.AnyInSession, Tests.PinTest, declared.prompt.{ask.Asked.Asked, consent.Agreed.Agreed, spec.{AskPlan.AskPlan, PromptSpec.PromptSpec}}}, agent_commands.specs.declared.request.Request.Request}
use Rattle.{agent_commands.specs.declared.went.Went.Went, assuan_server.specs.Clients.session_lines, key_commands.{specs.Events.Event, proofs.{EachEvent.{IsStill, each_append, each_returned}, EachRequest.{Carries, so, then, whole}}}}
use Rattle.session_options.specs.{OptionValues.{OptionValues, EnvWords, words_of}, declared.rules.Rules.Rules}
use Rattle.agent_origin.specs.{DoorSessions.{AllowedExchange, DoorExchange}, OuterPrompts.{Names, PromptNames, PromptsName}, SessionExchanges.RequestExchange, TrustExchanges.TrustExchange, declared.door.Door.Door}
use Rattle.agent_origin.{specs.declared.{session_state.SessionState.SessionState, trust.request.TrustRequest.TrustRequest}, proofs.{Between.{Between, tries_between}, EachLine.request_whole, EachTrust.{carried_so, carried_laws}}}
use Rattle.agent_ask.specs.Consents as consents
use Rattle.agent_ask.specs.Prompts as prompts
use Rattle.agent_ask.specs.SessionPrompts as session
use Rattle.agent_origin.specs.DoorSessions as door

module _ (env : EnvWords) where
  abbrev EachNames : List PromptEvent → Type 0
  EachNames events = AllByRecursion (Names env) events

  -- ---- one prompt

  between_names : (events : List PromptEvent) → Between events → EachNames events
  between_names [] each = tt
  between_names (Called (GetPin error outcome) ∷ more) each = (tt, between_names more each.1)
  between_names (Called (Confirm consent) ∷ more) each = (tt, between_names more each.1)
  between_names (Called (Start spec opened) ∷ more) each = absurd each.0
  between_names (Called Shut ∷ more) each = absurd each.0
  between_names (Notified pid heard ∷ more) each = (tt, between_names more each.1)
  between_names (OutOfMemory ∷ more) each = (tt, between_names more each.1)

  with_end : (events before : List PromptEvent) → events ≡ before ++ Called Shut ∷ [] → EachNames before → EachNames events
  with_end events before is each = subst EachNames (sym is) (each_append (Names env) before (Called Shut ∷ []) each (tt, tt))

  module _ {spec : PromptSpec} (named : words_of spec.env ≡ env) where
    opens_names : {notify : Bool} {events : List PromptEvent} {opening : _} → Opens spec notify events opening → EachNames events
    opens_names prompts.failed = (named, tt)
    opens_names prompts.broken = (named, tt)
    opens_names (prompts.quiet is) = (named, tt)
    opens_names (prompts.told is) = (named, (tt, tt))

    asked_names : {notify : Bool} {events : List PromptEvent} {opening : _} → Opens spec notify events opening → (more : List PromptEvent) → Between more → EachNames (events ++ more)
    asked_names {events} opens more each = each_append (Names env) events more (opens_names opens) (between_names more each)

    before_names : {plan : AskPlan} {Rule : _} {events : List PromptEvent} {tests : List PinTest} {end : Asked} → AsksBefore spec plan Rule events tests end → EachNames events
    before_names (prompts.unopened opens) = opens_names opens
    before_names (prompts.client_error other opens) = opens_names opens
    before_names (prompts.tried {more} opens tries) = asked_names opens more (tries_between tries)

    consent_names : {notify : Bool} {events : List PromptEvent} {end : Agreed} → ConsentBefore spec notify events end → EachNames events
    consent_names (consents.unopened opens) = opens_names opens
    consent_names (consents.client_error other opens) = opens_names opens
    consent_names (consents.asked consent opens) = asked_names opens (Called (Confirm consent) ∷ []) (tt, tt)

  -- ---- among the events of the session

  shown_names : {prompt : List PromptEvent} {shown : List Event} → AnyInSession session_lines prompt shown → EachNames prompt → PromptsName env shown
  shown_names session.none each = tt
  shown_names (session.called more) each = (each.0, shown_names more each.1)
  shown_names (session.noted says more) each = (tt, shown_names more each.1)
  shown_names (session.out_of_memory more) each = (tt, shown_names more each.1)

  still_names : (event : Event) → IsStill event → PromptNames env event
  still_names (Port (Prompt event)) still = absurd still
  still_names (Port (Trust call)) still = absurd still
  still_names (CacheTurn taken) still = absurd still
  still_names (Received took) still = absurd still
  still_names _ still = tt

  names_carries : Carries env (PromptNames env) (PromptsName env)
  names_carries = record {
    still = still_names;
    turns = λ step turn. tt;
    behind = each_append (PromptNames env);
    each = λ events each. each;
    pins = λ named prompt. shown_names prompt.in_session (with_end prompt.prompt prompt.asks.before prompt.asks.whole (before_names named prompt.asks.asks));
    consents = λ named prompt. shown_names prompt.in_session (with_end prompt.prompt prompt.asks.before prompt.asks.whole (consent_names named prompt.asks.asks));
  }

-- ---- requests

request_names : {rules : Rules} {kept now : SessionState} (request : Request) {events : List Event} {went : Went} → RequestExchange rules kept request events now went → PromptsName kept.options.env events
request_names {kept} request exchange = request_whole (names_carries kept.options.env) (λ text. tt) refl request exchange

trust_names : (rules : Rules) (options : OptionValues) (request : TrustRequest) {events : List Event} {went : Went} → TrustExchange rules options request events went → PromptsName options.env events
trust_names rules options request =
    let carries = names_carries options.env in
    whole carries (λ text. tt) (then carries (carried_so (carried_laws {options = options} carries (λ call. tt)) rules request) (λ done. so carries (each_returned (PromptNames options.env) _)))

allowed_names : {rules : Rules} {before after : SessionState} {line : _} {command : Option _} {events : List Event} {went : Went} → AllowedExchange rules before line command events after went
    → PromptsName before.options.env events
allowed_names door.helped = (tt, tt)
allowed_names door.unset = (tt, tt)
allowed_names {rules} {before} (door.trusts exchange) = trust_names rules before.options _ exchange
allowed_names (door.any exchange) = request_names _ exchange

pub exchange_names : {at : Door} {rules : Rules} {before after : SessionState} {line : _} {events : List Event} {went : Went} → DoorExchange at rules before line events after went
    → PromptsName before.options.env events
exchange_names (door.forbidden never) = (tt, tt)
exchange_names (door.is_allowed allows exchange) = allowed_names exchange
