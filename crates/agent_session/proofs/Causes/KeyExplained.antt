-- What a session does for a line has one answer, and each error line in it its cause.
use Rattle.std.proofs.Common.{◌≡◌, ◌++◌, ℕ, List, [], ◌∷◌, Option, Some, None, Ok, refl, sym, subst}
use Rattle.{agent_ask.specs.Session.{PortCalls.{PortCall, Keys, Replaced}, SessionEvents.{Sent, Port}, ActionExchanges.{answered, refused}}, agent_ports.specs.declared.grip.Grip.Grip, session_client.specs.declared.code.Code.Code}
use Rattle.{session_client.specs.{declared.{client_error.Gone.Gone, refusal.Refusal.Refusal}, Refusals.gone_by}, assuan_server.specs.declared.errors.Origin.Origin, session_options.specs.declared.rules.Rules.Rules}
use Rattle.{agent_commands.specs.{Endings.went_after, Events.EventWith, Requests.request_of, declared.{request.Request.Request, went.Went.{Went, TheVariants.On}}}, key_commands.specs.Exchanges.KeyExchange}
use Rattle.key_commands.specs.{Actions.{refusal_events, key_went_after as key_went}, declared.{request.KeyRequest.KeyRequest, went.KeyWent.KeyWent, keywrap_key.WrapKeys.WrapKeys}}
use Rattle.agent_origin.specs.{SessionExchanges.{RequestExchange, cache, keys, SessionExchange, went_after_key}, declared.session_state.SessionState.SessionState}
use Rattle.agent_session.{specs.{Causes.{Has, StandIn, IsCaused, IsRefusedBy, on_keys}, Completeness.{CausedInSession, HasError}}, proofs.Causes.CacheRequests.{cache_explained, in_exchange, refusal_explained}}
use Rattle.agent_session.proofs.{Causes.{Explained.{Explained, replied, is_answered, is_caused, goes_on, went_on}, KeyRequests.replies, LineFaults.line_caused}, Courses.KeyCourses.replies_ok, Standing.stand_all}
use Rattle.agent_ports.specs.declared.keys.KeyDone.TheVariants as key_done
use Rattle.session_client.specs.declared.code.Code.TheVariants as code
use Rattle.assuan_server.specs.declared.errors.Origin.TheVariants as origin

-- a file that is replaced needn't be there
abbrev pub NeverAbsent : List (EventWith PortCall) → Type 0
NeverAbsent events = (grip : Grip) (file : List ℕ) → Has (Port (Keys (Replaced grip file key_done.Absent))) events → ⊥

-- a session goes on so after a request on keys as after any other
went_of_refusal : (why : Refusal) → went_after_key (key_went (gone_by why)) ≡ went_after (gone_by why)
went_of_refusal why = went_of (gone_by why)
  where
    went_of : (how : Option Gone) → went_after_key (key_went how) ≡ went_after how
    went_of None = refl
    went_of (Some how) = refl

module _ (rules : Rules) (kept : SessionState) (request : Request) (whole : List (EventWith PortCall)) where
  abbrev Here : List (EventWith PortCall) → Went → Type 0
  Here = Explained whole (IsCaused whole rules kept request)

  module _ (line_caused : (why : Code) → IsRefusedBy request why → IsCaused whole rules kept request why origin.Agent) (never_absent : NeverAbsent whole) where
    keys_explained : (asked : KeyRequest) → on_keys request ≡ Some asked → {events : List (EventWith PortCall)} {after : WrapKeys} {went : KeyWent}
        → KeyExchange rules kept.options kept.wraps asked events after went → StandIn events whole → Here events (went_after_key went)
    keys_explained asked is (answered events held reply {back} does closes) stands =
        subst (λ w. Here (events ++ (back ++ Sent reply.text ∷ [])) (went_after_key w)) (sym (((replies_ok rules kept.options kept.wraps asked).of None events (Ok reply) held does).1))
        (in_exchange rules kept whole request (replies rules kept request whole never_absent line_caused asked is) does closes (λ good. replied [] reply.text tt good tt) stands)
    keys_explained asked is (refused events held why does closes) stands =
        in_exchange rules kept whole request (replies rules kept request whole never_absent line_caused asked is) does closes
        (λ caused. subst (Here (refusal_events why)) (sym (went_of_refusal why)) (refusal_explained rules kept whole request why caused)) stands

request_explained : (rules : Rules) (kept : SessionState) (request : Request) (whole : List (EventWith PortCall)) {events : List (EventWith PortCall)} {after : SessionState} {went : Went}
    → ((why : Code) → IsRefusedBy request why → IsCaused whole rules kept request why origin.Agent) → NeverAbsent whole → RequestExchange rules kept request events after went → StandIn events whole
    → Explained whole (IsCaused whole rules kept request) events went
request_explained rules kept request whole caused never_absent (cache exchange) stands = cache_explained rules kept whole request _ caused exchange stands
request_explained rules kept request whole caused never_absent (keys exchange) stands = keys_explained rules kept request whole caused never_absent _ refl exchange stands

pub exchange_caused : (rules : Rules) (kept : SessionState) (line : List ℕ) {events : List (EventWith PortCall)} {after : SessionState} {went : Went} → NeverAbsent events → SessionExchange rules kept line events after went
    → CausedInSession rules kept line events after went
exchange_caused rules kept line {events} never_absent exchange =
    let explained = request_explained rules kept (request_of line) events (line_caused rules kept line events) never_absent exchange (stand_all events) in
    record { exchange = exchange; answered = is_answered events (IsCaused events rules kept (request_of line)) explained refl; caused = is_caused events (IsCaused events rules kept (request_of line)) explained }

-- after an error line the session goes on, but after one
pub exchange_goes_on : (rules : Rules) (kept : SessionState) (line : List ℕ) {events : List (EventWith PortCall)} {after : SessionState} {went : Went} → NeverAbsent events → SessionExchange rules kept line events after went
    → (why : Code) (origin : Origin) → HasError why origin events → (why ≡ code.LineTooLong → ⊥) → went ≡ On
exchange_goes_on rules kept line {events} {went} never_absent exchange why origin has =
    let explained = request_explained rules kept (request_of line) events (line_caused rules kept line events) never_absent exchange (stand_all events) in
    went_on went why (goes_on events (IsCaused events rules kept (request_of line)) explained why origin has)
