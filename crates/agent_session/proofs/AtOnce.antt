-- Requests that ask nobody.
use Rattle.std.{specs.{List.AllByRecursion, Prelude.⊤}, proofs.Common.{◌≡◌, ℕ, Bool, true, false, List, [], ◌∷◌, ◌++◌, Option, Some, None, Result, Ok, Err, refl, ap}}
use Rattle.agent_ask.specs.{Events.Call, Session.{PortCalls.PortCall, SessionEvents.{Sent, CacheTurn, cache_turn, said_last}, Worlds.{Outside, Does}, ActionExchanges.{AnyExchange, answered, refused}}, Interrupts.Interrupts}
use Rattle.{agent_ask.specs.Session.{Actions.{goes_on, stops, returns, refuses, needed}, TurnActions.{Asks, Closes}}, agent_ports.specs.Leads.{Leads, none, one}, assuan_server.specs.{Reading.Supply, Written.{ok, failed, refusal_line}}}
use Rattle.{session_client.specs.declared.{code.Code.Code, refusal.Refusal.Refusal}, cache_policy.specs.{Desks.{AtDesk, IsTurn}, Turns.{Turn, Done, Late, FitsStep}, declared.{life.Life.Life, mark.MarkStep.MarkStep}}}
use Rattle.{cache_policy.specs.declared.mark.MarkStep.TheVariants.{Clear, Flush}, session_options.specs.{OptionValues.OptionValues, declared.rules.Rules.Rules}, agent_commands.specs.{Events.EventWith, Answers.IsPassphrase}}
use Rattle.agent_commands.specs.{Endings.went_after, Exchanges.{CacheExchange, CacheReply, ChangeReplies, GetReplies, PresetReplies, is_quiet, put}, Passphrases.{ByCache, ask, passphrase_by}, Requests.GetFields}
use Rattle.agent_commands.specs.declared.{request.{CacheCommand.TheVariants.{GetPassphrase, PresetPassphrase, ClearPassphrase, ReloadAgent}, Request.{Request, TheVariants.Cache}, Texts.Texts}, went.Went.Went}
use Rattle.agent_origin.specs.{PortStates.PortWorld, SessionExchanges.{RequestExchange, cache, keys}, declared.session_state.SessionState.SessionState}
use Rattle.agent_session.specs.{Causes.WantsMemory, Completeness.{IsStopped, AnswersFromCache, AnswersAtOnce, AnswersDone}}
use Rattle.agent_ask.specs.Session.Worlds as worlds
use Rattle.session_client.specs.declared.code.Code.TheVariants as code
use Rattle.agent_ask.specs.Interrupts as turns
use Rattle.agent_ask.specs.Session.TurnActions as turning
use Rattle.agent_commands.specs.Exchanges as exchanges
use Rattle.agent_session.specs.Completeness as completeness

-- a turn came out as its step can
abbrev pub FitsTurn : EventWith PortCall → Type 0
FitsTurn (CacheTurn taken) = FitsStep taken.asked taken.turn
FitsTurn _ = ⊤

module _ {D P : Type 0} (turned : D → MarkStep → Turn → D → Type 0) (prompted : P → Call → P → Type 0) (at : D → AtDesk)
    (promise : (before : D) (asked : MarkStep) (turn : Turn) (after : D) → turned before asked turn after → IsTurn (at before) asked turn (at after)) {supply : Supply} where
  event_fits : {before after : Outside (PortWorld turned prompted)} {event : EventWith PortCall} → Does (PortWorld turned prompted) supply before event after → FitsTurn event
  event_fits (worlds.received known needed) = tt
  event_fits worlds.sent = tt
  event_fits worlds.cut = tt
  event_fits (worlds.asked known needed) = tt
  event_fits (worlds.not_asked unsent split) = tt
  event_fits {before} (worlds.turned {taken} {desk} does) = (promise before.desk taken.asked taken.turn desk does).fits
  event_fits (worlds.ported does) = tt

  pub all_fit : {before after : Outside (PortWorld turned prompted)} {events : List (EventWith PortCall)} → Leads (Does (PortWorld turned prompted) supply) before events after → AllByRecursion FitsTurn events
  all_fit none = tt
  all_fit (one does rest) = (event_fits does, all_fit rest)

-- an event by which its command isn't interrupted
abbrev pub IsCalm : EventWith PortCall → Type 0
IsCalm event = (¬ WantsMemory event) × (¬ IsStopped event)

-- what is done by at most one turn of a request, which is answered so, or interrupted
pub data ByTurn (step : MarkStep) (Answers : List (EventWith PortCall) → Type 0) : List (EventWith PortCall) → Type 0 where
  answers : {events : List (EventWith PortCall)} → Answers events → ByTurn step Answers events
  interrupted : {turn : Turn} {why : Code} → Interrupts turn why → ByTurn step Answers (cache_turn step turn ∷ Sent (failed why) ∷ [])

-- the same of a GET_PASSPHRASE of the cache alone
abbrev pub LooksAlone : Bool → Option (List ℕ) → List (EventWith PortCall) → Type 0
LooksAlone plain None events = AnswersFromCache plain None events
LooksAlone plain (Some id) events = ByTurn (ask id) (AnswersFromCache plain (Some id)) events

module _ (step : MarkStep) (unhurried : FitsStep step Late → ⊥) where
  pub not_interrupted : {turn : Turn} {why : Code} → Interrupts turn why → FitsTurn (cache_turn step turn) → IsCalm (cache_turn step turn) → ⊥
  not_interrupted turns.refused fits calm = calm.0 refl
  not_interrupted turns.stopping fits calm = calm.1 refl
  not_interrupted turns.late fits calm = unhurried fits

  answered_by : {Answers : List (EventWith PortCall) → Type 0} {events : List (EventWith PortCall)} → ByTurn step Answers events → AllByRecursion FitsTurn events → AllByRecursion IsCalm events → Answers events
  answered_by (answers is) fits calm = is
  answered_by (interrupted why) fits calm = absurd (not_interrupted why fits.0 calm.0)

-- ---- a turn that changes the cache

module _ (step : MarkStep) where
  pub changed : {before after : OptionValues} {reply : CacheReply} {events : List (EventWith PortCall)} {went : Went} → reply.text ≡ ok
      → AnyExchange refusal_line went_after (ChangeReplies step reply) before events after went → ByTurn step (AnswersDone step) events
  changed is (answered _ _ _ (goes_on (turning.done can) returns) turning.unheld) = answers (ap (λ t. cache_turn step Done ∷ Sent t ∷ []) is)
  changed is (refused _ _ _ (stops (turning.interrupted can why)) turning.unheld) = interrupted why
  changed is (refused _ _ _ (goes_on does next) closes) = elim next [ ]

module _ (rules : Rules) (options : OptionValues) (id : List ℕ) (life : Life) (secret : List ℕ) where
  preset : (allow : Bool) {after : OptionValues} {events : List (EventWith PortCall)} {went : Went} → allow ≡ true
      → AnyExchange refusal_line went_after (PresetReplies (record rules { allow_preset = allow }) options id life (Some secret)) options events after went
      → ByTurn (put id life secret) (AnswersDone (put id life secret)) events
  preset false is exchange = absurd (cc is)
  preset true is (answered _ _ _ (goes_on (goes_on returns (goes_on returns (turning.done can))) returns) turning.unheld) = answers refl
  preset true is (refused _ _ _ (stops (goes_on returns (goes_on returns (turning.interrupted can why)))) turning.unheld) = interrupted why
  preset true is (refused _ _ _ (stops (goes_on returns (stops next))) closes) = elim next [ ]
  preset true is (refused _ _ _ (stops (stops next)) closes) = elim next [ ]
  preset true is (refused _ _ _ (goes_on does next) closes) = elim next [ ]

-- ---- the cache alone

module _ (plain : Bool) where
  given : {id first : _} {held after : Option ℕ} {value : Option (List ℕ)} (more back : List (EventWith PortCall)) (secret text : List ℕ) → Asks (ask id) None first (Ok value) held
      → needed code.NoData value held more (Ok secret) after → IsPassphrase plain secret text → Closes None after back (Ok tt) None
      → LooksAlone plain (Some id) (((first ++ more) ++ []) ++ (back ++ Sent text ∷ []))
  given _ _ _ _ (turning.given can) returns is turning.unheld = answers (completeness.given is)
  given _ _ _ _ (turning.empty can) next is closes = elim next [ ]
  given _ _ _ _ (turning.opened can) next is closes = elim next [ ]

  none_given : {id first : _} {held after : Option ℕ} {value : Option (List ℕ)} (more back : List (EventWith PortCall)) (why : Refusal) → Asks (ask id) None first (Ok value) held
      → needed code.NoData value held more (Err why) after → Closes None after back (Ok tt) None → LooksAlone plain (Some id) ((first ++ more) ++ (back ++ said_last (refusal_line why)))
  none_given _ _ _ (turning.given can) next closes = elim next [ ]
  none_given _ _ _ (turning.empty can) refuses turning.unheld = answers completeness.empty
  none_given _ _ _ (turning.opened fits) next closes = absurd fits

  stopped : {id first : _} {held : Option ℕ} {back : List (EventWith PortCall)} {why : Refusal} → Asks (ask id) None first (Err why) held → Closes None held back (Ok tt) None
      → LooksAlone plain (Some id) (first ++ (back ++ said_last (refusal_line why)))
  stopped (turning.interrupted can why) turning.unheld = interrupted why

  tells : (id : Option (List ℕ)) (first back : List (EventWith PortCall)) (secret text : List ℕ) (held : Option ℕ) → ByCache id None first (Ok secret) held → IsPassphrase plain secret text
      → Closes None held back (Ok tt) None → LooksAlone plain id ((first ++ []) ++ (back ++ Sent text ∷ []))
  tells None _ _ _ _ _ (goes_on returns next) is closes = elim next [ ]
  tells (Some id) _ _ _ _ _ (goes_on looks next) is closes = given _ _ _ _ looks next is closes

  tells_none : (id : Option (List ℕ)) (first back : List (EventWith PortCall)) (why : Refusal) (held : Option ℕ) → ByCache id None first (Err why) held → Closes None held back (Ok tt) None
      → LooksAlone plain id (first ++ (back ++ said_last (refusal_line why)))
  tells_none None _ _ _ _ (goes_on returns refuses) turning.unheld = completeness.no_id
  tells_none None _ _ _ _ (stops next) closes = elim next [ ]
  tells_none (Some id) _ _ _ _ (goes_on looks next) closes = none_given _ _ _ looks next closes
  tells_none (Some id) _ _ _ _ (stops looks) closes = stopped looks closes

module _ (rules : Rules) (options : OptionValues) (fields : GetFields) where
  by_cache : (no_ask : Bool) (texts : Option Texts) → is_quiet no_ask texts ≡ true → {before after : Option ℕ} {events : List (EventWith PortCall)} {result : Result (List ℕ) Refusal}
      → passphrase_by rules options fields no_ask texts before events result after → ByCache fields.id before events result after
  by_cache no_ask None quiet does = does
  by_cache true (Some texts) quiet does = does
  by_cache false (Some texts) quiet does = absurd (cc quiet)

  pub looked : {after : OptionValues} {events : List (EventWith PortCall)} {went : Went} → is_quiet fields.no_ask fields.texts ≡ true
      → AnyExchange refusal_line went_after (GetReplies rules options fields) options events after went → LooksAlone fields.plain fields.id events
  looked quiet (answered _ _ _ (goes_on does (goes_on (exchanges.tells is) returns)) closes) = tells fields.plain fields.id _ _ _ _ _ (by_cache fields.no_ask fields.texts quiet does) is closes
  looked quiet (refused _ _ _ (stops does) closes) = tells_none fields.plain fields.id _ _ _ _ (by_cache fields.no_ask fields.texts quiet does) closes
  looked quiet (refused _ _ _ (goes_on does (goes_on told next)) closes) = elim next [ ]
  looked quiet (refused _ _ _ (goes_on does (stops next)) closes) = elim next [ ]

-- ---- requests

from_cache : (plain : Bool) (id : Option (List ℕ)) {events : List (EventWith PortCall)} → LooksAlone plain id events → AllByRecursion FitsTurn events → AllByRecursion IsCalm events → AnswersFromCache plain id events
from_cache plain None looks fits calm = looks
from_cache plain (Some id) looks fits calm = answered_by (ask id) (λ late. absurd (cc late)) looks fits calm

module _ (rules : Rules) where
  cached_at_once : (options after : OptionValues) (request : Request) (events : List (EventWith PortCall)) (went : Went) → CacheExchange rules options request events after went → AllByRecursion FitsTurn events
      → AllByRecursion IsCalm events → AnswersAtOnce rules request events
  cached_at_once options after (Cache (GetPassphrase plain check no_ask repeat quality id texts)) events went exchange fits calm =
      λ quiet. from_cache plain id (looked rules options (record { plain = plain; check = check; no_ask = no_ask; repeat = repeat; quality = quality; id = id; texts = texts }) quiet exchange) fits calm
  cached_at_once options after (Cache (PresetPassphrase id life (Some secret))) events went exchange fits calm =
      λ allowed. answered_by (put id life secret) (λ late. absurd (cc late)) (preset rules options id life secret rules.allow_preset allowed exchange) fits calm
  cached_at_once options after (Cache (ClearPassphrase id mode)) events went exchange fits calm = answered_by (Clear id mode) (λ late. absurd (cc late)) (changed (Clear id mode) refl exchange) fits calm
  cached_at_once options after (Cache ReloadAgent) events went exchange fits calm = answered_by Flush (λ late. absurd (cc late)) (changed Flush refl exchange) fits calm
  cached_at_once options after request events went exchange fits calm = tt

  pub at_once : {before after : SessionState} (request : Request) {events : List (EventWith PortCall)} {went : Went} → RequestExchange rules before request events after went → AllByRecursion FitsTurn events → AllByRecursion IsCalm events
      → AnswersAtOnce rules request events
  at_once request (cache exchange) fits calm = cached_at_once _ _ request _ _ exchange fits calm
  at_once request (keys exchange) fits calm = tt

pub each_calm : (events : List (EventWith PortCall)) → AllByRecursion (λ event. ¬ WantsMemory event) events → AllByRecursion (λ event. ¬ IsStopped event) events → AllByRecursion IsCalm events
each_calm [] remembers still = tt
each_calm (event ∷ more) remembers still = ((remembers.0, still.0), each_calm more remembers.1 still.1)
