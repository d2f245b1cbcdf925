-- Requests that ask the cache alone, or clear it, at a desk that finds no memory only for steps that may want some.
use Rattle.std.{specs.{List.AllByRecursion, Prelude.⊤}, proofs.Common.{◌≡◌, ℕ, Bool, List, [], ◌∷◌, Option, Some, None, refl, subst}}
use Rattle.{agent_ask.specs.{Events.Call, Session.{PortCalls.PortCall, SessionEvents.{CacheTurn, cache_turn}, Worlds.{Outside, Does}}}, agent_ports.specs.Leads.{Leads, none, one}, assuan_server.specs.Reading.Supply}
use Rattle.{cache_policy.specs.{Turns.{Turn, Late, Refused, FitsStep, MayWantMemory}, declared.mark.MarkStep.{MarkStep, TheVariants.{Clear, Flush}}}, agent_origin.specs.PortStates.PortWorld}
use Rattle.{agent_origin.specs.{SessionExchanges.{RequestExchange, cache, keys}, declared.session_state.SessionState.SessionState}, session_options.specs.{OptionValues.OptionValues, declared.rules.Rules.Rules}}
use Rattle.agent_commands.specs.{Events.EventWith, Exchanges.CacheExchange, Passphrases.ask, declared.{request.{CacheCommand.TheVariants.{GetPassphrase, ClearPassphrase, ReloadAgent}, Request.{Request, TheVariants.Cache}}, went.Went.Went}}
use Rattle.agent_session.{specs.{Completeness.{IsStopped, AnswersFromCache}, Refusals.AnswersAlone}, proofs.AtOnce.{FitsTurn, IsCalm, ByTurn, answers, interrupted, LooksAlone, not_interrupted, changed, looked}}
use Rattle.agent_ask.specs.Session.Worlds as worlds

-- a turn finds no memory only where its step may want some
abbrev pub IsFair : EventWith PortCall → Type 0
IsFair (CacheTurn taken) = taken.turn ≡ Refused → MayWantMemory taken.asked
IsFair _ = ⊤

-- the first event is so
abbrev pub IsFirstFair : List (EventWith PortCall) → Type 0
IsFirstFair [] = ⊤
IsFirstFair (event ∷ more) = IsFair event

first_of_all : (events : List (EventWith PortCall)) → AllByRecursion IsFair events → IsFirstFair events
first_of_all [] each = tt
first_of_all (event ∷ more) each = each.0

-- the same of the desk where the events begin
module _ {D P : Type 0} (turned : D → MarkStep → Turn → D → Type 0) (prompted : P → Call → P → Type 0) {supply : Supply} where
  fair_at : {before after : Outside (PortWorld turned prompted)} {event : EventWith PortCall}
      → ((asked : MarkStep) (desk : D) → turned before.desk asked Refused desk → MayWantMemory asked) → Does (PortWorld turned prompted) supply before event after → IsFair event
  fair_at wants (worlds.received known needed) = tt
  fair_at wants worlds.sent = tt
  fair_at wants worlds.cut = tt
  fair_at wants (worlds.asked known needed) = tt
  fair_at wants (worlds.not_asked unsent split) = tt
  fair_at {before} wants (worlds.turned {taken} {desk} does) = λ refused. wants taken.asked desk (subst (λ t. turned before.desk taken.asked t desk) refused does)
  fair_at wants (worlds.ported does) = tt

  pub first_fair : {before after : Outside (PortWorld turned prompted)} {events : List (EventWith PortCall)}
      → ((asked : MarkStep) (desk : D) → turned before.desk asked Refused desk → MayWantMemory asked) → Leads (Does (PortWorld turned prompted) supply) before events after → IsFirstFair events
  first_fair wants none = tt
  first_fair wants (one does leads) = fair_at wants does

module _ {D P : Type 0} (turned : D → MarkStep → Turn → D → Type 0) (prompted : P → Call → P → Type 0)
    (wants : (before after : D) (asked : MarkStep) → turned before asked Refused after → MayWantMemory asked) {supply : Supply} where
  event_fair : {before after : Outside (PortWorld turned prompted)} {event : EventWith PortCall} → Does (PortWorld turned prompted) supply before event after → IsFair event
  event_fair {before} does = fair_at turned prompted (λ asked desk refused. wants before.desk desk asked refused) does

  pub all_fair : {before after : Outside (PortWorld turned prompted)} {events : List (EventWith PortCall)} → Leads (Does (PortWorld turned prompted) supply) before events after → AllByRecursion IsFair events
  all_fair none = tt
  all_fair (one does rest) = (event_fair does, all_fair rest)

-- a step that wants no memory, and a line
turn_calm : (asked : MarkStep) (turn : Turn) → (MayWantMemory asked → ⊥) → IsFair (cache_turn asked turn) → (IsStopped (cache_turn asked turn) → ⊥) → IsCalm (cache_turn asked turn)
turn_calm asked turn never fair still = ((λ wants. never (fair wants)), still)

-- an answer by a turn of a step that is never late, and wants no memory
module _ (step : MarkStep) (unhurried : FitsStep step Late → ⊥) (never : MayWantMemory step → ⊥) where
  turn_alone : {Answers : List (EventWith PortCall) → Type 0} {events : List (EventWith PortCall)} → ByTurn step Answers events → AllByRecursion FitsTurn events → IsFirstFair events
      → AllByRecursion (λ event. ¬ IsStopped event) events → Answers events
  turn_alone (answers is) fits fair still = is
  turn_alone (interrupted {turn} why) fits fair still = absurd (not_interrupted step unhurried why fits.0 (turn_calm step turn never fair still.0))

from_cache : (plain : Bool) (id : Option (List ℕ)) {events : List (EventWith PortCall)} → LooksAlone plain id events → AllByRecursion FitsTurn events → IsFirstFair events
    → AllByRecursion (λ event. ¬ IsStopped event) events → AnswersFromCache plain id events
from_cache plain None looks fits fair still = looks
from_cache plain (Some id) looks fits fair still = turn_alone (ask id) (λ late. absurd (cc late)) (λ wants. wants) looks fits fair still

module _ (rules : Rules) where
  cached_alone : (options after : OptionValues) (request : Request) (events : List (EventWith PortCall)) (went : Went) → CacheExchange rules options request events after went → AllByRecursion FitsTurn events
      → IsFirstFair events → AllByRecursion (λ event. ¬ IsStopped event) events → AnswersAlone request events
  cached_alone options after (Cache (GetPassphrase plain check no_ask repeat quality id texts)) events went exchange fits fair still =
      λ quiet. from_cache plain id (looked rules options (record { plain = plain; check = check; no_ask = no_ask; repeat = repeat; quality = quality; id = id; texts = texts }) quiet exchange) fits fair still
  cached_alone options after (Cache (ClearPassphrase id mode)) events went exchange fits fair still = turn_alone (Clear id mode) (λ late. absurd (cc late)) (λ wants. wants) (changed (Clear id mode) refl exchange) fits fair still
  cached_alone options after (Cache ReloadAgent) events went exchange fits fair still = turn_alone Flush (λ late. absurd (cc late)) (λ wants. wants) (changed Flush refl exchange) fits fair still
  cached_alone options after request events went exchange fits fair still = tt

  pub alone_first : {before after : SessionState} (request : Request) {events : List (EventWith PortCall)} {went : Went} → RequestExchange rules before request events after went → AllByRecursion FitsTurn events
      → IsFirstFair events → AllByRecursion (λ event. ¬ IsStopped event) events → AnswersAlone request events
  alone_first request (cache exchange) fits fair still = cached_alone _ _ request _ _ exchange fits fair still
  alone_first request (keys exchange) fits fair still = tt

  pub alone : {before after : SessionState} (request : Request) {events : List (EventWith PortCall)} {went : Went} → RequestExchange rules before request events after went → AllByRecursion FitsTurn events
      → AllByRecursion IsFair events → AllByRecursion (λ event. ¬ IsStopped event) events → AnswersAlone request events
  alone request {events} exchange fits fair still = alone_first request exchange fits (first_of_all events fair) still
