-- Exchanges of a session between the states of its desk and of its ports, and what the laws on single requests say of each. This is the project's
-- own.
use Rattle.std.specs.{List.AllByRecursion, Prelude.{◌≡◌, ◌≢◌, ℕ, List, Option, Some, None}}
use Rattle.{agent_ask.specs.{Events.Call, Session.{PortCalls.PortEnds, Worlds.{Outside, Does}}, Prompters.AtPrompter}, agent_commands.specs.{Events.EventWith, Outside.World, Requests.request_of, declared.went.{SessionEnd.SessionEnd, Went.Went}}}
use Rattle.{agent_commands.specs.declared.went.Went.TheVariants.On, agent_origin.specs.{PortStates.PortWorld, Sessions.LineRelation, declared.session_state.SessionState.SessionState}, agent_ports.specs.Leads.Leads}
use Rattle.{assuan_server.specs.{Reading.Supply, declared.errors.Origin.{Origin, TheVariants.Agent}}, session_client.specs.declared.code.Code.{Code, TheVariants.LineTooLong}, cache_policy.specs.{Turns.Turn, declared.mark.MarkStep.MarkStep}}
use Rattle.{key_commands.specs.{Events.Event as SessionEvent, declared.request.KeyRequest.KeyRequest}, session_options.specs.declared.rules.Rules.Rules}
use Rattle.agent_session.specs.{Causes.on_keys, Completeness.{Causes, Remembers, IsStopped, HasError, AnswersAtOnce, FailuresRise, IsUncaused, IsAnsweredOk}, Counting.CountsFailures, Exactly.EndsTooLong}
use Rattle.agent_session.specs.{OwnPassphrases.{SaysOwnAlone, TellsOfKeysAlone, StoresOwnAlone}, Refusals.{AnswersAlone, IsOwnCode, RefusedCourse}}

-- ---- exchanges between two states

-- what stands between two exchanges: what is kept, the desk, and the ports
pub record Between (w : World) (S : Type 0) : Type 0 where
  pub kept : S
  pub desk : w.Desk
  pub ends : w.Ends

-- a link: the bytes that come next, those of them that it still holds, and those that were written, where they are known
pub record LinkBytes : Type 0 where
  pub input : Option (List ℕ)
  pub source : Option (List ℕ)
  pub output : Option (List ℕ)

module _ {w : World} {S : Type 0} where
  -- the ends to the outside, with such a link
  abbrev pub with_link : LinkBytes → Between w S → Outside w
  with_link link state = record { input = link.input; source = link.source; output = link.output; desk = state.desk; ends = state.ends }

-- what is said of an exchange, by what stood before and behind it
abbrev pub Saying : World → Type 0 → Type 1
Saying w S = Between w S → List ℕ → List (EventWith w.Port) → Between w S → Went → Type 0

-- The exchange of a line, whose events lead from what stands before it to what stands behind it, and of which this is so.
pub record ExchangeBetween {w : World} {S : Type 0} (supply : Supply) (relation : LineRelation w S) (Says : Saying w S) (before : Between w S) (line : List ℕ) (events : List (EventWith w.Port))
    (after : Between w S) (went : Went) : Type 0 where
  pub exchange : relation before.kept line events after.kept went
  pub link : LinkBytes
  pub link_now : LinkBytes
  pub leads : Leads (Does w supply) (with_link link before) events (with_link link_now after)
  pub says : Says before line events after went

-- ---- what the laws say of it

-- What they say of a request of every session, at a desk where this holds that finds no memory only for steps that may want some.
pub record LawfulRequest (rules : Rules) (kept : SessionState) (Spares : Type 0) (line : List ℕ) (events : List SessionEvent) : Type 0 where
  -- one that asks nobody is answered at once
  pub at_once : AllByRecursion Remembers events → AllByRecursion (λ event. ¬ IsStopped event) events → AnswersAtOnce rules (request_of line) events
  -- and wants no memory, where it is one on the cache alone
  pub alone : Spares → AllByRecursion (λ event. ¬ IsStopped event) events → AnswersAlone (request_of line) events
  -- one that was refused did nothing more
  pub refused : (why : Code) → IsOwnCode why → HasError why Agent events → RefusedCourse (request_of line) why events
  -- a passphrase is written to the request that asked for it, and none to one on keys
  pub own : on_keys (request_of line) ≡ None → SaysOwnAlone rules kept.options (request_of line) events
  pub of_keys : (asked : KeyRequest) → on_keys (request_of line) ≡ Some asked → TellsOfKeysAlone rules kept (request_of line) events
  -- what it hands to the cache is its own
  pub stores : StoresOwnAlone rules kept (request_of line) events

-- What they say of the exchange of a line, which may be one of every session.
pub record LawfulExchange {D P : Type 0} (turned : D → MarkStep → Turn → D → Type 0) (prompted : P → Call → P → Type 0) (at : P → AtPrompter) (rules : Rules) (cause : Causes)
    (IsOfEvery : List ℕ → Type 0) (Spares : D → Type 0) (before : Between (PortWorld turned prompted) SessionState) (line : List ℕ) (events : List SessionEvent)
    (after : Between (PortWorld turned prompted) SessionState) (went : Went) : Type 0 where
  pub request : IsOfEvery line → LawfulRequest rules before.kept (Spares before.desk) line events
  -- a failure in it raised its count, and at most as many failed on an end as its count rose by
  pub raised : FailuresRise at events before.ends after.ends
  pub counted : CountsFailures at events before.ends after.ends
  -- after an error line the session goes on, unless that is Line too long
  pub goes_on : (why : Code) (origin : Origin) → HasError why origin events → why ≢ LineTooLong → went ≡ On
  -- without a cause for an error it is answered by OK
  pub uncaused : IsUncaused cause before.kept line events → IsAnsweredOk went events

-- What they say of a session as a whole, beside what its exchanges are: where a line was too long it ends by that, unless a write failed, and its client is told so exactly where it ends by
-- that; a failure in it raised its count, and at most as many failed on an end as its count rose by, from before the session to behind it.
pub record LawfulSession {P : Type 0} (at : P → AtPrompter) (Exchanges : Type 0) (events : List SessionEvent) (end : SessionEnd) (before after : PortEnds P) : Type 0 where
  pub exchanges : Exchanges
  pub too_long : EndsTooLong events end
  pub raised : FailuresRise at events before after
  pub counted : CountsFailures at events before after
