-- Each exchange of a session is a course.
use Rattle.std.proofs.Common.{◌≡◌, List, [], ◌∷◌, ℕ, refl, sym, subst, Some}
use Rattle.{agent_ask.specs.Session.{PortCalls.{PortCall, Replaced, Keys}, SessionEvents.{CacheTurn, Port, cache_turn}}, cache_policy.specs.{Turns.Turn, declared.{life.Life.Life, mark.MarkStep.{MarkStep, TheVariants.Put}, mode.Mode.Mode}}}
use Rattle.{cache_policy.specs.declared.mode.Mode.TheVariants.Nonce, session_options.specs.declared.rules.Rules.Rules, agent_commands.specs.{Events.EventWith, declared.{request.Request.Request, went.Went.Went}}}
use Rattle.agent_origin.specs.{SessionExchanges.{RequestExchange, cache, keys}, declared.session_state.SessionState.SessionState}
use Rattle.agent_session.specs.{Causes.{Has, here, later, on_keys}, Refusals.{IsWorkStep, IsAllowed, AreWork, IsEnd, answered, given_back, unanswered, refused, kept, stored, cleared, CourseBy, Course}}
use Rattle.agent_session.{specs.OwnPassphrases.{IsNonceOf, MayStore, directly, imported}, proofs.Courses.{CacheCourses.cache_course, Courses.AnyNonce, ImportCourses.{import_course, nonce_drawn}, KeyCourses.key_course}}
use Rattle.agent_session.proofs.Standing.{has_left, has_right}
use Rattle.key_commands.specs.declared.request.KeyRequest.TheVariants as on

-- a course by whatever nonces is one by those that were drawn for it
module _ (request : Request) (events : List (EventWith PortCall))
    (drawn : (force : _) (nonce : _) → on_keys request ≡ Some (on.ImportKey force nonce) → (id pass : List ℕ) (life : Life) (turn : Turn) → Has (cache_turn (Put id Nonce life pass) turn) events → IsNonceOf events id) where
  may_store : (id : List ℕ) (mode : Mode) (life : Life) (pass : List ℕ) (turn : Turn) → Has (cache_turn (Put id mode life pass) turn) events → MayStore request AnyNonce id mode → MayStore request (IsNonceOf events) id mode
  may_store id mode life pass turn has (directly under) = directly under
  may_store id mode life pass turn has (imported is any) = imported is (drawn _ _ is id pass life turn has)

  step_drawn : (asked : MarkStep) (turn : Turn) → Has (cache_turn asked turn) events → IsWorkStep request AnyNonce asked → IsWorkStep request (IsNonceOf events) asked
  step_drawn (Put id mode life pass) turn has works = may_store id mode life pass turn has works
  step_drawn _ turn has works = works

  allowed_drawn : (event : EventWith PortCall) → Has event events → IsAllowed request AnyNonce event → IsAllowed request (IsNonceOf events) event
  allowed_drawn (CacheTurn taken) has allowed = step_drawn taken.asked taken.turn has allowed
  allowed_drawn (Port (Keys (Replaced grip file answer))) has allowed = allowed
  allowed_drawn _ has allowed = allowed

  work_drawn : (work : List (EventWith PortCall)) → ((event : EventWith PortCall) → Has event work → Has event events) → AreWork request AnyNonce work → AreWork request (IsNonceOf events) work
  work_drawn [] among each = tt
  work_drawn (event ∷ more) among each = ((allowed_drawn event (among event here) each.0.0, each.0.1), work_drawn more (λ other has. among other (later has)) each.1)

  end_drawn : {last : List (EventWith PortCall)} → ((event : EventWith PortCall) → Has event last → Has event events) → IsEnd request AnyNonce last → IsEnd request (IsNonceOf events) last
  end_drawn among (answered is) = answered is
  end_drawn among (given_back turn is) = given_back turn is
  end_drawn among (unanswered turn) = unanswered turn
  end_drawn among (refused {event} allowed is back) = refused (allowed_drawn event (among event here) allowed) is back
  end_drawn among (kept turn ok) = kept turn ok
  end_drawn among (stored settles) = stored settles
  end_drawn among (cleared settles back) = cleared settles back

  course_drawn : CourseBy request AnyNonce events → Course request events
  course_drawn goes = record {
    work = goes.work;
    last = goes.last;
    is = goes.is;
    each = work_drawn goes.work (λ event has. subst (λ e. Has event e) (sym goes.is) (has_left goes.last has)) goes.each;
    end = end_drawn (λ event has. subst (λ e. Has event e) (sym goes.is) (has_right goes.work has)) goes.end;
  }

course_so : {rules : Rules} {before now : SessionState} (request : Request) {events : List (EventWith PortCall)} {went : Went} → RequestExchange rules before request events now went → CourseBy request AnyNonce events
course_so {rules} {before} request (cache exchange) = cache_course rules before.options _ _ _ request exchange
course_so {rules} {before} request (keys exchange) = key_course request rules before.options before.wraps refl exchange

pub request_course : {rules : Rules} {before now : SessionState} (request : Request) {events : List (EventWith PortCall)} {went : Went} → RequestExchange rules before request events now went → Course request events
request_course request {events} exchange = course_drawn request events (λ force nonce is id pass life turn has. nonce_drawn id pass life turn (import_course request is exchange) has) (course_so request exchange)
