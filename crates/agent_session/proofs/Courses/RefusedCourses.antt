-- Requests that are answered for want of memory, or for a failure of the keys or of the dice: an event refused them.
use Rattle.std.{specs.List.AllByRecursion, proofs.Common.{◌≡◌, List, [], ◌∷◌, ◌++◌, ℕ, Option, Some, None, refl, sym, ap, subst, inl, inr}}
use Rattle.agent_ask.specs.{Events.OutOfMemory, Session.{PortCalls.{PortCall, Read, Listed, Replaced, Removed, NotDrawn, Prompt, Keys, Dice, NoMemory, Trust}, SessionEvents.{Sent, CacheTurn, Port, cache_turn}}}
use Rattle.{agent_ports.specs.declared.grip.Grip.Grip, assuan_server.specs.{Written.failed, declared.errors.Origin.TheVariants.Agent}, session_client.specs.declared.code.Code.Code, cache_policy.specs.Turns.{Turn, Refused, FitsStep, closes}}
use Rattle.{cache_policy.specs.declared.{mark.MarkStep.{MarkStep, TheVariants.{Clear, Close}}, mode.Mode.TheVariants.Normal}, session_options.specs.declared.rules.Rules.Rules, agent_commands.specs.Events.EventWith}
use Rattle.{agent_commands.specs.declared.request.Request.Request, key_commands.specs.{Lines.grip_text, Passphrases.put_key}, agent_origin.specs.declared.session_state.SessionState.SessionState}
use Rattle.agent_session.specs.Causes.{Has, here, later, HasOne, one, WantsMemory, FailsAtKeysOrDice, IsCaused}
use Rattle.agent_session.specs.Refusals.{refuses, turn_refuses, AreWork, IsWork, IsEnd, Course, GivesBack, IsLast, RefusedEnd, at_work, at_answer, at_store, at_clear, RefusedCourse, IsOwnCode, memory, fault, shuts}
use Rattle.agent_session.{specs.OwnPassphrases.IsNonceOf, proofs.{AtOnce.FitsTurn, Causes.Explained.has_split, Courses.Refusing.no_close, Standing.each_has}}
use Rattle.agent_ask.specs.Session.TrustCalls as trust_call
use Rattle.agent_ask.specs.Interrupts as turns
use Rattle.agent_ports.specs.declared.keys.KeyDone.TheVariants as key_done
use Rattle.agent_ports.specs.declared.keys.KeyNames.TheVariants as key_names
use Rattle.agent_ports.specs.declared.keys.KeyRead.TheVariants as key_read
use Rattle.agent_ports.specs.declared.trust.TrustDone.TheVariants as trust_done
use Rattle.agent_ports.specs.declared.trust.TrustRead.TheVariants as trust_read
use Rattle.session_client.specs.declared.code.Code.TheVariants as code
use Rattle.agent_session.specs.Refusals as course

-- ---- an event that the answer blames refuses its request

refused_turn : (asked : MarkStep) (turn : Turn) → FitsStep asked turn → turn ≡ Refused → turn_refuses (closes asked) turn ≡ Some code.NoMemory
refused_turn asked turn fits is =
    let so : FitsStep asked Refused = subst (FitsStep asked) is fits in
    subst (λ t. turn_refuses (closes asked) t ≡ Some code.NoMemory) (sym is) (ap (λ c. turn_refuses c Refused) (no_close asked so))

wants_refuses : (event : EventWith PortCall) → FitsTurn event → WantsMemory event → refuses event ≡ Some code.NoMemory
wants_refuses (CacheTurn taken) fits wants = refused_turn taken.asked taken.turn fits wants
wants_refuses (Port NoMemory) fits wants = refl
wants_refuses (Port (Prompt OutOfMemory)) fits wants = refl
wants_refuses (Port (Keys (Read grip key_read.NoMemory))) fits wants = refl
wants_refuses (Port (Keys (Listed key_names.NoMemory))) fits wants = refl
wants_refuses (Port (Keys (Replaced grip file key_done.NoMemory))) fits wants = refl
wants_refuses (Port (Keys (Removed grip key_done.NoMemory))) fits wants = refl
wants_refuses (Port (Trust (trust_call.Read trust_read.NoMemory))) fits wants = refl
wants_refuses (Port (Trust (trust_call.Replaced file trust_done.NoMemory))) fits wants = refl
wants_refuses _ fits wants = absurd wants

fails_refuses : (event : EventWith PortCall) → FailsAtKeysOrDice event → refuses event ≡ Some code.General
fails_refuses (Port (Keys (Read grip key_read.Failed))) fails = refl
fails_refuses (Port (Keys (Listed key_names.Failed))) fails = refl
fails_refuses (Port (Keys (Replaced grip file key_done.Failed))) fails = refl
fails_refuses (Port (Keys (Removed grip key_done.Failed))) fails = refl
fails_refuses (Port (Dice (NotDrawn count))) fails = refl
fails_refuses _ fails = absurd fails

-- an event among these refuses the request by this code
pub data HasRefusal (why : Code) (events : List (EventWith PortCall)) : Type 0 where
  has_refusal : (event : EventWith PortCall) → refuses event ≡ Some why → Has event events → HasRefusal why events

module _ {events : List (EventWith PortCall)} (fits : AllByRecursion FitsTurn events) where
  memory_refuses : HasOne events WantsMemory → HasRefusal code.NoMemory events
  memory_refuses (one event wants has) = has_refusal event (wants_refuses event (each_has FitsTurn events fits has) wants) has

  fault_refuses : HasOne events FailsAtKeysOrDice → HasRefusal code.General events
  fault_refuses (one event fails has) = has_refusal event (fails_refuses event fails) has

  pub caused_refuses : (rules : Rules) (kept : SessionState) (request : Request) {why : Code} → IsOwnCode why → IsCaused events rules kept request why Agent → HasRefusal why events
  caused_refuses rules kept request memory caused = memory_refuses caused
  caused_refuses rules kept request fault caused = fault_refuses caused

-- ---- where it stands

-- none of these refuses it
abbrev Goes : EventWith PortCall → Type 0
Goes event = refuses event ≡ None

none_refuses : {why : Code} (events : List (EventWith PortCall)) → AllByRecursion Goes events → HasRefusal why events → ⊥
none_refuses events each (has_refusal event is has) = absurd (cc (is, each_has Goes events each has))

-- the first one does, or one behind it
not_first : {why : Code} {event : EventWith PortCall} {more : List (EventWith PortCall)} → Goes event → HasRefusal why (event ∷ more) → HasRefusal why more
not_first goes (has_refusal event is here) = absurd (cc (is, goes))
not_first goes (has_refusal event is (later has)) = has_refusal event is has

only_first : {why : Code} {event : EventWith PortCall} (more : List (EventWith PortCall)) → AllByRecursion Goes more → HasRefusal why (event ∷ more) → refuses event ≡ Some why
only_first more each (has_refusal event is here) = is
only_first more each (has_refusal event is (later has)) = absurd (none_refuses more each (has_refusal event is has))

last_goes : {last : List (EventWith PortCall)} → IsLast last → AllByRecursion Goes last
last_goes course.gone = tt
last_goes (course.said is) = (refl, tt)

back_goes : {text : List ℕ} {ending : List (EventWith PortCall)} → GivesBack (Sent text ∷ []) ending → AllByRecursion Goes ending
back_goes course.no_ticket = (refl, tt)
back_goes (course.with_ticket turn) = (refl, (refl, tt))

shut_goes : (event : EventWith PortCall) (ending : List (EventWith PortCall)) → AllByRecursion Goes ending → AllByRecursion Goes (shuts event ++ ending)
shut_goes (Port (Prompt event)) ending each = (refl, each)
shut_goes _ ending each = each

abbrev unanswered_events : ℕ → Option (List ℕ) → Turn → List (EventWith PortCall)
unanswered_events number keep turn = cache_turn (Close number keep) turn ∷ Port NoMemory ∷ Sent (failed code.NoMemory) ∷ []

abbrev stored_events : Grip → List ℕ → List ℕ → List (EventWith PortCall)
stored_events grip file pass = Port (Keys (Replaced grip file key_done.Done)) ∷ cache_turn (put_key grip pass) Refused ∷ Sent (failed code.NoMemory) ∷ []

abbrev cleared_events : Grip → List (EventWith PortCall) → List (EventWith PortCall)
cleared_events grip ending = Port (Keys (Removed grip key_done.Done)) ∷ cache_turn (Clear (grip_text grip) Normal) Refused ∷ ending

module _ (request : Request) (IsNonce : List ℕ → Type 0) where
  refused_end : {why : Code} {last : List (EventWith PortCall)} → IsEnd request IsNonce last → HasRefusal why last → RefusedEnd request IsNonce why last
  refused_end (course.answered is) has = absurd (none_refuses _ (last_goes is) has)
  refused_end (course.given_back turn is) has = absurd (none_refuses _ (refl, last_goes is) has)
  refused_end (course.unanswered {ticket} {keep} turn) has = subst (λ c. RefusedEnd request IsNonce c (unanswered_events ticket keep turn)) (cc (only_first _ (refl, tt) (not_first refl has))) (at_answer turn)
  refused_end (course.refused {event} {why = given} {ending} allowed is back) has =
      let same : given ≡ _ = cc (is, only_first _ (shut_goes event ending (back_goes back)) has) in
      subst (λ c. RefusedEnd request IsNonce c (event ∷ (shuts event ++ ending))) same (at_work allowed is back)
  refused_end (course.kept turn ok) has = absurd (none_refuses _ (refl, (refl, (refl, tt))) has)
  refused_end (course.stored (course.settled ok)) has = absurd (none_refuses _ (refl, (refl, (refl, tt))) has)
  refused_end (course.stored {grip} {file} {pass} (course.interrupted turns.refused)) has = subst (λ c. RefusedEnd request IsNonce c (stored_events grip file pass)) (cc (only_first _ (refl, tt) (not_first refl has))) at_store
  refused_end (course.stored (course.interrupted turns.stopping)) has = absurd (none_refuses _ (refl, (refl, (refl, tt))) has)
  refused_end (course.stored (course.interrupted turns.late)) has = absurd (none_refuses _ (refl, (refl, (refl, tt))) has)
  refused_end (course.cleared (course.settled ok) back) has = absurd (none_refuses _ (refl, (refl, back_goes back)) has)
  refused_end (course.cleared {grip} {ending} (course.interrupted turns.refused) back) has =
      subst (λ c. RefusedEnd request IsNonce c (cleared_events grip ending)) (cc (only_first _ (back_goes back) (not_first refl has))) (at_clear back)
  refused_end (course.cleared (course.interrupted turns.stopping) back) has = absurd (none_refuses _ (refl, (refl, back_goes back)) has)
  refused_end (course.cleared (course.interrupted turns.late) back) has = absurd (none_refuses _ (refl, (refl, back_goes back)) has)

  in_last : {why : Code} (work : List (EventWith PortCall)) {last : List (EventWith PortCall)} → AreWork request IsNonce work → HasRefusal why (work ++ last) → HasRefusal why last
  in_last work each (has_refusal event is has) = elim (has_split work _ has) [
    | inl first ↦ absurd (cc (is, (each_has (IsWork request IsNonce) work each first).1))
    | inr behind ↦ has_refusal event is behind
  ]

pub refused_course : (request : Request) {events : List (EventWith PortCall)} {why : Code} → Course request events → HasRefusal why events → RefusedCourse request why events
refused_course request {events} {why} goes has = record {
  work = goes.work;
  last = goes.last;
  is = goes.is;
  each = goes.each;
  end = refused_end request (IsNonceOf events) goes.end (in_last request (IsNonceOf events) goes.work goes.each (subst (HasRefusal why) goes.is has));
}
