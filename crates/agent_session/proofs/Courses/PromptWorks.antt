-- Prompts in which each event goes on, but one by which the request is refused or its client is gone, which is the last before the prompter is shut.
use Rattle.std.{specs.{List.AllByRecursion, Option.option_map}, proofs.Common.{◌≡◌, ◌≢◌, ℕ, zero, suc, List, [], ◌∙◌, ◌∷◌, ◌++◌, Option, Some, None, Result, Ok, Err, refl, sym, ap, subst, append_assoc}}
use Rattle.agent_ask.specs.{Callers.{SaysNote, unheard_of}, ConsentActions.{AgreesTo, consent_refusal}, PinActions.{PromptsFor, IsAnyGiven, pin_refusal, prompted}, Consents.{AsksConsent, ConsentBefore, agreed_of}}
use Rattle.agent_ask.specs.{Events.{Call, Start, Confirm, Shut, PromptEvent, Called, Notified, OutOfMemory}, Session.{PortCalls.Prompt, SessionEvents.Port}, Prompts.{AsksPin, AsksBefore, Tries, repeated}, SessionPrompts.AnyInSession}
use Rattle.{agent_ask.specs.declared.{prompt.{ask.Asked.Asked, consent.Agreed.Agreed, prompter.Consent.Consent, spec.{AskPlan.AskPlan, PromptSpec.PromptSpec}}, client.caller.Heard.Heard}, assuan_server.specs.Clients.session_lines}
use Rattle.{session_client.specs.{Asking.{said_by, without_data}, declared.{code.Code.Code, refusal.Refusal.{Refusal, TheVariants.{Agent, Client}}, client_error.ClientError.ClientError}}, session_options.specs.OptionValues.OptionValues}
use Rattle.{session_options.specs.declared.rules.Rules.Rules, key_commands.{specs.Events.Event, proofs.EachEvent.each_append}}
use Rattle.agent_session.{specs.Refusals.call_refuses, proofs.Courses.Works.{unsaid, GoesOn, refused, lost, WorksTo, works, WorksSo}}
use Rattle.agent_ask.specs.ConsentActions as consenting
use Rattle.agent_ask.specs.Consents as consents
use Rattle.agent_ask.specs.Prompts as prompts
use Rattle.agent_ask.specs.SessionPrompts as session
use Rattle.agent_ask.specs.declared.prompt.ask.Asked.TheVariants as asked
use Rattle.agent_ask.specs.declared.client.caller.Heard.TheVariants as heard_as
use Rattle.agent_ask.specs.declared.prompt.consent.Agreed.TheVariants as agreed
use Rattle.agent_ask.specs.declared.prompt.prompter.Consent.TheVariants as consent
use Rattle.agent_ask.specs.declared.prompt.prompter.Opened.TheVariants as opened
use Rattle.agent_ask.specs.declared.prompt.prompter.Outcome.TheVariants as outcome
use Rattle.session_client.specs.declared.code.Code.TheVariants as code

-- ---- single events

-- what the client said ends its prompt
abbrev pub heard_stop : Heard → Option Refusal
heard_stop heard = option_map Client (unheard_of heard)

-- how an event of a prompt ends it, where it refuses the request or by it the client is gone
abbrev pub prompt_stops : PromptEvent → Option Refusal
prompt_stops (Called call) = option_map Agent (call_refuses call)
prompt_stops (Notified pid heard) = heard_stop heard
prompt_stops OutOfMemory = Some (Agent code.NoMemory)

abbrev Goes : PromptEvent → Type 0
Goes event = prompt_stops event ≡ None

-- how the request is refused by a prompt that ended so
abbrev pub pin_stop : Asked → Option Refusal
pin_stop asked.NoPinentry = Some (Agent code.NoPinentry)
pin_stop asked.NoMemory = Some (Agent code.NoMemory)
pin_stop (asked.Heard heard) = heard_stop heard
pin_stop _ = None

abbrev pub consent_stop : Agreed → Option Refusal
consent_stop agreed.NoPinentry = Some (Agent code.NoPinentry)
consent_stop (agreed.Heard heard) = heard_stop heard
consent_stop _ = None

-- ---- prompts

-- a prompt's events, and how one of them ended it
data GoesOrStops : List PromptEvent → Option Refusal → Type 0 where
  goes : {events : List PromptEvent} {stop : Option Refusal} → AllByRecursion Goes events → GoesOrStops events stop
  stops : {why : Refusal} (work : List PromptEvent) (event : PromptEvent) → AllByRecursion Goes work → prompt_stops event ≡ Some why → GoesOrStops (work ++ event ∷ []) (Some why)

after_these : {events : List PromptEvent} {stop : Option Refusal} (first : List PromptEvent) → AllByRecursion Goes first → GoesOrStops events stop → GoesOrStops (first ++ events) stop
after_these first each (goes {events} more) = goes (each_append Goes first events each more)
after_these first each (stops {why} work event more is) = subst (λ e. GoesOrStops e (Some why)) (append_assoc first work (event ∷ [])) (stops (first ++ work) event (each_append Goes first work each more) is)

repeats_go : (count : ℕ) (pin : List ℕ) → AllByRecursion Goes (repeated count pin)
repeats_go zero pin = tt
repeats_go (suc count) pin = (refl, repeats_go count pin)

-- a prompt that ended by this answer
stopped_without_pinentry : {end : Asked} (work : List PromptEvent) (event : PromptEvent) → AllByRecursion Goes work → prompt_stops event ≡ Some (Agent code.NoPinentry) → asked.NoPinentry ≡ end
    → GoesOrStops (work ++ event ∷ []) (pin_stop end)
stopped_without_pinentry work event each is same = subst (λ a. GoesOrStops (work ++ event ∷ []) (pin_stop a)) same (stops work event each is)

tries_go : {plan : AskPlan} {Rule : List ℕ → Type 0} {number : ℕ} {before : _} {events : List PromptEvent} {tests : _} {end : Asked} → Tries plan Rule number before events tests end
    → GoesOrStops events (pin_stop end)
tries_go {plan} (prompts.good within (prompts.accepted {pin} meets right prompts.same)) = goes (refl, repeats_go plan.repeat pin)
tries_go (prompts.over within (prompts.ended (outcome.Pin pin) is)) = goes (refl, tt)
tries_go (prompts.over within (prompts.ended outcome.Cancelled is)) = goes (refl, tt)
tries_go (prompts.over within (prompts.ended outcome.TimedOut is)) = goes (refl, tt)
tries_go (prompts.over within (prompts.ended outcome.Failed is)) = stopped_without_pinentry [] _ tt refl (cc is)
tries_go (prompts.over within (prompts.ended (outcome.Broken breach) is)) = stopped_without_pinentry [] _ tt refl (cc is)
tries_go (prompts.over within (prompts.untested {pin} meets)) = stops (_ ∷ []) _ (refl, tt) refl
tries_go (prompts.over within (prompts.accepted {pin} meets right (prompts.ended {before} (outcome.Pin other) less is))) = goes (refl, each_append Goes (repeated before pin) _ (repeats_go before pin) (refl, tt))
tries_go (prompts.over within (prompts.accepted {pin} meets right (prompts.ended {before} outcome.Cancelled less is))) = goes (refl, each_append Goes (repeated before pin) _ (repeats_go before pin) (refl, tt))
tries_go (prompts.over within (prompts.accepted {pin} meets right (prompts.ended {before} outcome.TimedOut less is))) = goes (refl, each_append Goes (repeated before pin) _ (repeats_go before pin) (refl, tt))
tries_go (prompts.over within (prompts.accepted {pin} meets right (prompts.ended {before} outcome.Failed less is))) = stopped_without_pinentry (_ ∷ repeated before pin) _ (refl, repeats_go before pin) refl (cc is)
tries_go (prompts.over within (prompts.accepted {pin} meets right (prompts.ended {before} (outcome.Broken breach) less is))) = stopped_without_pinentry (_ ∷ repeated before pin) _ (refl, repeats_go before pin) refl (cc is)
tries_go (prompts.again within (prompts.ended (outcome.Pin pin) is) more) = absurd (cc is)
tries_go (prompts.again within (prompts.ended outcome.Cancelled is) more) = absurd (cc is)
tries_go (prompts.again within (prompts.ended outcome.TimedOut is) more) = absurd (cc is)
tries_go (prompts.again within (prompts.ended outcome.Failed is) more) = absurd (cc is)
tries_go (prompts.again within (prompts.ended (outcome.Broken breach) is) more) = absurd (cc is)
tries_go (prompts.again within (prompts.weak fails) more) = after_these (_ ∷ []) (refl, tt) (tries_go more)
tries_go (prompts.again within (prompts.bad meets fails) more) = after_these (_ ∷ []) (refl, tt) (tries_go more)
tries_go (prompts.again {events} within (prompts.accepted {pin} meets right (prompts.differs {before} less other)) more) =
    after_these events (refl, each_append Goes (repeated before pin) _ (repeats_go before pin) (refl, tt)) (tries_go more)
tries_go (prompts.again within (prompts.accepted meets right (prompts.ended (outcome.Pin pin) less is)) more) = absurd (cc is)
tries_go (prompts.again within (prompts.accepted meets right (prompts.ended outcome.Cancelled less is)) more) = absurd (cc is)
tries_go (prompts.again within (prompts.accepted meets right (prompts.ended outcome.TimedOut less is)) more) = absurd (cc is)
tries_go (prompts.again within (prompts.accepted meets right (prompts.ended outcome.Failed less is)) more) = absurd (cc is)
tries_go (prompts.again within (prompts.accepted meets right (prompts.ended (outcome.Broken breach) less is)) more) = absurd (cc is)
tries_go (prompts.bad past) = goes tt

unheard_goes : {spec : PromptSpec} {pid : ℕ} (heard : Heard) → heard ≢ heard_as.Fine → GoesOrStops (Called (Start spec (opened.Pid pid)) ∷ Notified pid heard ∷ []) (heard_stop heard)
unheard_goes heard_as.Fine other = absurd (other refl)
unheard_goes (heard_as.Secret secret) other = goes (refl, (refl, tt))
unheard_goes heard_as.Cancelled other = stops (_ ∷ []) _ (refl, tt) refl
unheard_goes heard_as.TooMuch other = stops (_ ∷ []) _ (refl, tt) refl
unheard_goes heard_as.Unexpected other = stops (_ ∷ []) _ (refl, tt) refl
unheard_goes (heard_as.Gone how) other = stops (_ ∷ []) _ (refl, tt) refl

before_goes : {spec : PromptSpec} {plan : AskPlan} {Rule : List ℕ → Type 0} {events : List PromptEvent} {tests : _} {end : Asked} → AsksBefore spec plan Rule events tests end
    → GoesOrStops events (pin_stop end)
before_goes (prompts.unopened prompts.failed) = stops [] _ tt refl
before_goes (prompts.unopened prompts.broken) = stops [] _ tt refl
before_goes (prompts.client_error other (prompts.quiet is)) = absurd (other refl)
before_goes (prompts.client_error other (prompts.told {heard} is)) = unheard_goes heard other
before_goes (prompts.tried (prompts.quiet is) tries) = after_these (_ ∷ []) (refl, tt) (tries_go tries)
before_goes (prompts.tried (prompts.told is) tries) = after_these (_ ∷ _ ∷ []) (refl, (refl, tt)) (tries_go tries)

confirmation_goes_or_stops : (consent : Consent) → GoesOrStops (Called (Confirm consent) ∷ []) (consent_stop (agreed_of consent))
confirmation_goes_or_stops consent.Yes = goes (refl, tt)
confirmation_goes_or_stops consent.No = goes (refl, tt)
confirmation_goes_or_stops consent.Cancelled = goes (refl, tt)
confirmation_goes_or_stops consent.TimedOut = goes (refl, tt)
confirmation_goes_or_stops consent.Failed = stops [] _ tt refl
confirmation_goes_or_stops (consent.Broken breach) = stops [] _ tt refl

consent_goes : {spec : PromptSpec} {notify : _} {events : List PromptEvent} {end : Agreed} → ConsentBefore spec notify events end → GoesOrStops events (consent_stop end)
consent_goes (consents.unopened prompts.failed) = stops [] _ tt refl
consent_goes (consents.unopened prompts.broken) = stops [] _ tt refl
consent_goes (consents.client_error other (prompts.quiet is)) = absurd (other refl)
consent_goes (consents.client_error other (prompts.told {heard} is)) = unheard_goes heard other
consent_goes (consents.asked consent (prompts.quiet is)) = after_these (_ ∷ []) (refl, tt) (confirmation_goes_or_stops consent)
consent_goes (consents.asked consent (prompts.told is)) = after_these (_ ∷ _ ∷ []) (refl, (refl, tt)) (confirmation_goes_or_stops consent)

-- ---- in the session

-- what the client says by a note
note_heard : (result : Result (List ℕ) ClientError) (heard : Heard) → SaysNote (without_data result) heard → heard_stop heard ≡ None → unsaid result ≡ None
note_heard (Ok bytes) heard says goes_on = refl
note_heard (Err why) heard says goes_on = let both : Some (Client why) ≡ None = sym (ap (option_map Client) says) ∙ goes_on in absurd (cc both)

note_lost : (result : Result (List ℕ) ClientError) (heard : Heard) {why : ClientError} → SaysNote (without_data result) heard → unheard_of heard ≡ Some why → unsaid result ≡ Some why
note_lost (Ok bytes) heard says is = let none : None ≡ Some _ = sym (ap unheard_of says) ∙ is in absurd (cc none)
note_lost (Err other) heard says is = sym says ∙ is

none_refused : (code : Option Code) → option_map Agent code ≡ None → code ≡ None
none_refused None is = refl
none_refused (Some why) is = absurd (cc is)

-- what a request comes to by a prompt that was ended so, or by none of its events
abbrev pub ComesBy : {A : Type 0} → Option Refusal → Result A Refusal → Type 0
ComesBy stop (Ok value) = stop ≡ None
ComesBy stop (Err why) = (other : Refusal) → stop ≡ Some other → other ≡ why

refused_so : {A : Type 0} {stop : Refusal} (result : Result A Refusal) → ComesBy (Some stop) result → Err stop ≡ result
refused_so (Ok value) by = absurd (cc by)
refused_so (Err why) by = ap (λ r. Err r) (by _ refl)

-- a prompt that gave nothing refuses its request by what ended it
pub pin_comes : (answer : Asked) {why : Refusal} → pin_refusal answer ≡ Some why → (other : Refusal) → pin_stop answer ≡ Some other → other ≡ why
pin_comes (asked.Pin pin) refusal other is = absurd (cc is)
pin_comes asked.Cancelled refusal other is = absurd (cc is)
pin_comes asked.TimedOut refusal other is = absurd (cc is)
pin_comes asked.Bad refusal other is = absurd (cc is)
pin_comes (asked.Heard heard) refusal other is = cc (refusal, is)
pin_comes asked.NoPinentry refusal other is = cc (refusal, is)
pin_comes asked.NoMemory refusal other is = cc (refusal, is)

pub any_comes : (answer : Asked) (result : Result (List ℕ) Refusal) → IsAnyGiven answer result → ComesBy (pin_stop answer) result
any_comes answer (Ok pin) gives = ap pin_stop gives.1
any_comes answer (Err why) gives = pin_comes answer gives.1

pub consent_comes : (answer : Agreed) {why : Refusal} → consent_refusal answer ≡ Some why → (other : Refusal) → consent_stop answer ≡ Some other → other ≡ why
consent_comes agreed.Yes refusal other is = absurd (cc is)
consent_comes agreed.No refusal other is = absurd (cc is)
consent_comes agreed.Cancelled refusal other is = absurd (cc is)
consent_comes agreed.TimedOut refusal other is = absurd (cc is)
consent_comes (agreed.Heard heard) refusal other is = cc (refusal, is)
consent_comes agreed.NoPinentry refusal other is = cc (refusal, is)

module _ (Fits : Event → Type 0) (calls : (event : PromptEvent) → Fits (Port (Prompt event))) (notes : (pid : ℕ) (inquired : _) → Fits (session.note pid inquired)) where
  data Split (rest : List PromptEvent) : List Event → Type 0 where
    split : {more : List Event} (work : List Event) → AllByRecursion (GoesOn Fits) work → AnyInSession session_lines rest more → Split rest (work ++ more)

  split_later : {rest : List PromptEvent} {shown : List Event} (event : Event) → GoesOn Fits event → Split rest shown → Split rest (event ∷ shown)
  split_later event is (split work each more) = split (event ∷ work) (is, each) more

  split_shown : (work rest : List PromptEvent) {shown : List Event} → AllByRecursion Goes work → AnyInSession session_lines (work ++ rest) shown → Split rest shown
  split_shown [] rest each in_session = split [] tt in_session
  split_shown (Called call ∷ work) rest each (session.called more) = split_later _ (calls _, none_refused (call_refuses call) each.0, refl) (split_shown work rest each.1 more)
  split_shown (Notified pid heard ∷ work) rest each (session.noted {inquired} says more) =
      split_later _ (notes _ inquired, refl, note_heard (said_by session_lines inquired) heard says each.0) (split_shown work rest each.1 more)
  split_shown (OutOfMemory ∷ work) rest each (session.out_of_memory more) = absurd (cc (each.0))

  shut_goes : GoesOn Fits (Port (Prompt (Called Shut)))
  shut_goes = (calls _, refl, refl)

  module _ {A : Type 0} where
    shut_works : {result : Result A Refusal} {shown : List Event} → Split (Called Shut ∷ []) shown → WorksTo Fits shown result
    shut_works (split work each (session.called session.none)) = works Fits (each_append (GoesOn Fits) work _ each (shut_goes, tt))

    call_works : (call : Call) (work : List Event) {why : Refusal} (stop : Option Code) → call_refuses call ≡ stop → option_map Agent stop ≡ Some why → AllByRecursion (GoesOn Fits) work
        → WorksTo Fits {A = A} (work ++ Port (Prompt (Called call)) ∷ Port (Prompt (Called Shut)) ∷ []) (Err why)
    call_works call work None same is each = absurd (cc is)
    call_works call work (Some given) same is each =
        let why_is : Agent given ≡ _ = cc is in
        subst (λ w. WorksTo Fits {A = A} (work ++ Port (Prompt (Called call)) ∷ Port (Prompt (Called Shut)) ∷ []) (Err w)) why_is
        (record { work = work; last = _; is = refl; each = each; end = refused (calls _) same })

    note_works : (pid : ℕ) (inquired : _) (work : List Event) (heard : Heard) {why : Refusal} (said : Option ClientError) → SaysNote (without_data (said_by session_lines inquired)) heard → unheard_of heard ≡ said
        → option_map Client said ≡ Some why → AllByRecursion (GoesOn Fits) work → WorksTo Fits {A = A} (work ++ session.note pid inquired ∷ Port (Prompt (Called Shut)) ∷ []) (Err why)
    note_works pid inquired work heard None says same is each = absurd (cc is)
    note_works pid inquired work heard (Some given) says same is each =
        let why_is : Client given ≡ _ = cc is in
        subst (λ w. WorksTo Fits {A = A} (work ++ session.note pid inquired ∷ Port (Prompt (Called Shut)) ∷ []) (Err w)) why_is
        (record { work = work; last = _; is = refl; each = each; end = lost (notes _ inquired) (note_lost (said_by session_lines inquired) heard says same) (shut_goes, tt) })

    stop_works : (event : PromptEvent) {why : Refusal} {shown : List Event} → prompt_stops event ≡ Some why → Split (event ∷ Called Shut ∷ []) shown → WorksTo Fits {A = A} shown (Err why)
    stop_works OutOfMemory is (split work each (session.out_of_memory (session.called session.none))) =
        let why_is : Agent code.NoMemory ≡ _ = cc is in
        subst (λ w. WorksTo Fits {A = A} (work ++ Port (Prompt OutOfMemory) ∷ Port (Prompt (Called Shut)) ∷ []) (Err w)) why_is
        (record { work = work; last = _; is = refl; each = each; end = refused {why = code.NoMemory} (calls _) refl })
    stop_works (Called call) is (split work each (session.called (session.called session.none))) = call_works call work (call_refuses call) refl is each
    stop_works (Notified pid heard) is (split work each (session.noted {inquired} says (session.called session.none))) = note_works pid inquired work heard (unheard_of heard) says refl is each

    prompt_works : {events : List PromptEvent} {stop : Option Refusal} {result : Result A Refusal} {shown : List Event} → GoesOrStops events stop → ComesBy stop result
        → AnyInSession session_lines (events ++ Called Shut ∷ []) shown → WorksTo Fits shown result
    prompt_works (goes {events} each) by in_session = shut_works (split_shown events (Called Shut ∷ []) each in_session)
    prompt_works {result} {shown} (stops work event each is) by in_session =
        subst (λ r. WorksTo Fits shown r) (refused_so result by)
        (stop_works event is (split_shown work (event ∷ Called Shut ∷ []) each (subst (λ p. AnyInSession session_lines p shown) (append_assoc work (event ∷ []) (Called Shut ∷ [])) in_session)))

    pin_works : {spec : PromptSpec} {plan : AskPlan} {Rule : List ℕ → Type 0} {prompt : List PromptEvent} {end : Asked} {result : Result A Refusal} {shown : List Event} → AsksPin spec plan Rule prompt end
        → ComesBy (pin_stop end) result → AnyInSession session_lines prompt shown → WorksTo Fits shown result
    pin_works {shown} asks by in_session = prompt_works (before_goes asks.asks) by (subst (λ p. AnyInSession session_lines p shown) asks.whole in_session)

    pub consent_works : {spec : PromptSpec} {notify : _} {prompt : List PromptEvent} {end : Agreed} {result : Result A Refusal} {shown : List Event} → AsksConsent spec notify prompt end
        → ComesBy (consent_stop end) result → AnyInSession session_lines prompt shown → WorksTo Fits shown result
    consent_works {shown} asks by in_session = prompt_works (consent_goes asks.asks) by (subst (λ p. AnyInSession session_lines p shown) asks.whole in_session)

  -- ---- passphrases and consent

  module _ {A : Type 0} {rules : Rules} {options : OptionValues} {description field : _} {quality : _} {plan : _} {Rule : _} {Gives : Asked → Result A Refusal → Type 0}
      (comes : (answer : Asked) (result : Result A Refusal) → Gives answer result → ComesBy (pin_stop answer) result) where
    prompts_of : (before : Option ℕ) (events : List Event) (result : Result A Refusal) (after : Option ℕ)
        → PromptsFor session_lines rules options description field quality plan Rule Gives before events result after → WorksTo Fits events result
    prompts_of _ _ result _ (prompted {answer} spec is prompt gives) = pin_works prompt.asks (comes answer result gives) prompt.in_session

    pub prompts_for : WorksSo Fits (PromptsFor session_lines rules options description field quality plan Rule Gives)
    prompts_for = record { of = prompts_of }

  agrees_of : {rules : Rules} {options : OptionValues} {question : List ℕ} (before : Option ℕ) (events : List Event) (result : Result (Unit {0}) Refusal) (after : Option ℕ)
      → AgreesTo session_lines rules options question before events result after → WorksTo Fits events result
  agrees_of _ _ _ _ (consenting.consents spec is prompt) = consent_works prompt.asks refl prompt.in_session
  agrees_of _ _ _ _ (consenting.refused {answer} spec is prompt refusal) = consent_works prompt.asks (consent_comes answer refusal) prompt.in_session

  pub agrees_to : (rules : Rules) (options : OptionValues) (question : List ℕ) → WorksSo Fits (AgreesTo session_lines rules options question)
  agrees_to rules options question = record { of = agrees_of }
