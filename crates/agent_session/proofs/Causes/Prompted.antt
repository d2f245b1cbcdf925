-- What the events of a prompt say of its answer.
use Rattle.std.{proofs.Common.{◌≡◌, ◌⊎◌, ℕ, Bool, true, List, ◌∷◌, Some, Result, Ok, Err, refl, sym, subst, inl, inr}, specs.Prelude.⊤}
use Rattle.agent_ask.specs.{Callers.{SaysNote, unheard_of}, Consents.{AsksConsent, ConsentBefore, agreed_of}, Events.{Call, GetPin, Confirm, Called, Notified, OutOfMemory, PromptEvent}, Session.PortCalls.{PortCall, Prompt}, Prompters.is_failed}
use Rattle.agent_ask.specs.{Prompts.{AsksPin, AsksBefore, Tries, repeated, repeat_text}, Session.SessionEvents.Port, Tests.PinTest, SessionPrompts.{AnyInSession, note}, declared.{prompt.{ask.Asked.Asked, consent.Agreed.Agreed}, client.caller.Heard.Heard}}
use Rattle.{agent_ask.specs.{declared.prompt.{prompter.Consent.Consent, spec.{AskPlan.AskPlan, PromptSpec.PromptSpec}}, PinActions.PromptsPin}, assuan_server.specs.Clients.session_lines, session_client.specs.Asking.{said_by, without_data}}
use Rattle.{session_client.specs.declared.client_error.ClientError.ClientError, agent_commands.specs.Events.{EventWith, Inquired}}
use Rattle.agent_session.{specs.Causes.{Has, here, later, HasPrompt, StandIn, is_cancelled, is_timed_out, is_disagreed, is_broken}, proofs.Standing.{has_left, has_right}}
use Rattle.agent_ask.specs.Consents as consents
use Rattle.agent_ask.specs.Prompts as prompts
use Rattle.agent_ask.specs.SessionPrompts as session
use Rattle.agent_ask.specs.declared.prompt.ask.Asked.TheVariants as asked
use Rattle.agent_ask.specs.declared.prompt.consent.Agreed.TheVariants as agreed
use Rattle.agent_ask.specs.declared.prompt.prompter.Consent.TheVariants as consent
use Rattle.agent_ask.specs.declared.prompt.prompter.Outcome.TheVariants as outcome

-- it is among the events of its request
pub has_prompt : {spec : PromptSpec} {plan : AskPlan} {Rule : List ℕ → Type 0} {shown whole : List (EventWith PortCall)} {answer : Asked} → PromptsPin session_lines spec plan Rule shown answer → StandIn shown whole
    → HasPrompt whole plan Rule answer
has_prompt {spec} {shown} prompts_so stands = record { spec = spec; prompt = prompts_so.prompt; shown = shown; asks = prompts_so.asks; in_session = prompts_so.in_session; stands = stands }

-- a call was answered so
pub data HasCalled (is : Call → Bool) (events : List PromptEvent) : Type 0 where
  called : (call : Call) → is call ≡ true → Has (Called call) events → HasCalled is events

-- the client was heard to say this
pub data HasHeard (heard : Heard) (events : List PromptEvent) : Type 0 where
  noted : (pid : ℕ) → Has (Notified pid heard) events → HasHeard heard events

abbrev pub Unopened : List PromptEvent → Type 0
Unopened events = HasCalled is_failed events ⊎ HasCalled is_broken events

-- what the events show of a prompt that came to this
abbrev pub PinShows : Asked → List PromptEvent → Type 0
PinShows (asked.Pin pin) events = ⊤
PinShows asked.Cancelled events = HasCalled is_cancelled events
PinShows asked.TimedOut events = HasCalled is_timed_out events
PinShows asked.NoPinentry events = Unopened events
PinShows asked.Bad events = ⊤
PinShows asked.NoMemory events = Has OutOfMemory events
PinShows (asked.Heard heard) events = HasHeard heard events

abbrev pub ConsentShows : Agreed → List PromptEvent → Type 0
ConsentShows agreed.Yes events = ⊤
ConsentShows agreed.No events = HasCalled is_disagreed events
ConsentShows agreed.Cancelled events = HasCalled is_cancelled events
ConsentShows agreed.TimedOut events = HasCalled is_timed_out events
ConsentShows agreed.NoPinentry events = Unopened events
ConsentShows (agreed.Heard heard) events = HasHeard heard events

-- among more events too
module _ {events more : List PromptEvent} (moves : (event : PromptEvent) → Has event events → Has event more) where
  called_more : {is : Call → Bool} → HasCalled is events → HasCalled is more
  called_more (called call so has) = called call so (moves (Called call) has)

  unopened_more : Unopened events → Unopened more
  unopened_more (inl failed) = inl (called_more failed)
  unopened_more (inr broken) = inr (called_more broken)

  heard_more : {heard : Heard} → HasHeard heard events → HasHeard heard more
  heard_more {heard} (noted pid has) = noted pid (moves (Notified pid heard) has)

  pin_more : (end : Asked) → PinShows end events → PinShows end more
  pin_more (asked.Pin pin) shows = tt
  pin_more asked.Cancelled shows = called_more shows
  pin_more asked.TimedOut shows = called_more shows
  pin_more asked.NoPinentry shows = unopened_more shows
  pin_more asked.Bad shows = tt
  pin_more asked.NoMemory shows = moves OutOfMemory shows
  pin_more (asked.Heard heard) shows = heard_more shows

  consent_more : (end : Agreed) → ConsentShows end events → ConsentShows end more
  consent_more agreed.Yes shows = tt
  consent_more agreed.No shows = called_more shows
  consent_more agreed.Cancelled shows = called_more shows
  consent_more agreed.TimedOut shows = called_more shows
  consent_more agreed.NoPinentry shows = unopened_more shows
  consent_more (agreed.Heard heard) shows = heard_more shows

-- what a question came to that ended the prompt
module _ (error : List ℕ) {events : List PromptEvent} where
  pin_cancelled : {end : Asked} → asked.Cancelled ≡ end → Has (Called (GetPin error outcome.Cancelled)) events → PinShows end events
  pin_cancelled same has = subst (λ e. PinShows e events) same (called (GetPin error outcome.Cancelled) refl has)

  pin_timed_out : {end : Asked} → asked.TimedOut ≡ end → Has (Called (GetPin error outcome.TimedOut)) events → PinShows end events
  pin_timed_out same has = subst (λ e. PinShows e events) same (called (GetPin error outcome.TimedOut) refl has)

  pin_failed : {end : Asked} → asked.NoPinentry ≡ end → Has (Called (GetPin error outcome.Failed)) events → PinShows end events
  pin_failed same has = subst (λ e. PinShows e events) same (inl (called (GetPin error outcome.Failed) refl has))

  pin_broken : {breach : _} {end : Asked} → asked.NoPinentry ≡ end → Has (Called (GetPin error (outcome.Broken breach))) events → PinShows end events
  pin_broken {breach} same has = subst (λ e. PinShows e events) same (inr (called (GetPin error (outcome.Broken breach)) refl has))

tries_show : {plan : AskPlan} {Rule : List ℕ → Type 0} {number : ℕ} {before : _} {events : List PromptEvent} {tests : List PinTest} {end : Asked}
    → Tries plan Rule number before events tests end → PinShows end events
tries_show (prompts.good within try) = tt
tries_show (prompts.over within (prompts.ended (outcome.Pin pin) is)) = absurd (cc is)
tries_show (prompts.over within (prompts.ended outcome.Cancelled is)) = pin_cancelled _ (cc is) here
tries_show (prompts.over within (prompts.ended outcome.TimedOut is)) = pin_timed_out _ (cc is) here
tries_show (prompts.over within (prompts.ended outcome.Failed is)) = pin_failed _ (cc is) here
tries_show (prompts.over within (prompts.ended (outcome.Broken breach) is)) = pin_broken _ (cc is) here
tries_show (prompts.over within (prompts.untested meets)) = later here
tries_show (prompts.over within (prompts.accepted {pin} meets right (prompts.ended (outcome.Pin other) less is))) = absurd (cc is)
tries_show (prompts.over within (prompts.accepted {pin} meets right (prompts.ended {before} outcome.Cancelled less is))) = pin_cancelled repeat_text (cc is) (later (has_right (repeated before pin) here))
tries_show (prompts.over within (prompts.accepted {pin} meets right (prompts.ended {before} outcome.TimedOut less is))) = pin_timed_out repeat_text (cc is) (later (has_right (repeated before pin) here))
tries_show (prompts.over within (prompts.accepted {pin} meets right (prompts.ended {before} outcome.Failed less is))) = pin_failed repeat_text (cc is) (later (has_right (repeated before pin) here))
tries_show (prompts.over within (prompts.accepted {pin} meets right (prompts.ended {before} (outcome.Broken breach) less is))) = pin_broken repeat_text (cc is) (later (has_right (repeated before pin) here))
tries_show {end} (prompts.again {events} within try more) = pin_more (λ event has. has_right events has) end (tries_show more)
tries_show (prompts.bad past) = tt

before_shows : {spec : PromptSpec} {plan : AskPlan} {Rule : List ℕ → Type 0} {events : List PromptEvent} {tests : List PinTest} {end : Asked}
    → AsksBefore spec plan Rule events tests end → PinShows end events
before_shows (prompts.unopened prompts.failed) = inl (called _ refl here)
before_shows (prompts.unopened prompts.broken) = inr (called _ refl here)
before_shows (prompts.client_error other (prompts.quiet is)) = absurd (other refl)
before_shows (prompts.client_error other (prompts.told {pid} notify)) = noted pid (later here)
before_shows {end} (prompts.tried {events} opens tries) = pin_more (λ event has. has_right events has) end (tries_show tries)

pub pin_shows : {spec : PromptSpec} {plan : AskPlan} {Rule : List ℕ → Type 0} {events : List PromptEvent} {end : Asked} → AsksPin spec plan Rule events end → PinShows end events
pin_shows {events} {end} asks = subst (λ e. PinShows end e) (sym asks.whole) (pin_more (λ event has. has_left _ has) end (before_shows asks.asks))

consent_of_shows : (consent : Consent) {events : List PromptEvent} → Has (Called (Confirm consent)) events → ConsentShows (agreed_of consent) events
consent_of_shows consent.Yes has = tt
consent_of_shows consent.No has = called (Confirm consent.No) refl has
consent_of_shows consent.Cancelled has = called (Confirm consent.Cancelled) refl has
consent_of_shows consent.TimedOut has = called (Confirm consent.TimedOut) refl has
consent_of_shows consent.Failed has = inl (called (Confirm consent.Failed) refl has)
consent_of_shows (consent.Broken breach) has = inr (called (Confirm (consent.Broken breach)) refl has)

consent_before_shows : {spec : PromptSpec} {notify : Bool} {events : List PromptEvent} {end : Agreed} → ConsentBefore spec notify events end → ConsentShows end events
consent_before_shows (consents.unopened prompts.failed) = inl (called _ refl here)
consent_before_shows (consents.unopened prompts.broken) = inr (called _ refl here)
consent_before_shows (consents.client_error other (prompts.quiet is)) = absurd (other refl)
consent_before_shows (consents.client_error other (prompts.told {pid} notify)) = noted pid (later here)
consent_before_shows (consents.asked {events} consent opens) = consent_of_shows consent (has_right events here)

pub consent_shows : {spec : PromptSpec} {notify : Bool} {events : List PromptEvent} {end : Agreed} → AsksConsent spec notify events end → ConsentShows end events
consent_shows {events} {end} asks = subst (λ e. ConsentShows end e) (sym asks.whole) (consent_more (λ event has. has_left _ has) end (consent_before_shows asks.asks))

-- ---- in the session

-- an event of the prompt among those of the session
abbrev pub ShownAs : PromptEvent → List (EventWith PortCall) → Type 0
ShownAs (Called call) shown = Has (Port (Prompt (Called call))) shown
ShownAs (Notified pid heard) shown = (inquired : Inquired) × SaysNote (without_data (said_by session_lines inquired)) heard × Has (note pid inquired) shown
ShownAs OutOfMemory shown = Has (Port (Prompt OutOfMemory)) shown

module _ (first : EventWith PortCall) (shown : List (EventWith PortCall)) where
  shown_later : (event : PromptEvent) → ShownAs event shown → ShownAs event (first ∷ shown)
  shown_later (Called call) shows = later shows
  shown_later (Notified pid heard) shows = (shows.0, shows.1, later shows.2)
  shown_later OutOfMemory shows = later shows

pub shown_as : (event : PromptEvent) {prompt : List PromptEvent} {shown : List (EventWith PortCall)} → AnyInSession session_lines prompt shown → Has event prompt → ShownAs event shown
shown_as event session.none has = elim has [ ]
shown_as event (session.called more) here = here
shown_as event (session.called more) (later has) = shown_later _ _ event (shown_as event more has)
shown_as event (session.noted {inquired} says more) here = (inquired, says, here)
shown_as event (session.noted says more) (later has) = shown_later _ _ event (shown_as event more has)
shown_as event (session.out_of_memory more) here = here
shown_as event (session.out_of_memory more) (later has) = shown_later _ _ event (shown_as event more has)

note_says_of : (result : Result (List ℕ) ClientError) (heard : Heard) (why : ClientError) → SaysNote (without_data result) heard → unheard_of heard ≡ Some why → result ≡ Err why
note_says_of (Ok bytes) heard why says is = absurd (cc (rw says at is))
note_says_of (Err other) heard why says is = cc

-- the client said by the note why it was unheard
pub note_says : (inquired : Inquired) (heard : Heard) (why : ClientError) → SaysNote (without_data (said_by session_lines inquired)) heard → unheard_of heard ≡ Some why
    → said_by session_lines inquired ≡ Err why
note_says inquired heard why says is = note_says_of (said_by session_lines inquired) heard why says is
