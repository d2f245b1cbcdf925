-- What a session does for a request on the trust list has one answer, and each error line in it its cause.
use Rattle.std.specs.{List.AllByRecursion, Option.option_map, Prelude.{⊤, IfSome}}
use Rattle.std.proofs.Common.{◌≡◌, ◌<◌, ℕ, Bool, true, false, List, [], ◌∷◌, ◌++◌, length, Option, Some, None, Result, Ok, Err, refl, sym, ap, subst, append_assoc, inl, inr}
use Rattle.agent_ask.specs.{Callers.unheard_of, Events.PromptEvent, Session.{PortCalls.NoMemory, SessionEvents.{Port, cache_turn, said_last}, TrustCalls.{Read, Replaced}}, SessionPrompts.AnyInSession, declared.client.caller.Heard.Heard}
use Rattle.{agent_ask.specs.{declared.prompt.consent.Agreed.Agreed, Interrupts.Interrupts, ConsentActions.{consent_refusal, AgreesTo}, Session.TurnActions.{Seats, Closes}}, assuan_server.specs.{Written.ok, Clients.session_lines}}
use Rattle.{assuan_server.specs.declared.errors.Origin.{Origin, TheVariants.{Agent, Pinentry}}, agent_commands.specs.{Endings.went_after, declared.{request.Request.Request, went.Went.Went}}, agent_ports.specs.declared.grip.Grip.Grip}
use Rattle.{arrayvec.specs.ArrayVec.ArrayVec, session_client.specs.{Refusals.{refusal_code, gone_by}, declared.{code.Code.Code, refusal.Refusal.{Refusal, TheVariants.Client}, client_error.ClientError.ClientError}, Fields.in_form}}
use Rattle.{session_client.specs.Asking.gone_of, cache_policy.specs.{Turns.{Turn, Refused, closes}, declared.mark.MarkStep.{MarkStep, TheVariants.Seat}}, assuan_text.specs.{Options.arguments_of, Words.{rest_of, words}}}
use Rattle.{key_commands.specs.{Events.Event, Requests.{grip, first_grip}, Actions.{Action, refusal_events}}, session_options.specs.declared.{options.PinMode.PinMode, rules.Rules.Rules}, trust_list.specs.Trust.{trust, with_entry}}
use Rattle.trust_list.specs.declared.TheConstants.{MAX_TRUST_FILE_LEN}
use Rattle.agent_origin.specs.TrustExchanges.{flag_of, trust_question, fingerprint_question, unless_said, TrustedNow, Stores, StoresUnsaid, Consented, asked_in, Marked, Carried, TrustExchange}
use Rattle.agent_origin.specs.{TrustActions.{ReadsFile, AddsEntry, Replaces, trust_called}, TrustRequests.{purpose, owner, mark_trusted_of, trust_asked_by, trust_or_bad, trust_request_by, trust_request_of, trust_command}}
use Rattle.{agent_origin.specs.declared.{session_state.SessionState.SessionState, trust.request.{TrustPurpose.TrustPurpose, TrustRequest.{TrustRequest, TheVariants.{IsTrusted, MarkTrusted, Bad}}}}, command_table.specs.Commands.command_in}
use Rattle.command_table.specs.declared.commands.{Command.Command, TrustCommandName.TrustCommandName}
use Rattle.agent_session.specs.{Causes.{StandIn, IsSaid, one, called_trust, turned}, Completeness.AnswersNothing}
use Rattle.agent_session.specs.DoorCauses.{IsReadTrust, read_trust, IsReadAgain, read_again, IsMarked, IsTrustCaused, by_mode, by_client, by_stop, unsaid, denied, denied_mark, inquired, too_long, error, loopback}
use Rattle.agent_session.proofs.Causes.{Explained.{Explained, replied, failed, silent, after_these}, Explaining.{Anything, ClientSays, cut, client_said, CausedRefusal, IsExplained, Comes, Explains, bind, returned, refused}}
use Rattle.agent_session.proofs.{Causes.{KeyActions.{has_call, heard_caused, prompt_silent}, Prompted.{ConsentShows, HasHeard, consent_shows}, Replying.reply_ok}, Standing.{has_first, has_in, stand_all, stand_left}}
use Rattle.agent_session.proofs.Decisions.TrustTold.{Told, told}
use Rattle.agent_ask.specs.declared.client.caller.Heard.TheVariants as heard_as
use Rattle.agent_ask.specs.declared.prompt.consent.Agreed.TheVariants as agreed
use Rattle.agent_ask.specs.Interrupts as turns
use Rattle.agent_ports.specs.declared.trust.TrustDone.TheVariants as done
use Rattle.agent_ports.specs.declared.trust.TrustRead.TheVariants as read
use Rattle.assuan_server.specs.Written as written
use Rattle.session_client.specs.declared.code.Code.TheVariants as code
use Rattle.session_client.specs.Fields as fields
use Rattle.session_client.specs.declared.refusal.Refusal.TheVariants as refusals
use Rattle.session_client.specs.declared.client_error.Gone.TheVariants as gone
use Rattle.session_client.specs.declared.client_error.ClientError.TheVariants as client_error
use Rattle.session_options.specs.declared.options.PinMode.TheVariants as mode
use Rattle.agent_ask.specs.ConsentActions as consent
use Rattle.agent_ask.specs.Session.Actions as chain
use Rattle.agent_ask.specs.Session.TurnActions as taken
use Rattle.agent_origin.specs.TrustActions as actions
use Rattle.command_table.specs.declared.commands.Command.TheVariants as at_table
use Rattle.command_table.specs.declared.commands.TrustCommandName.TheVariants as name
use Rattle.agent_session.specs.Causes as causes
use Rattle.agent_session.proofs.Causes.Prompted as prompted
use Rattle.agent_session.proofs.Decisions.TrustTold as telling

-- `other` is a request of any session, of which nothing is said. An action is done within some of the events of the whole exchange.
module _ (rules : Rules) (kept : SessionState) (other : Request) (request : TrustRequest) (whole within : List Event) (lift : (events : List Event) → StandIn events within → StandIn events whole) where
  abbrev Caused : Code → Origin → Type 0
  Caused = IsTrustCaused whole request kept.options

  abbrev ComesHere : {A : Type 0} → (A → Type 0) → List Event → Result A Refusal → Type 0
  ComesHere = Comes within Caused

  abbrev ExplainsHere : {A : Type 0} → Action A → (A → Type 0) → Type 0
  ExplainsHere = Explains within Caused

  is_unless : (said : Option Bool) (otherwise : Action (Unit {0})) → (said ≡ Some false → Caused code.NotTrusted Agent) → (said ≡ None → ExplainsHere otherwise Anything)
      → ExplainsHere (unless_said said otherwise) Anything
  is_unless (Some true) otherwise denies explains = returned Anything tt tt
  is_unless (Some false) otherwise denies explains = refused Anything (refusals.Agent code.NotTrusted) (denies refl)
  is_unless None otherwise denies explains = explains refl

  -- ---- the seat

  interrupts : (step : MarkStep) → closes step ≡ None → {turn : Turn} {why : Code} {more : List Event} → Interrupts turn why
      → StandIn (cache_turn step turn ∷ more) within → Caused why Agent
  interrupts step keeps turns.refused stands = one (cache_turn step Refused) refl (has_first (lift _ stands))
  interrupts step keeps turns.stopping stands = by_stop (turned step keeps (has_first (lift _ stands)))
  interrupts step keeps turns.late stands = turned step keeps (has_first (lift _ stands))

  seats_of : (before : Option ℕ) (events : List Event) (result : Result (Unit {0}) Refusal) (after : Option ℕ) → Seats (Seat None None) before events result after → StandIn events within
      → ComesHere Anything events result
  seats_of before events result after (taken.opened can) stands = record { silent = (tt, tt); explained = tt }
  seats_of before events result after (taken.interrupted can why) stands = record { silent = (tt, tt); explained = interrupts (Seat None None) refl why stands }

  -- ---- the user

  module _ {prompt : List PromptEvent} {shown : List Event} (shows : AnyInSession session_lines prompt shown) (stands : StandIn shown within) where
    abbrev IfRefused : Option Refusal → Type 0
    IfRefused refusal = IfSome refusal (CausedRefusal within Caused)

    heard_so : (heard : Heard) (why : ClientError) → unheard_of heard ≡ Some why → HasHeard heard prompt → ClientSays within why
    heard_so heard why is has = client_said (heard_caused rules kept other within shows stands heard why is has)

    heard_refused : (heard : Heard) → HasHeard heard prompt → IfRefused (consent_refusal (agreed.Heard heard))
    heard_refused heard_as.Fine has = tt
    heard_refused (heard_as.Secret secret) has = tt
    heard_refused heard_as.Cancelled has = heard_so heard_as.Cancelled client_error.Cancelled refl has
    heard_refused heard_as.TooMuch has = heard_so heard_as.TooMuch client_error.TooMuch refl has
    heard_refused heard_as.Unexpected has = heard_so heard_as.Unexpected client_error.Unexpected refl has
    heard_refused (heard_as.Gone how) has = heard_so (heard_as.Gone how) (client_error.Gone how) refl has

    unopened : prompted.Unopened prompt → Caused code.NoPinentry Agent
    unopened (inl fails) = inr (inl (has_call rules kept other whole shows (lift _ stands) fails))
    unopened (inr broken) = inr (inr (has_call rules kept other whole shows (lift _ stands) broken))

    consent_refused : (answer : Agreed) → ConsentShows answer prompt → IfRefused (consent_refusal answer)
    consent_refused agreed.Yes so = tt
    consent_refused agreed.No so = has_call rules kept other whole shows (lift _ stands) so
    consent_refused agreed.Cancelled so = has_call rules kept other whole shows (lift _ stands) so
    consent_refused agreed.TimedOut so = has_call rules kept other whole shows (lift _ stands) so
    consent_refused agreed.NoPinentry so = unopened so
    consent_refused (agreed.Heard heard) so = heard_refused heard so

  agrees : (question : List ℕ) → ExplainsHere (AgreesTo session_lines rules kept.options question) Anything
  agrees question before events result after (consent.consents spec is prompt) stands = record { silent = prompt_silent prompt.in_session; explained = tt }
  agrees question before events result after (consent.refused {answer} spec is prompt refusal) stands = record {
    silent = prompt_silent prompt.in_session;
    explained = subst (λ o. IfSome o (CausedRefusal within Caused)) refusal (consent_refused prompt.in_session stands answer (consent_shows prompt.asks));
  }

  -- ---- the trust file

  reads_file : ExplainsHere ReadsFile (IsReadTrust within)
  reads_file before events result after (actions.has_read is) stands = record { silent = (tt, tt); explained = read_trust is (has_first stands) }
  reads_file before events result after actions.faulted stands = record { silent = (tt, tt); explained = called_trust (Read read.Failed) tt (has_first (lift _ stands)) }
  reads_file before events result after actions.no_memory stands = record { silent = (tt, tt); explained = one (trust_called (Read read.NoMemory)) tt (has_first (lift _ stands)) }

  lift_read : {file : List ℕ} → IsReadTrust within file → IsReadTrust whole file
  lift_read (read_trust is has) = read_trust is (has_in (lift within (stand_all within)) has)

  module _ (file : List ℕ) where
    replaces_of : (before : Option ℕ) (events : List Event) (result : Result (Unit {0}) Refusal) (after : Option ℕ) → Replaces file before events result after → StandIn events within → ComesHere Anything events result
    replaces_of before events result after actions.replaced stands = record { silent = (tt, tt); explained = tt }
    replaces_of before events result after actions.faulted stands = record { silent = (tt, tt); explained = called_trust (Replaced file done.Failed) tt (has_first (lift _ stands)) }
    replaces_of before events result after actions.no_memory stands = record { silent = (tt, tt); explained = one (trust_called (Replaced file done.NoMemory)) tt (has_first (lift _ stands)) }

    module _ (fingerprint : Grip) (flag : ℕ) (too_much : MAX_TRUST_FILE_LEN < length (with_entry file fingerprint.0 flag) → Caused code.TooMuch Agent) where
      adds_of : (before : Option ℕ) (events : List Event) (result : Result (List ℕ) Refusal) (after : Option ℕ) → AddsEntry file fingerprint flag before events result after → StandIn events within
          → ComesHere Anything events result
      adds_of before events result after (actions.added fits) stands = record { silent = tt; explained = tt }
      adds_of before events result after (actions.too_long long) stands = record { silent = tt; explained = too_much long }
      adds_of before events result after actions.no_memory stands = record { silent = (tt, tt); explained = one (Port NoMemory) tt (has_first (lift _ stands)) }

  -- ---- whole requests

  module _ (fingerprint : Grip) (is_request : request ≡ IsTrusted fingerprint) where
    trusted_now : ExplainsHere (TrustedNow fingerprint) Anything
    unfolding TrustedNow
    trusted_now =
        bind reads_file
        (λ file is_read. is_unless (trust file fingerprint.0) _
        (λ no. denied (record { file = file; request_is = is_request; is_read = lift_read is_read; says_so = no }))
        (λ none. refused Anything (refusals.Agent code.NotTrusted) (unsaid (record { file = file; request_is = is_request; is_read = lift_read is_read; says_so = none }))))

  module _ (fingerprint : Grip) (purpose : TrustPurpose) (name : ArrayVec ℕ) (is_request : request ≡ MarkTrusted fingerprint purpose name) where
    says : (file : List ℕ) (said : Option Bool) → IsReadTrust whole file → trust file fingerprint.0 ≡ said → IsMarked whole request fingerprint purpose file said
    says file said is_read so = record { name = name; request_is = is_request; is_read = is_read; says_so = so }

    -- behind the first read
    module _ (again : (file : List ℕ) → IsReadTrust within file → IsReadAgain file whole) where
      stores : (file : List ℕ) → IsReadTrust within file → trust file fingerprint.0 ≡ None → ExplainsHere (Stores fingerprint purpose file) Anything
      unfolding Stores
      stores file is_read none =
          bind (adds_of file fingerprint (flag_of purpose) (λ long. too_long is_request (again file is_read) none long)) (λ new good. replaces_of new)

      stores_unsaid : ExplainsHere (StoresUnsaid fingerprint purpose) Anything
      unfolding StoresUnsaid
      stores_unsaid =
          bind reads_file
          (λ file is_read. is_unless (trust file fingerprint.0) _ (λ no. denied_mark (says file (Some false) (lift_read is_read) no)) (λ none. stores file is_read none))

      consented : ExplainsHere (Consented rules kept.options fingerprint purpose name.items) Anything
      unfolding Consented
      consented = bind (agrees (trust_question name.items)) (λ trusted good. bind (agrees (fingerprint_question fingerprint name.items)) (λ right fine. stores_unsaid))

      asked : (file : List ℕ) → IsMarked whole request fingerprint purpose file None → (way : PinMode) → kept.options.mode ≡ way
          → ExplainsHere (asked_in rules kept.options fingerprint purpose name.items way) Anything
      asked file is mode.Ask same = bind seats_of (λ seated good. consented)
      asked file is mode.Cancel same = refused Anything (refusals.Agent code.Cancelled) (by_mode is same)
      asked file is mode.Error same = refused Anything (refusals.Agent code.NoPinentry) (inl (error is same))
      asked file is mode.Loopback same = refused Anything (refusals.Agent code.NoPinentry) (inl (loopback is same))

      unless_marked : (file : List ℕ) → IsReadTrust whole file → ExplainsHere (unless_said (trust file fingerprint.0) (asked_in rules kept.options fingerprint purpose name.items kept.options.mode)) Anything
      unless_marked file is_read =
          is_unless (trust file fingerprint.0) _ (λ no. denied_mark (says file (Some false) is_read no)) (λ none. asked file (says file None is_read none) kept.options.mode refl)

-- what stands behind a first event, in all that stands behind the first one of the whole
record Behind (more whole : List Event) : Type 0 where
  first : Event
  rest : List Event
  is : whole ≡ first ∷ rest
  stands : StandIn more rest

behind_first : {event : Event} {more whole : List Event} → StandIn (event ∷ more) whole → Behind more whole
behind_first {event} {more} {whole} stands = go stands.before stands.is
  where
    go : (before : List Event) → whole ≡ before ++ ((event ∷ more) ++ stands.after) → Behind more whole
    go [] is = record { first = event; rest = more ++ stands.after; is = is; stands = record { before = []; after = stands.after; is = refl } }
    go (other ∷ before) is = record {
      first = other;
      rest = before ++ ((event ∷ more) ++ stands.after);
      is = is;
      stands = record { before = before ++ event ∷ []; after = stands.after; is = sym (append_assoc before (event ∷ []) (more ++ stands.after)) };
    }

module _ (rules : Rules) (kept : SessionState) (other : Request) (request : TrustRequest) (whole : List Event) where
  abbrev WholeCaused : Code → Origin → Type 0
  WholeCaused = IsTrustCaused whole request kept.options

  abbrev Here : List Event → Went → Type 0
  Here = Explained whole WholeCaused

  back_silent : {held : Option ℕ} {back : List Event} → Closes None held back (Ok tt) None → AllByRecursion AnswersNothing back
  back_silent taken.unheld = tt
  back_silent (taken.closed turn can) = (tt, tt)

  client_explained : (why : ClientError) → IsSaid whole why → Here (said_last (option_map written.failed (refusal_code why))) (went_after (gone_of why))
  client_explained client_error.Cancelled is = failed [] code.Cancelled Agent tt (by_client is) tt
  client_explained client_error.TooMuch is = failed [] code.TooMuch Agent tt (inquired is) tt
  client_explained client_error.Unexpected is = failed [] code.Unexpected Agent tt is tt
  client_explained (client_error.Gone gone.TooLong) is = failed [] code.LineTooLong Agent tt is refl
  client_explained (client_error.Gone gone.Ended) is = silent tt is
  client_explained (client_error.Gone gone.Spent) is = silent tt is
  client_explained (client_error.Gone gone.ReadFault) is = silent tt is
  client_explained (client_error.Gone gone.WriteFault) is = silent tt tt

  refusal_here : (why : Refusal) → CausedRefusal whole WholeCaused why → Here (refusal_events why) (went_after (gone_by why))
  refusal_here (refusals.Agent why) caused = failed [] why Agent tt caused tt
  refusal_here (refusals.Pinentry why) caused = failed [] why Pinentry tt caused tt
  refusal_here (Client why) cut = silent tt tt
  refusal_here (Client why) (client_said is) = client_explained why is

  -- ---- MARKTRUSTED, whose file is read first

  said_behind : {rest : List Event} {why : ClientError} → ((events : List Event) → StandIn events rest → StandIn events whole) → ClientSays rest why → ClientSays whole why
  said_behind lift cut = cut
  said_behind {rest} lift (client_said (causes.said is has)) = client_said (causes.said is (has_in (lift rest (stand_all rest)) has))

  explained_behind : {A : Type 0} {rest : List Event} → ((events : List Event) → StandIn events rest → StandIn events whole) → (result : Result A Refusal) → IsExplained rest WholeCaused Anything result
      → IsExplained whole WholeCaused Anything result
  explained_behind lift (Ok value) is = tt
  explained_behind lift (Err (refusals.Agent why)) is = is
  explained_behind lift (Err (refusals.Pinentry why)) is = is
  explained_behind lift (Err (Client why)) is = said_behind lift is

  module _ (fingerprint : Grip) (purpose : TrustPurpose) (name : ArrayVec ℕ) (is_request : request ≡ MarkTrusted fingerprint purpose name) where
    marked_of : (before : Option ℕ) (events : List Event) (result : Result (Unit {0}) Refusal) (after : Option ℕ) → Marked rules kept.options fingerprint purpose name.items before events result after → StandIn events whole
        → Comes whole WholeCaused Anything events result
    unfolding Marked
    marked_of before events result after (chain.stops does) stands =
        let comes = reads_file rules kept other request whole whole (λ events so. so) before events _ after does stands in record { silent = comes.silent; explained = comes.explained }
    marked_of before events result after (chain.goes_on {value = file} (actions.has_read is) does) stands =
        let behind = behind_first stands in
        let lift : (some : List Event) → StandIn some behind.rest → StandIn some whole =
        λ some stands_so. subst (λ w. StandIn some w) (sym behind.is) (record { before = behind.first ∷ stands_so.before; after = stands_so.after; is = ap (λ e. behind.first ∷ e) stands_so.is }) in
        let again : (file : List ℕ) → IsReadTrust behind.rest file → IsReadAgain file whole = λ file there. subst (IsReadAgain file) (sym behind.is) (read_again there) in
        let comes = unless_marked rules kept other request whole behind.rest lift fingerprint purpose name is_request again file (read_trust is (has_first stands))
        _ _ result after does behind.stands in
        record { silent = (tt, comes.silent); explained = explained_behind lift result comes.explained }

  module _ (line_caused : (why : Code) → request ≡ Bad why → WholeCaused why Agent) where
    carried : (asked : TrustRequest) → request ≡ asked → Explains whole WholeCaused (Carried rules kept.options asked) Anything
    carried (IsTrusted fingerprint) is = trusted_now rules kept other request whole whole (λ events so. so) fingerprint is
    carried (MarkTrusted fingerprint purpose name) is = marked_of fingerprint purpose name is
    carried (Bad why) is = refused Anything (refusals.Agent why) (line_caused why is)

    told_explained : {events : List Event} {went : Went} → Told rules kept.options request events went → StandIn events whole → Here events went
    told_explained (telling.answered events back does closes) stands =
        let comes : Comes whole WholeCaused Anything events (Ok tt) = carried request refl None events (Ok tt) _ does (stand_left events _ stands) in
        after_these _ _ events comes.silent (after_these _ _ back (back_silent closes) (replied [] ok tt reply_ok tt))
    told_explained (telling.refused events back why does closes) stands =
        let comes : Comes whole WholeCaused Anything events (Err why) = carried request refl None events (Err why) _ does (stand_left events _ stands) in
        after_these _ _ events comes.silent (after_these _ _ back (back_silent closes) (refusal_here why comes.explained))

    pub trust_explained : {events : List Event} {went : Went} → TrustExchange rules kept.options request events went → StandIn events whole → Here events went
    trust_explained exchanged = told_explained (told rules kept.options request exchanged)

-- ---- lines that are out of form

-- the line is refused for its form, or not at all
abbrev IsForm : TrustRequest → Type 0
IsForm (Bad why) = why ≡ code.Parameter
IsForm _ = ⊤

needed_form : {A : Type 0} (field : Option A) (next : A → Result TrustRequest Code) → ((value : A) → IsForm (trust_or_bad (next value))) → IsForm (trust_or_bad (fields.◌>>=◌ (in_form field) next))
needed_form None next each = refl
needed_form (Some value) next each = each value

asked_form : (name : TrustCommandName) (rest : List ℕ) → IsForm (trust_or_bad (trust_asked_by name rest))
asked_form name.IsTrusted rest = needed_form (first_grip (arguments_of (words rest))) (λ fingerprint. Ok (IsTrusted fingerprint)) (λ fingerprint. tt)
asked_form name.MarkTrusted rest = mark_form (arguments_of (words rest))
  where
    mark_form : (arguments : List (List ℕ)) → IsForm (trust_or_bad (mark_trusted_of arguments))
    mark_form [] = refl
    mark_form (first ∷ []) = refl
    mark_form (first ∷ second ∷ []) = refl
    mark_form (first ∷ second ∷ third ∷ more) = needed_form (grip first) _ (λ fingerprint. needed_form (purpose second) _ (λ flag. needed_form (owner third) _ (λ text. tt)))

line_form : (found : Option Command) (line : List ℕ) {name : TrustCommandName} → trust_command found ≡ Some name → IsForm (trust_request_by found line)
line_form (Some (at_table.Trust name)) line is = asked_form name (rest_of line)
line_form (Some (at_table.Cache name)) line is = absurd (cc is)
line_form (Some (at_table.Key name)) line is = absurd (cc is)
line_form None line is = absurd (cc is)

pub trust_line_form : (line : List ℕ) (name : TrustCommandName) → trust_command (command_in line) ≡ Some name → (why : Code) → trust_request_of line ≡ Bad why → why ≡ code.Parameter
unfolding trust_request_of
trust_line_form line name named why is = subst IsForm is (line_form (command_in line) line named)
