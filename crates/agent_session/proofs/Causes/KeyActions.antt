-- The actions of requests on keys, each of whose refusals has its cause.
use Rattle.std.{specs.{List.AllByRecursion, Prelude.⊤, Option.option_map}, proofs.Common.{false, ◌≡◌, ℕ, List, ◌∷◌, Option, Some, None, Result, Ok, Err, refl, sym, subst, inl, inr}}
use Rattle.agent_ask.specs.{Callers.unheard_of, Events.{OutOfMemory, PromptEvent, Called, Notified}, Session.{PortCalls.{PortCall, Keys, Read, Replaced, Removed, Prompt}, SessionEvents.{Port, cache_turn}}, SessionPrompts.AnyInSession}
use Rattle.agent_ask.specs.{declared.{prompt.{ask.Asked.Asked, consent.Agreed.Agreed, spec.AskPlan.AskPlan}, client.caller.Heard.Heard}, ConsentActions.{AgreesTo, consent_refusal}, PinActions.{PromptsFor, IsAnyGiven, pin_refusal}}
use Rattle.{agent_ports.specs.declared.{grip.Grip.Grip, keys.{KeyDone.KeyDone, KeyRead.KeyRead}}, assuan_server.specs.Clients.session_lines, session_client.specs.declared.{code.Code.Code, client_error.ClientError.ClientError}}
use Rattle.{session_client.specs.declared.refusal.Refusal.{Refusal, TheVariants.Client}, cache_policy.specs.{Turns.Given, declared.{grant.Grant.Grant, mark.MarkStep.MarkStep}}, session_options.specs.declared.rules.Rules.Rules}
use Rattle.{sexp_keys.specs.{Key.Key, declared.fault.KeyFault.KeyFault}, secret_file.specs.Opens.LockedKey, agent_commands.specs.{Events.EventWith, declared.request.Request.Request}, key_commands.specs.Faults.fault_code}
use Rattle.key_commands.specs.{KeyActions.{ReadsFile, change_fault, Replaces, Removes, KeepsNew}, Actions.read_fault, Passphrases.{ask_nonce, LooksForNonce, TakesSeat, Locks, OpensBy, TriesPassphrase, TriesFound, PromptsOld}}
use Rattle.agent_origin.specs.declared.session_state.SessionState.{SessionState}
use Rattle.agent_session.specs.Causes.{Has, StandIn, IsCaused, IsSaid, said, IsUnread, IsUnremoved, LacksKeys, on_keys, one, IsRead, read, IsReadOf, read_of, IsReadLocked, OpensRead, opens, IsFaulty, Unlocks, Judges, NamesOld, ComesBy}
use Rattle.agent_session.specs.{Causes.{HasPrompt, AsksAny, old_plan, protection, faulty, HasCall, GivesNone, GivesNoneFor, none_at_all, wrong, ByNonce}, Completeness.AnswersNothing}
use Rattle.agent_session.proofs.Causes.Explaining.{Caused, CausedRefusal, client_said, Comes, Explains, Anything, returned, FoundBy, found, found_none, looks, seats, changes, closes_explained, out_of_memory_first, out_of_memory_second}
use Rattle.agent_session.proofs.{Causes.{Faulty.{file_fault_said, locked_fault_said}, Prompted.{has_prompt, PinShows, ConsentShows, HasCalled, HasHeard, pin_shows, consent_shows, shown_as, note_says}}, Standing.{has_first, has_in}}
use Rattle.agent_ask.specs.PinActions as pins
use Rattle.agent_ask.specs.SessionPrompts as session
use Rattle.agent_ask.specs.declared.prompt.ask.Asked.TheVariants as asked
use Rattle.agent_ask.specs.declared.client.caller.Heard.TheVariants as heard_as
use Rattle.agent_ask.specs.declared.prompt.consent.Agreed.TheVariants as agreed
use Rattle.agent_ports.specs.declared.keys.KeyDone.TheVariants as key_done
use Rattle.agent_ports.specs.declared.keys.KeyRead.TheVariants as key_read
use Rattle.session_client.specs.declared.code.Code.TheVariants as code
use Rattle.session_client.specs.declared.client_error.ClientError.TheVariants as client_error
use Rattle.sexp_keys.specs.declared.fault.KeyFault.TheVariants as faults
use Rattle.agent_ask.specs.ConsentActions as consent
use Rattle.key_commands.specs.KeyActions as actions
use Rattle.key_commands.specs.Passphrases as passphrases
use Rattle.agent_session.specs.Causes as causes
use Rattle.agent_session.proofs.Causes.Faulty as said
use Rattle.agent_session.proofs.Causes.Prompted as prompted

-- nothing is answered by a prompt
pub prompt_silent : {prompt : List PromptEvent} {shown : List (EventWith PortCall)} → AnyInSession session_lines prompt shown → AllByRecursion AnswersNothing shown
prompt_silent session.none = tt
prompt_silent (session.called more) = (tt, prompt_silent more)
prompt_silent (session.noted says more) = (tt, prompt_silent more)
prompt_silent (session.out_of_memory more) = (tt, prompt_silent more)

module _ (rules : Rules) (kept : SessionState) (request : Request) (whole : List (EventWith PortCall)) where
  abbrev CausedHere : Code → Type 0
  CausedHere = Caused rules kept request whole

  abbrev CausedRefusalHere : Refusal → Type 0
  CausedRefusalHere = CausedRefusal whole (IsCaused whole rules kept request)

  abbrev ComesHere : {A : Type 0} → (A → Type 0) → List (EventWith PortCall) → Result A Refusal → Type 0
  ComesHere = Comes whole (IsCaused whole rules kept request)

  abbrev ExplainsHere : {A : Type 0} → (Option ℕ → List (EventWith PortCall) → Result A Refusal → Option ℕ → Type 0) → (A → Type 0) → Type 0
  ExplainsHere = Explains whole (IsCaused whole rules kept request)

  -- the request opened the key of this grip to this one
  abbrev pub OpensHere : Grip → Key → Type 0
  OpensHere = OpensRead whole rules kept.options request

  -- ---- faults of keys

  pub fault_caused : (fault : KeyFault) → said.IsSaid (Some fault) → ((why : Code) → fault_code fault ≡ why → IsFaulty whole rules kept request why) → CausedHere (fault_code fault)
  fault_caused faults.InvSexp is by = by code.InvSexp refl
  fault_caused faults.BadSecKey is by = faulty (by code.BadSecKey refl)
  fault_caused faults.Shadowed is by = causes.key (by code.NotSupported refl)
  fault_caused faults.NotSupported is by = causes.key (by code.NotSupported refl)
  fault_caused faults.NoMemory is by = elim is [ ]

  -- ---- prompts

  -- what a prompt shows is among the events of the request
  module _ {prompt : List PromptEvent} {shown : List (EventWith PortCall)} (in_session : AnyInSession session_lines prompt shown) (stands : StandIn shown whole) where
    pub has_call : {is : _} → HasCalled is prompt → HasCall whole is
    has_call (prompted.called call so has) = causes.called call so (has_in stands (shown_as (Called call) in_session has))

    pub heard_caused : (heard : Heard) (why : ClientError) → unheard_of heard ≡ Some why → HasHeard heard prompt → IsSaid whole why
    heard_caused heard why is (prompted.noted pid has) = let noted = shown_as (Notified pid heard) in_session has in said (note_says noted.0 heard why noted.1 is) (has_in stands noted.2)

    pub unopened_caused : prompted.Unopened prompt → CausedHere code.NoPinentry
    unopened_caused (inl failed) = inr (inl (has_call failed))
    unopened_caused (inr broken) = inr (inr (has_call broken))

    abbrev IfRefused : Option Refusal → Type 0
    IfRefused None = ⊤
    IfRefused (Some why) = CausedRefusalHere why

    heard_refused : (heard : Heard) → HasHeard heard prompt → IfRefused (option_map Client (unheard_of heard))
    heard_refused heard_as.Fine has = tt
    heard_refused (heard_as.Secret secret) has = tt
    heard_refused heard_as.Cancelled has = client_said (heard_caused heard_as.Cancelled client_error.Cancelled refl has)
    heard_refused heard_as.TooMuch has = client_said (heard_caused heard_as.TooMuch client_error.TooMuch refl has)
    heard_refused heard_as.Unexpected has = client_said (heard_caused heard_as.Unexpected client_error.Unexpected refl has)
    heard_refused (heard_as.Gone how) has = client_said (heard_caused (heard_as.Gone how) (client_error.Gone how) refl has)

    pin_refused : (answer : Asked) → PinShows answer prompt → (answer ≡ asked.Bad → CausedHere code.BadPass) → IfRefused (pin_refusal answer)
    pin_refused (asked.Pin pin) shows bad = tt
    pin_refused asked.Cancelled shows bad = has_call shows
    pin_refused asked.TimedOut shows bad = has_call shows
    pin_refused asked.NoPinentry shows bad = unopened_caused shows
    pin_refused asked.Bad shows bad = bad refl
    pin_refused asked.NoMemory shows bad = one (Port (Prompt OutOfMemory)) tt (has_in stands (shown_as OutOfMemory in_session shows))
    pin_refused (asked.Heard heard) shows bad = heard_refused heard shows

    consent_refused : (answer : Agreed) → ConsentShows answer prompt → IfRefused (consent_refusal answer)
    consent_refused agreed.Yes shows = tt
    consent_refused agreed.No shows = has_call shows
    consent_refused agreed.Cancelled shows = has_call shows
    consent_refused agreed.TimedOut shows = has_call shows
    consent_refused agreed.NoPinentry shows = unopened_caused shows
    consent_refused (agreed.Heard heard) shows = heard_refused heard shows

    pub pin_caused : (answer : Asked) (why : Refusal) → PinShows answer prompt → (answer ≡ asked.Bad → CausedHere code.BadPass) → pin_refusal answer ≡ Some why → CausedRefusalHere why
    pin_caused answer why shows bad is = subst IfRefused is (pin_refused answer shows bad)

    pub consent_caused : (answer : Agreed) (why : Refusal) → ConsentShows answer prompt → consent_refusal answer ≡ Some why → CausedRefusalHere why
    consent_caused answer why shows is = subst IfRefused is (consent_refused answer shows)

  -- ---- the cache

  -- what is cached under a nonce, where there is one
  abbrev pub FoundByNonce : Option (List ℕ) → Option (List ℕ) → Type 0
  FoundByNonce None pass = pass ≡ None
  FoundByNonce (Some nonce) pass = FoundBy rules kept request whole (ask_nonce nonce) pass

  pub looks_for_nonce : (nonce : Option (List ℕ)) → ExplainsHere (LooksForNonce nonce) (FoundByNonce nonce)
  looks_for_nonce None = returned (FoundByNonce None) None refl
  looks_for_nonce (Some nonce) = looks rules kept request whole (ask_nonce nonce) refl

  none_by : (step : MarkStep) → FoundBy rules kept request whole step None → GivesNone whole step
  none_by asked (found_none gives) = gives

  -- nothing is
  pub nonce_none : (nonce : Option (List ℕ)) → FoundByNonce nonce None → ByNonce whole (GivesNone whole) nonce
  nonce_none None by = tt
  nonce_none (Some nonce) by = none_by (ask_nonce nonce) by

  pub none_opens : (step : MarkStep) (locked : LockedKey) (pass : Option (List ℕ)) → FoundBy rules kept request whole step pass → ((secret : List ℕ) → pass ≡ Some secret → ¬ OpensBy locked secret)
      → GivesNoneFor whole locked step
  none_opens asked locked pass (found_none gives) closed = none_at_all gives
  none_opens asked locked pass (found has) closed = wrong has (closed _ refl)

  pub nonce_none_opens : (nonce : Option (List ℕ)) (locked : LockedKey) (pass : Option (List ℕ)) → FoundByNonce nonce pass → ((secret : List ℕ) → pass ≡ Some secret → ¬ OpensBy locked secret)
      → ByNonce whole (GivesNoneFor whole locked) nonce
  nonce_none_opens None locked pass by closed = tt
  nonce_none_opens (Some nonce) locked pass by closed = none_opens (ask_nonce nonce) locked pass by closed

  -- how the request came by what was found
  pub comes_of : (So : List ℕ → Type 0) {step : MarkStep} {pass : Option (List ℕ)} → FoundBy rules kept request whole step pass → ((grant : Grant) → Has (cache_turn step (Given grant)) whole → So grant.entry.secret)
      → (secret : List ℕ) → pass ≡ Some secret → So secret
  comes_of So (found {grant} has) by secret is = let same : grant.entry.secret ≡ secret = cc is in subst So same (by grant has)
  comes_of So (found_none gives) by secret is = absurd (cc is)

  pub comes_by_nonce : {grip : Grip} {locked : LockedKey} (nonce pass : Option (List ℕ)) → ((id : List ℕ) → nonce ≡ Some id → NamesOld request grip id) → FoundByNonce nonce pass → (secret : List ℕ) → pass ≡ Some secret
      → ComesBy whole rules kept.options request grip locked secret
  comes_by_nonce None pass names by secret is = absurd (cc (by, is))
  comes_by_nonce {grip} {locked} (Some id) pass names by secret is = comes_of (ComesBy whole rules kept.options request grip locked) by (λ grant has. causes.cached_by_nonce (names id refl) has) secret is

  module _ (grip : Grip) where
    pub takes_seat : ExplainsHere (TakesSeat grip) Anything
    takes_seat None events result after does stands = seats rules kept request whole _ refl None events result after does stands
    takes_seat (Some ticket) events result after does stands = returned Anything tt tt (Some ticket) events result after does stands

  module _ (grip : Grip) (pass : List ℕ) where
    pub keeps_new : ExplainsHere (KeepsNew grip pass) Anything
    keeps_new None events result after does stands = changes rules kept request whole _ refl None events result after does stands
    keeps_new (Some ticket) events result after does stands = closes_explained (Some pass) (Some ticket) events result after does stands

  -- ---- locked keys

  module _ (grip : Grip) (unlocks : Unlocks request grip) (key : Key) (is_read : IsRead whole grip (Ok key)) (closed : key.is_clear ≡ false) where
    pub locks : ExplainsHere (Locks key) (IsReadLocked whole grip)
    locks before events result after (passphrases.is_locked same locked) stands =
        record { silent = tt; explained = record { key = subst (λ k. IsRead whole grip (Ok k)) (sym same) is_read; protection = locked } }
    locks before events result after (passphrases.has_fault {fault} is) stands =
        record { silent = tt; explained = fault_caused fault (locked_fault_said key fault is) (λ why so. protection unlocks is_read closed is so) }
    locks before events result after passphrases.no_memory stands = record { silent = (tt, tt); explained = out_of_memory_first rules kept request whole stands }

  -- a value that is so, or there is none, and then this holds
  abbrev pub Either : {A : Type 0} → (A → Type 0) → Type 0 → Option A → Type 0
  Either Is Else (Some value) = Is value
  Either Is Else None = Else

  module _ (grip : Grip) (unlocks : Unlocks request grip) (locked : LockedKey) (is_locked : IsReadLocked whole grip locked) where
    module _ (pass : List ℕ) (comes : ComesBy whole rules kept.options request grip locked pass) where
      pub tries : ExplainsHere (TriesPassphrase locked pass) (Either (λ opened. OpensHere grip opened.key) (¬ OpensBy locked pass))
      tries before events result after (passphrases.opens to) stands = record { silent = tt; explained = opens is_locked comes to }
      tries before events result after (passphrases.stays closed) stands = record { silent = tt; explained = closed }
      tries before events result after passphrases.no_memory stands = record { silent = (tt, tt); explained = out_of_memory_first rules kept request whole stands }

    -- no passphrase was found, or one that doesn't open it
    abbrev pub NoneOpens : Option (List ℕ) → Type 0
    NoneOpens pass = (secret : List ℕ) → pass ≡ Some secret → ¬ OpensBy locked secret

    module _ (pass : List ℕ) (comes : ComesBy whole rules kept.options request grip locked pass) where
      tried_of : (before : Option ℕ) (events : List (EventWith PortCall)) (result : Result (Option _) Refusal) (after : Option ℕ) → TriesPassphrase locked pass before events result after
          → StandIn events whole → ComesHere (Either (λ opened. OpensHere grip opened.key) (NoneOpens (Some pass))) events result
      tried_of before events result after (passphrases.opens to) stands = record { silent = tt; explained = opens is_locked comes to }
      tried_of before events result after (passphrases.stays closed) stands =
          record { silent = tt; explained = λ secret is. let same : pass ≡ secret = cc is in subst (λ p. ¬ OpensBy locked p) same closed }
      tried_of before events result after passphrases.no_memory stands = record { silent = (tt, tt); explained = out_of_memory_first rules kept request whole stands }

    -- one that was found is tried
    pub tries_found : (pass : Option (List ℕ)) → ((secret : List ℕ) → pass ≡ Some secret → ComesBy whole rules kept.options request grip locked secret)
        → ExplainsHere (TriesFound locked pass) (Either (λ opened. OpensHere grip opened.key) (NoneOpens pass))
    tries_found None comes = returned (Either (λ opened. OpensHere grip opened.key) (NoneOpens None)) None (λ secret is. absurd (cc is))
    tries_found (Some pass) comes = tried_of pass (comes pass refl)

    -- ---- prompts for passphrases

    pub prompts_old : ExplainsHere (PromptsOld rules kept.options grip locked) (λ opened. OpensHere grip opened.key)
    prompts_old before events result after (pins.prompted spec is prompt (passphrases.opens_by to)) stands =
        record { silent = prompt_silent prompt.in_session; explained = opens is_locked (causes.typed_by_user (has_prompt prompt stands)) to }
    prompts_old before events result after (pins.prompted spec is prompt (passphrases.refused {answer} {why} refusal)) stands = record {
      silent = prompt_silent prompt.in_session;
      explained = pin_caused prompt.in_session stands answer why (pin_shows prompt.asks)
          (λ bad. causes.at_prompt (causes.opening unlocks is_locked (subst (HasPrompt whole (old_plan rules kept.options) (OpensBy locked)) bad (has_prompt prompt stands)))) refusal;
    }

  -- one at which every passphrase is right
  pub prompts_any : {description field : _} {quality : _} {plan : AskPlan} → AsksAny rules kept.options request plan
      → ExplainsHere (PromptsFor session_lines rules kept.options description field quality plan (λ pin. ⊤) IsAnyGiven) Anything
  prompts_any asks before events (Ok pin) after (pins.prompted spec is prompt gives) stands = record { silent = prompt_silent prompt.in_session; explained = tt }
  prompts_any {plan} asks before events (Err why) after (pins.prompted {answer} spec is prompt gives) stands = record {
    silent = prompt_silent prompt.in_session;
    explained = pin_caused prompt.in_session stands answer why (pin_shows prompt.asks)
        (λ bad. causes.at_prompt (causes.any asks (subst (HasPrompt whole plan (λ pin. ⊤)) bad (has_prompt prompt stands)))) gives.1;
  }

  pub agrees : (question : List ℕ) → ExplainsHere (AgreesTo session_lines rules kept.options question) Anything
  agrees question before events result after (consent.consents spec is prompt) stands = record { silent = prompt_silent prompt.in_session; explained = tt }
  agrees question before events result after (consent.refused {answer} {why} spec is prompt refusal) stands =
      record { silent = prompt_silent prompt.in_session; explained = consent_caused prompt.in_session stands answer why (consent_shows prompt.asks) refusal }

  -- ---- key files

  -- a read that gave no file
  read_caused : (grip : Grip) (answer : KeyRead) {why : Code} {more : List (EventWith PortCall)} → (answer ≡ key_read.Absent → CausedHere code.NoSecKey) → read_fault answer ≡ Some why
      → StandIn (Port (Keys (Read grip answer)) ∷ more) whole → CausedHere why
  read_caused grip (key_read.Found bytes) absent is stands = absurd (cc is)
  read_caused grip key_read.Absent absent is stands = let same : code.NoSecKey ≡ _ = cc in subst CausedHere same (absent refl)
  read_caused grip key_read.Failed absent is stands = let same : code.General ≡ _ = cc in subst CausedHere same (one _ tt (has_first stands))
  read_caused grip key_read.NoMemory absent is stands = let same : code.NoMemory ≡ _ = cc in subst CausedHere same (one _ tt (has_first stands))

  module _ (grip : Grip) (judges : Judges request grip) (lacks : IsUnread whole grip → LacksKeys whole (on_keys request)) where
    pub reads_file : ExplainsHere (ReadsFile grip) (λ file. IsReadOf whole grip file.bytes × IsRead whole grip (Ok file.key))
    reads_file before events result after (actions.is_key is says) stands = record { silent = (tt, tt); explained = (read_of is (has_first stands), read is says (has_first stands)) }
    reads_file before events result after (actions.faulty {file} {fault} is says) stands =
        record { silent = (tt, tt); explained = fault_caused fault (file_fault_said file fault says) (λ why so. causes.file judges (read is says (has_first stands)) so) }
    reads_file before events result after (actions.no_memory is) stands = record { silent = (tt, (tt, tt)); explained = out_of_memory_second rules kept request whole stands }
    reads_file before events result after (actions.unread {answer} is) stands =
        record { silent = (tt, tt); explained = read_caused grip answer (λ absent. lacks (subst (λ a. Has (Port (Keys (Read grip a))) whole) absent (has_first stands))) is stands }

  module _ (grip : Grip) (lacks : IsUnremoved whole grip → LacksKeys whole (on_keys request)) where
    removal_caused : (answer : KeyDone) (why : Code) {more : List (EventWith PortCall)} → change_fault answer ≡ Some why → StandIn (Port (Keys (Removed grip answer)) ∷ more) whole → CausedHere why
    removal_caused key_done.Done why is stands = absurd (cc is)
    removal_caused key_done.Absent why is stands = let same : code.NoSecKey ≡ why = cc in subst CausedHere same (lacks (has_first stands))
    removal_caused key_done.Failed why is stands = let same : code.General ≡ why = cc in subst CausedHere same (one _ tt (has_first stands))
    removal_caused key_done.NoMemory why is stands = let same : code.NoMemory ≡ why = cc in subst CausedHere same (one _ tt (has_first stands))

    pub removes : ExplainsHere (Removes grip) Anything
    removes before events result after actions.done stands = record { silent = (tt, tt); explained = tt }
    removes before events result after (actions.not_done {answer} {code = why} is) stands = record { silent = (tt, tt); explained = removal_caused answer why is stands }

  -- a file that is replaced needn't be there
  module _ (there : (grip : Grip) (file : List ℕ) → Has (Port (Keys (Replaced grip file key_done.Absent))) whole → ⊥) (grip : Grip) (file : List ℕ) where
    replacement_caused : (answer : KeyDone) (why : Code) {more : List (EventWith PortCall)} → change_fault answer ≡ Some why → StandIn (Port (Keys (Replaced grip file answer)) ∷ more) whole
        → CausedHere why
    replacement_caused key_done.Done why is stands = absurd (cc is)
    replacement_caused key_done.Absent why is stands = absurd (there grip file (has_first stands))
    replacement_caused key_done.Failed why is stands = let same : code.General ≡ why = cc in subst CausedHere same (one _ tt (has_first stands))
    replacement_caused key_done.NoMemory why is stands = let same : code.NoMemory ≡ why = cc in subst CausedHere same (one _ tt (has_first stands))

    pub replaces : ExplainsHere (Replaces grip file) Anything
    replaces before events result after actions.done stands = record { silent = (tt, tt); explained = tt }
    replaces before events result after (actions.not_done {answer} {code = why} is) stands = record { silent = (tt, tt); explained = replacement_caused answer why is stands }
