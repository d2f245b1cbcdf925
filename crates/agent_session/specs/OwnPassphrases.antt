-- Whose a passphrase is: what a request stores comes from what was done for this request alone, before it was stored. A prompt's answer enters the
-- cache by the return of the prompt's own ticket, or by an IMPORT_KEY under the nonce that it drew, and by no other turn. And to whom it is written: each
-- line of a request on the cache or on the session has no passphrase in it, or it has the one that the request itself asked for; no line of a request on
-- keys has one. This is the project's own.
use Rattle.std.specs.{List.AllByRecursion, Prelude.{◌≡◌, ℕ, true, false, List, ◌∷◌, ◌++◌, codes, Option, Some, None, Ok, ⊤, Bool, drop, []}}
use Rattle.{agent_ask.specs.{Session.{PortCalls.{PortCall, Keys, Listed}, SessionEvents.{Received, Sent, Port, cache_turn}}, declared.prompt.spec.AskPlan.AskPlan}, agent_ports.specs.declared.{grip.Grip.Grip, keys.KeyNames.KeyNames}, assuan_line.specs.declared.reader.Took.TheVariants.Line}
use Rattle.{assuan_server.specs.{Written.{greeting, ok, IsDataAnswer}, Errors.error_text, declared.errors.Origin.Origin}, assuan_text.specs.LineEnds.line_of, cache_policy.specs.{Turns.{Turn, Given, Open}, declared.grant.Grant.Grant}}
use Rattle.cache_policy.specs.declared.{life.Life.Life, mark.{MarkStep.{MarkStep, TheVariants.{Seat, Put, Close}}, Way.TheVariants.Prompt}, mode.Mode.{Mode, TheVariants.{Any, Normal, Nonce, User}}, secret.TheConstants.MAX_SECRET_LEN}
use Rattle.{secret_file.specs.Opens.LockedKey, session_options.specs.{OptionValues.OptionValues, declared.rules.Rules.Rules}, sexp_keys.specs.{Key.Key, Lists.grip_of}, agent_commands.specs.{Events.EventWith, Passphrases.{ask_or_open, ask}}}
use Rattle.agent_commands.specs.{Requests.{GetFields, get_passphrase, request_of}, declared.{request.{CacheCommand.TheVariants.PresetPassphrase, Request.{Request, TheVariants.Cache}, Info.Info}, went.Went.TheVariants.On}}
use Rattle.{agent_commands.specs.Answers.{closing, help, IsInfo, IsPassphrase}, key_commands.specs.{KeyActions.{grips_in, grips_bytes}, Lines.{grip_text, info_line, nonce_line, IsNotice}, Passphrases.{OpensBy, ask_nonce, ask_key, put_key, seat_for}, Exchanges.wrap_key}}
use Rattle.{key_commands.specs.{Wrapping.wrapped_key, declared.request.Direction.Direction}, agent_origin.specs.declared.session_state.SessionState.SessionState, session_client.specs.declared.code.Code.Code}
use Rattle.assuan_escape.specs.Escapes.{hex_text}
use Rattle.agent_session.specs.{Causes.{Has, HasPrompt, KeyDataSays, on_keys, old_plan, AsksAny, Unlocks, IsSent, IsReadLocked, IsDrawn, OpensRead}, Completeness.Exchanges}
use Rattle.agent_ask.specs.declared.prompt.ask.Asked.TheVariants as asked
use Rattle.key_commands.specs.declared.request.KeyRequest.TheVariants as on

-- ---- what a request names

-- it keeps the passphrase by which it opens the key of this grip
pub data KeepsOld (request : Request) (grip : Grip) : Type 0 where
  exports : {nonce : Option (List ℕ)} → on_keys request ≡ Some (on.ExportKey grip nonce) → KeepsOld request grip
  verifies : {old new : Option (List ℕ)} → on_keys request ≡ Some (on.Passwd grip old new true) → KeepsOld request grip

-- the nonce under which it looks for a new passphrase: that of a key that it brings, or that of a key whose passphrase it changes
pub data NamesNew (request : Request) (nonce : List ℕ) : Type 0 where
  brings : {force : _} → on_keys request ≡ Some (on.ImportKey force (Some nonce)) → NamesNew request nonce
  changes : {grip : Grip} {old : Option (List ℕ)} → on_keys request ≡ Some (on.Passwd grip old (Some nonce) false) → NamesNew request nonce

-- by which word its client is asked for a passphrase that it stores, whatever that is
pub data GivesBy (request : Request) : List ℕ → Type 0 where
  for_get : (fields : GetFields) → request ≡ Cache (get_passphrase fields) → GivesBy request (codes "PASSPHRASE")
  for_preset : {id : List ℕ} {life : Life} → request ≡ Cache (PresetPassphrase id life None) → GivesBy request (codes "PASSPHRASE")
  for_change : {grip : Grip} {old new : Option (List ℕ)} → on_keys request ≡ Some (on.Passwd grip old new false) → GivesBy request (codes "NEW_PASSPHRASE")
  for_import : {force : _} {nonce : Option (List ℕ)} → on_keys request ≡ Some (on.ImportKey force nonce) → GivesBy request (codes "NEW_PASSPHRASE")

-- under which id and mode it stores a passphrase by a turn of its own, unless that is a nonce
pub data StoresUnder (request : Request) : List ℕ → Mode → Type 0 where
  under_preset : {id : List ℕ} {life : Life} {secret : Option (List ℕ)} → request ≡ Cache (PresetPassphrase id life secret) → StoresUnder request id Any
  -- what the client gave in place of a prompt
  under_get : {id : List ℕ} (fields : GetFields) → request ≡ Cache (get_passphrase fields) → fields.id ≡ Some id → StoresUnder request id User
  under_export : {grip : Grip} {nonce : Option (List ℕ)} → on_keys request ≡ Some (on.ExportKey grip nonce) → StoresUnder request (grip_text grip) Normal
  under_change : {grip : Grip} {old new : Option (List ℕ)} {verify : Bool} → on_keys request ≡ Some (on.Passwd grip old new verify) → StoresUnder request (grip_text grip) Normal

-- `IsNonce` is what is so of a nonce that is new
pub data MayStore (request : Request) (IsNonce : List ℕ → Type 0) : List ℕ → Mode → Type 0 where
  directly : {id : List ℕ} {mode : Mode} → StoresUnder request id mode → MayStore request IsNonce id mode
  imported : {force : Bool} {nonce : Option (List ℕ)} {id : List ℕ} → on_keys request ≡ Some (on.ImportKey force nonce) → IsNonce id → MayStore request IsNonce id Nonce

-- the nonce of a key that comes in: the hexadecimal text of the last 12 of 32 bytes that were drawn among these events
pub data IsNonceOf (events : List (EventWith PortCall)) : List ℕ → Type 0 where
  nonce_of : {drawn : List ℕ} → IsDrawn events 32 drawn → IsNonceOf events (hex_text (drop 20 drawn))

-- a prompt of the request's accepted this passphrase: one at which every passphrase is right, or one that opens the key whose file was read
pub data IsAccepted (rules : Rules) (options : OptionValues) (request : Request) (before : List (EventWith PortCall)) (pin : List ℕ) : Type 0 where
  any : {plan : AskPlan} → AsksAny rules options request plan → HasPrompt before plan (λ pin. ⊤) (asked.Pin pin) → IsAccepted rules options request before pin
  opening : {grip : Grip} {locked : LockedKey} → KeepsOld request grip → IsReadLocked before grip locked → HasPrompt before (old_plan rules options) (OpensBy locked) (asked.Pin pin)
      → IsAccepted rules options request before pin

-- `before` is what was done for it before
module _ (rules : Rules) (kept : SessionState) (request : Request) (before : List (EventWith PortCall)) where
  -- the key of this grip is the request's: it names it, or it is the key that the client sent
  pub data IsAbout (grip : Grip) : Type 0 where
    named : Unlocks request grip → IsAbout grip
    brought : {force : _} {nonce : Option (List ℕ)} {key : Key} → on_keys request ≡ Some (on.ImportKey force nonce) → KeyDataSays before rules kept request (Ok key) → grip.0 ≡ grip_of key → IsAbout grip

  -- under which id and mode it may store: as its command does, or for a key whose file it changed
  pub data MayPut : List ℕ → Mode → Type 0 where
    by_command : {id : List ℕ} {mode : Mode} → MayStore request (IsNonceOf before) id mode → MayPut id mode
    of_key : {grip : Grip} → IsAbout grip → MayPut (grip_text grip) Normal

  -- the step wants a prompt whose passphrase is kept under what the request names, or under nothing
  pub data WantsTicket : MarkStep → Type 0 where
    by_id : {id : List ℕ} (fields : GetFields) → request ≡ Cache (get_passphrase fields) → fields.id ≡ Some id → WantsTicket (ask_or_open id)
    by_key : {grip : Grip} → IsAbout grip → WantsTicket (ask_key grip Prompt)
    by_seat : {grip : Grip} → IsAbout grip → WantsTicket (seat_for grip)
    unkept : WantsTicket (Seat None None)

  -- it was given this ticket
  pub data HasTicket (ticket : ℕ) : Type 0 where
    has_ticket : {step : MarkStep} → WantsTicket step → Has (cache_turn step (Open ticket)) before → HasTicket ticket

  -- the cache gave this passphrase under the nonce of a new one
  pub data IsGivenNew : List ℕ → Type 0 where
    given : {nonce : List ℕ} {grant : Grant} → NamesNew request nonce → Has (cache_turn (ask_nonce nonce) (Given grant)) before → IsGivenNew grant.entry.secret

  -- ---- the turns that store

  -- Which passphrase a step stores, or keeps.
  pub data StoresOwn : MarkStep → Type 0 where
    -- the one in its own line
    preset : {id pass : List ℕ} {life : Life} → request ≡ Cache (PresetPassphrase id life (Some pass)) → StoresOwn (Put id Any life pass)
    -- what its client gave to its own inquiry, whatever that is
    sent : {id word pass : List ℕ} {mode : Mode} {life : Life} → MayPut id mode → GivesBy request word → IsSent before word MAX_SECRET_LEN pass → StoresOwn (Put id mode life pass)
    -- or what opens the key whose file was read
    sent_old : {grip : Grip} {locked : LockedKey} {pass : List ℕ} → Unlocks request grip → IsReadLocked before grip locked → IsSent before (codes "PASSPHRASE") MAX_SECRET_LEN pass → OpensBy locked pass
        → StoresOwn (put_key grip pass)
    -- what the cache gave
    given_new : {id pass : List ℕ} {mode : Mode} {life : Life} → MayPut id mode → IsGivenNew pass → StoresOwn (Put id mode life pass)
    -- what its own prompt accepted, in an IMPORT_KEY, under the nonce that was drawn for it
    under_nonce : {id pin : List ℕ} {force : _} {nonce : Option (List ℕ)} {life : Life} → on_keys request ≡ Some (on.ImportKey force nonce) → IsNonceOf before id
        → IsAccepted rules kept.options request before pin → StoresOwn (Put id Nonce life pin)
    -- its own ticket is given back, and kept is what its own prompt accepted
    accepted : {ticket : ℕ} {pin : List ℕ} → HasTicket ticket → IsAccepted rules kept.options request before pin → StoresOwn (Close ticket (Some pin))
    -- or, in a PASSWD that asked for the old passphrase alone, what the cache gave for the new one
    changed : {ticket : ℕ} {grip : Grip} {old new : Option (List ℕ)} {pass : List ℕ} → on_keys request ≡ Some (on.Passwd grip old new false) → HasTicket ticket → IsGivenNew pass
        → StoresOwn (Close ticket (Some pass))

-- a step that hands a passphrase to the cache
pub data HandsIn : MarkStep → Type 0 where
  puts : {id pass : List ℕ} {mode : Mode} {life : Life} → HandsIn (Put id mode life pass)
  keeps : {ticket : ℕ} {pass : List ℕ} → HandsIn (Close ticket (Some pass))

-- In an exchange each passphrase that is handed to the cache is the request's own.
abbrev pub StoresOwnAlone : Rules → SessionState → Request → List (EventWith PortCall) → Type 0
StoresOwnAlone rules kept request events =
    (before later : List (EventWith PortCall)) (step : MarkStep) (turn : Turn) → events ≡ before ++ cache_turn step turn ∷ later → HandsIn step → StoresOwn rules kept request before step

-- no line is read by it
abbrev pub IsUnreceived : EventWith PortCall → Type 0
IsUnreceived (Received took) = ⊥
IsUnreceived _ = ⊤

module _ (rules : Rules) (exchange : Exchanges) where
  -- lines that were answered, one after another, and what is kept behind them
  pub data Served : SessionState → List (EventWith PortCall) → SessionState → Type 0 where
    none : {kept : SessionState} → Served kept [] kept
    one_more : {before mid after : SessionState} {events more : List (EventWith PortCall)} (line : List ℕ) → exchange before line events mid On → Served mid more after
        → Served before (Received (Line line) ∷ (events ++ more)) after

  -- The same within a session: it is of the last line that was read before, with what was kept then, and of what was done for that line alone.
  pub record StoresOwnIn (start : SessionState) (before : List (EventWith PortCall)) (step : MarkStep) : Type 0 where
    pub front : List (EventWith PortCall)
    pub kept : SessionState
    pub served : Served start front kept
    pub line : List ℕ
    pub own : List (EventWith PortCall)
    pub before_is : before ≡ Sent (line_of greeting) ∷ (front ++ Received (Line line) ∷ own)
    pub alone : AllByRecursion IsUnreceived own
    pub stores : StoresOwn rules kept (request_of line) own step

  abbrev pub StoresOwnThroughout : SessionState → List (EventWith PortCall) → Type 0
  StoresOwnThroughout start events =
      (before later : List (EventWith PortCall)) (step : MarkStep) (turn : Turn) → events ≡ before ++ cache_turn step turn ∷ later → HandsIn step → StoresOwnIn start before step

-- ---- what is written

-- a line that has no passphrase in it
pub data IsPublic (rules : Rules) : List ℕ → Type 0 where
  error : (why : Code) (origin : Origin) → IsPublic rules (line_of (error_text why origin))
  done : IsPublic rules ok
  closes : IsPublic rules closing
  helps : IsPublic rules help
  tells : (what : Info) {text : List ℕ} → IsInfo rules what text → IsPublic rules text
  notice : {text : List ℕ} → IsNotice text → IsPublic rules text

module _ (rules : Rules) (options : OptionValues) (request : Request) (before : List (EventWith PortCall)) where
  -- the passphrase that a request with these fields asked for
  pub data IsAnswered (fields : GetFields) : List ℕ → Type 0 where
    -- the cache gave it to its question, for itself alone or before a prompt
    cached : {id : List ℕ} {grant : Grant} → fields.id ≡ Some id → Has (cache_turn (ask id) (Given grant)) before → IsAnswered fields grant.entry.secret
    unprompted : {id : List ℕ} {grant : Grant} → fields.id ≡ Some id → Has (cache_turn (ask_or_open id) (Given grant)) before → IsAnswered fields grant.entry.secret
    typed : {pin : List ℕ} → IsAccepted rules options request before pin → IsAnswered fields pin
    from_client : {pass : List ℕ} → IsSent before (codes "PASSPHRASE") MAX_SECRET_LEN pass → IsAnswered fields pass

  pub data SaysOwn : List ℕ → Type 0 where
    public : {text : List ℕ} → IsPublic rules text → SaysOwn text
    passphrase : {pass text : List ℕ} (fields : GetFields) → request ≡ Cache (get_passphrase fields) → IsAnswered fields pass → IsPassphrase fields.plain pass text → SaysOwn text

-- so of each line that is written for a request
abbrev pub SaysOwnAlone : Rules → OptionValues → Request → List (EventWith PortCall) → Type 0
SaysOwnAlone rules options request events =
    (before later : List (EventWith PortCall)) (text : List ℕ) → events ≡ before ++ Sent text ∷ later → SaysOwn rules options request before text

-- ---- requests on keys, none of whose lines has a passphrase in it

module _ (rules : Rules) (kept : SessionState) (request : Request) (before : List (EventWith PortCall)) where
  -- the wrapping key of a direction: the one that the session keeps, or else one that the request drew
  pub data IsWrapKey (way : Direction) (key : List ℕ) : Type 0 where
    had : wrap_key way kept.wraps ≡ Some key → IsWrapKey way key
    drew : IsDrawn before 16 key → IsWrapKey way key

  -- what such a request is told
  pub data TellsOfKeys : List ℕ → Type 0 where
    fails : (why : Code) (origin : Origin) → TellsOfKeys (line_of (error_text why origin))
    succeeds : TellsOfKeys ok
    notes : {text : List ℕ} → IsNotice text → TellsOfKeys text
    -- the grips of the keys that there are, as they were listed
    listed : {answer : KeyNames} {grips : List Grip} {text : List ℕ} → on_keys request ≡ Some on.ListGrips → Has (Port (Keys (Listed answer))) before → grips_in answer ≡ Some grips
        → IsDataAnswer (grips_bytes grips) text → TellsOfKeys text
    -- what is known of a key
    known : {grip : Grip} (is_cached clear : Bool) → on_keys request ≡ Some (on.KeyInfo grip) → TellsOfKeys (info_line grip is_cached clear ++ ok)
    -- the nonce that was drawn for it
    drawn : {force : Bool} {id : Option (List ℕ)} {bytes : List ℕ} → on_keys request ≡ Some (on.ImportKey force id) → IsDrawn before 32 bytes → TellsOfKeys (nonce_line (hex_text (drop 20 bytes)) ++ ok)
    -- the wrapping key of its session, and the key that was asked for, as it was read and as the request opened it, which this one wrapped
    wrap : {way : Direction} {key text : List ℕ} → on_keys request ≡ Some (on.KeyWrap way) → IsWrapKey way key → IsDataAnswer key text → TellsOfKeys text
    wrapped : {grip : Grip} {id : Option (List ℕ)} {by text : List ℕ} (key : Key) → on_keys request ≡ Some (on.ExportKey grip id) → kept.wraps.export ≡ Some by
        → OpensRead before rules kept.options request grip key → IsDataAnswer (wrapped_key by key) text → TellsOfKeys text

-- so of each line that is written for it
abbrev pub TellsOfKeysAlone : Rules → SessionState → Request → List (EventWith PortCall) → Type 0
TellsOfKeysAlone rules kept request events =
    (before later : List (EventWith PortCall)) (text : List ℕ) → events ≡ before ++ Sent text ∷ later → TellsOfKeys rules kept request before text
