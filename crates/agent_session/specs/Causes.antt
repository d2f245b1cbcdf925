-- Why a request is answered by an error line: what must have happened in its exchange, for each code. The codes and their causes are this project's
-- own.
use Rattle.std.specs.Prelude.{◌≡◌, ◌<◌, ◌⊎◌, ◌++◌, ℕ, Bool, true, false, List, [], ◌∷◌, length, map, take, drop, codes, Option, Some, None, Result, Ok, Err, ⊤}
use Rattle.{arrayvec.specs.ArrayVec.ArrayVec, agent_ask.specs.Events.{Call, GetPin, Confirm, Start, Called, OutOfMemory, PromptEvent}}
use Rattle.agent_ask.specs.{Session.PortCalls.{PortCall, KeyCall, Read, Listed, Replaced, Removed, Drew, NotDrawn, Prompt, Keys, Dice, Trust, NoMemory}, Prompters.is_failed, Plans.plan_of, Prompts.AsksPin}
use Rattle.agent_ask.specs.{Session.{SessionEvents.{Inquiry, CacheTurn, Port, cache_turn}, TrustCalls.TrustCall}, SessionPrompts.AnyInSession, declared.prompt.{ask.Asked.Asked, spec.{AskPlan.AskPlan, PromptSpec.PromptSpec}}}
use Rattle.{agent_ports.specs.declared.{grip.Grip.Grip, keys.KeyRead.KeyRead}, assuan_server.specs.{Clients.session_lines, declared.errors.Origin.{Origin, TheVariants.{Agent, Pinentry}}}, session_client.specs.declared.code.Code.Code}
use Rattle.{session_client.specs.{declared.client_error.ClientError.ClientError, Asking.said_by}, cache_policy.specs.{Turns.{Turn, Given, Empty, Stopping, Late, Refused, closes}, declared.{grant.Grant.Grant, mark.{MarkStep.MarkStep, Way.Way}}}}
use Rattle.{cache_policy.specs.declared.secret.TheConstants.MAX_SECRET_LEN, secret_file.specs.{Answers.IsLockedFault, Opens.{LockedKey, IsLocked, OpensTo}, Protects.{ocb_protection, protected_file}}, key_lines.specs.Canon.is_canonical}
use Rattle.{session_options.specs.{OptionValues.{OptionValues, applied}, declared.{options.OptionAnswer.OptionAnswer, rules.Rules.Rules}}, sexp_canonical.specs.Spelling.most_bytes, sexp_keys.specs.{Key.Key, Lists.{grip_of, key_list_of}}}
use Rattle.{sexp_keys.specs.declared.fault.KeyFault.KeyFault, agent_commands.specs.{Events.{EventWith, Inquired}, Exchanges.is_quiet, Passphrases.ask, Requests.{GetFields, get_passphrase}}}
use Rattle.{agent_commands.specs.declared.request.{CacheCommand.TheVariants.{SetOption, PresetPassphrase, GetConfirmation}, Request.{Request, TheVariants.{Cache, Key as OnKeys, Bad}}, Texts.Texts}, key_commands.specs.Lines.max_key_data}
use Rattle.key_commands.specs.{Faults.fault_code, Files.{FileSays, IsWithList}, KeyActions.file_in, Passphrases.{OpensBy, ask_nonce, ask_key}, Requests.key_request_of, Wrapping.WrappedSays, declared.request.KeyRequest.KeyRequest}
use Rattle.{key_commands.specs.declared.wrapping.TheConstants.MAX_LIST_LEN, agent_origin.specs.declared.session_state.SessionState.SessionState}
use Rattle.agent_ask.specs.Plans as plans
use Rattle.agent_ask.specs.Session.TrustCalls as trust_call
use Rattle.agent_ask.specs.declared.prompt.ask.Asked.TheVariants as asked
use Rattle.agent_ask.specs.declared.prompt.prompter.Consent.TheVariants as consent
use Rattle.agent_ask.specs.declared.prompt.prompter.Opened.TheVariants as opened
use Rattle.agent_ask.specs.declared.prompt.prompter.Outcome.TheVariants as outcome
use Rattle.agent_ports.specs.declared.keys.KeyDone.TheVariants as key_done
use Rattle.agent_ports.specs.declared.keys.KeyNames.TheVariants as key_names
use Rattle.agent_ports.specs.declared.keys.KeyRead.TheVariants as key_read
use Rattle.agent_ports.specs.declared.trust.TrustDone.TheVariants as trust_done
use Rattle.agent_ports.specs.declared.trust.TrustRead.TheVariants as trust_read
use Rattle.session_client.specs.declared.code.Code.TheVariants as code
use Rattle.session_client.specs.declared.client_error.Gone.TheVariants as gone
use Rattle.session_client.specs.declared.client_error.ClientError.TheVariants as client_error
use Rattle.session_options.specs.declared.options.OptionAnswer.TheVariants as option_answer
use Rattle.session_options.specs.declared.options.PinMode.TheVariants as mode
use Rattle.key_commands.specs.declared.request.KeyRequest.TheVariants as on

-- ---- events among others

-- it is among these
pub data Has {E : Type 0} (event : E) : List E → Type 0 where
  here : {more : List E} → Has event (event ∷ more)
  later : {first : E} {more : List E} → Has event more → Has event (first ∷ more)

-- they stand among those, one after another
pub record StandIn {E : Type 0} (action whole : List E) : Type 0 where
  pub before : List E
  pub after : List E
  pub is : whole ≡ before ++ (action ++ after)

-- ---- what single events say

-- a call of the keys found no memory, or failed
abbrev pub WantsMemoryAtKeys : KeyCall → Type 0
WantsMemoryAtKeys (Read grip key_read.NoMemory) = ⊤
WantsMemoryAtKeys (Listed key_names.NoMemory) = ⊤
WantsMemoryAtKeys (Replaced grip file key_done.NoMemory) = ⊤
WantsMemoryAtKeys (Removed grip key_done.NoMemory) = ⊤
WantsMemoryAtKeys _ = ⊥

abbrev pub FailsAtKeys : KeyCall → Type 0
FailsAtKeys (Read grip key_read.Failed) = ⊤
FailsAtKeys (Listed key_names.Failed) = ⊤
FailsAtKeys (Replaced grip file key_done.Failed) = ⊤
FailsAtKeys (Removed grip key_done.Failed) = ⊤
FailsAtKeys _ = ⊥

-- the same of a call of the trust file
abbrev pub WantsMemoryAtTrust : TrustCall → Type 0
WantsMemoryAtTrust (trust_call.Read trust_read.NoMemory) = ⊤
WantsMemoryAtTrust (trust_call.Replaced file trust_done.NoMemory) = ⊤
WantsMemoryAtTrust _ = ⊥

abbrev pub FailsAtTrust : TrustCall → Type 0
FailsAtTrust (trust_call.Read trust_read.Failed) = ⊤
FailsAtTrust (trust_call.Replaced file trust_done.Failed) = ⊤
FailsAtTrust _ = ⊥

-- an event that is a want of memory: a turn that was refused, a test of a passphrase, a call of the keys or of the trust file, or work of the command's own
abbrev pub WantsMemory : EventWith PortCall → Type 0
WantsMemory (CacheTurn taken) = taken.turn ≡ Refused
WantsMemory (Port NoMemory) = ⊤
WantsMemory (Port (Prompt OutOfMemory)) = ⊤
WantsMemory (Port (Keys call)) = WantsMemoryAtKeys call
WantsMemory (Port (Trust call)) = WantsMemoryAtTrust call
WantsMemory _ = ⊥

-- a call of the keys that failed, or a draw
abbrev pub FailsAtKeysOrDice : EventWith PortCall → Type 0
FailsAtKeysOrDice (Port (Keys call)) = FailsAtKeys call
FailsAtKeysOrDice (Port (Dice (NotDrawn count))) = ⊤
FailsAtKeysOrDice _ = ⊥

-- what the prompter answered to a question: the user cancelled it, didn't answer in time, or didn't agree; or the child broke the protocol
abbrev pub is_cancelled : Call → Bool
is_cancelled (GetPin error outcome.Cancelled) = true
is_cancelled (Confirm consent.Cancelled) = true
is_cancelled _ = false

abbrev pub is_timed_out : Call → Bool
is_timed_out (GetPin error outcome.TimedOut) = true
is_timed_out (Confirm consent.TimedOut) = true
is_timed_out _ = false

abbrev pub is_disagreed : Call → Bool
is_disagreed (Confirm consent.No) = true
is_disagreed _ = false

abbrev pub is_broken : Call → Bool
is_broken (Start spec (opened.Broken breach)) = true
is_broken (GetPin error (outcome.Broken breach)) = true
is_broken (Confirm (consent.Broken breach)) = true
is_broken _ = false

-- a turn by which no entry was given
abbrev pub IsNoGrant : Turn → Type 0
IsNoGrant (Given grant) = ⊥
IsNoGrant _ = ⊤

-- ---- what a request asks for

-- what it asks of the keys, where it does
abbrev pub on_keys : Request → Option KeyRequest
on_keys (OnKeys line) = Some (key_request_of line.items)
on_keys _ = None

-- its line is refused by this code, as a request or as one on keys
abbrev pub IsRefusedBy : Request → Code → Type 0
IsRefusedBy request why = (request ≡ Bad why) ⊎ (on_keys request ≡ Some (on.Bad why))

-- it asks the user for consent
pub data AsksForConsent (request : Request) : Type 0 where
  confirmation : {description : ArrayVec ℕ} → request ≡ Cache (GetConfirmation description) → AsksForConsent request
  deletion : {grip : Grip} → on_keys request ≡ Some (on.DeleteKey grip false) → AsksForConsent request

-- it wants the key of this grip opened, where that is protected
pub data Unlocks (request : Request) (grip : Grip) : Type 0 where
  exports : {nonce : Option (List ℕ)} → on_keys request ≡ Some (on.ExportKey grip nonce) → Unlocks request grip
  changes : {old new : Option (List ℕ)} {verify : Bool} → on_keys request ≡ Some (on.Passwd grip old new verify) → Unlocks request grip

-- the nonce under which it looks first for the passphrase of the key that it wants opened
pub data NamesOld (request : Request) (grip : Grip) (nonce : List ℕ) : Type 0 where
  of_export : on_keys request ≡ Some (on.ExportKey grip (Some nonce)) → NamesOld request grip nonce
  of_change : {new : Option (List ℕ)} → on_keys request ≡ Some (on.Passwd grip (Some nonce) new false) → NamesOld request grip nonce

-- how the user is asked for the old passphrase of a key, and for a new one
abbrev pub old_plan : Rules → OptionValues → AskPlan
old_plan rules options = plan_of rules options (plans.text []) false 0

abbrev pub new_plan : Rules → OptionValues → AskPlan
new_plan rules options = plan_of rules options (plans.text []) true 1

-- it asks the user so for a passphrase, where every one is right
pub data AsksAny (rules : Rules) (options : OptionValues) (request : Request) : AskPlan → Type 0 where
  wanted : (fields : GetFields) {texts : Texts} → request ≡ Cache (get_passphrase fields) → fields.texts ≡ Some texts
      → AsksAny rules options request (plan_of rules options texts.error fields.check fields.repeat)
  of_new : {grip : Grip} {old new : Option (List ℕ)} → on_keys request ≡ Some (on.Passwd grip old new false) → AsksAny rules options request (new_plan rules options)
  of_import : {force : Bool} {nonce : Option (List ℕ)} → on_keys request ≡ Some (on.ImportKey force nonce) → AsksAny rules options request (new_plan rules options)

-- it wants to know what the file of this key says, and ends by a fault of it
pub data Judges (request : Request) (grip : Grip) : Type 0 where
  tells : on_keys request ≡ Some (on.KeyInfo grip) → Judges request grip
  unlocks : Unlocks request grip → Judges request grip

module _ (events : List (EventWith PortCall)) where
  -- ---- what happened in an exchange with these events

  -- some event is so
  pub data HasOne (Is : EventWith PortCall → Type 0) : Type 0 where
    one : (event : EventWith PortCall) → Is event → Has event events → HasOne Is

  -- a call of the prompter was answered so
  pub data HasCall (is : Call → Bool) : Type 0 where
    called : (call : Call) → is call ≡ true → Has (Port (Prompt (Called call))) events → HasCall is

  -- a call of the trust file is so
  pub data HasTrustCall (Is : TrustCall → Type 0) : Type 0 where
    called_trust : (call : TrustCall) → Is call → Has (Port (Trust call)) events → HasTrustCall Is

  -- a turn came out so, but one that gives a ticket back
  pub data HasTurn (turn : Turn) : Type 0 where
    turned : (step : MarkStep) → closes step ≡ None → Has (cache_turn step turn) events → HasTurn turn

  -- the cache was asked so, and gave no entry
  pub data GivesNone (step : MarkStep) : Type 0 where
    none_given : (turn : Turn) → IsNoGrant turn → Has (cache_turn step turn) events → GivesNone step

  -- or none whose passphrase opens this key
  pub data GivesNoneFor (locked : LockedKey) (step : MarkStep) : Type 0 where
    none_at_all : GivesNone step → GivesNoneFor locked step
    wrong : {grant : Grant} → Has (cache_turn step (Given grant)) events → ¬ OpensBy locked grant.entry.secret → GivesNoneFor locked step

  -- the same of a question for what is cached under a nonce, where there is one
  abbrev pub ByNonce : (MarkStep → Type 0) → Option (List ℕ) → Type 0
  ByNonce IsSo None = ⊤
  ByNonce IsSo (Some nonce) = IsSo (ask_nonce nonce)

  -- the client said this in place of what an inquiry wanted
  pub data IsSaid (why : ClientError) : Type 0 where
    said : {word params : List ℕ} {limit : ℕ} {inquired : Inquired} → said_by session_lines inquired ≡ Err why → Has (Inquiry word params limit inquired) events → IsSaid why

  -- the client gave these bytes, by an inquiry with this word
  pub data IsSent (word : List ℕ) (limit : ℕ) (bytes : List ℕ) : Type 0 where
    sent : {inquired : Inquired} → said_by session_lines inquired ≡ Ok bytes → Has (Inquiry word [] limit inquired) events → IsSent word limit bytes

  -- the file of this key was read, and says this
  pub data IsRead (grip : Grip) (says : Result Key KeyFault) : Type 0 where
    read : {answer : KeyRead} {file : List ℕ} → file_in answer ≡ Some file → FileSays file says → Has (Port (Keys (Read grip answer))) events → IsRead grip says

  -- the file of this key was read, and has these bytes
  pub data IsReadOf (grip : Grip) (file : List ℕ) : Type 0 where
    read_of : {answer : KeyRead} → file_in answer ≡ Some file → Has (Port (Keys (Read grip answer))) events → IsReadOf grip file

  -- so many random bytes were drawn
  pub record IsDrawn (count : ℕ) (bytes : List ℕ) : Type 0 where
    pub long : length bytes ≡ count
    pub has : Has (Port (Dice (Drew bytes))) events

  -- the list of a clear key once it is protected by this passphrase: with a salt of 8 bytes that were drawn, and an initialization vector of 12
  pub data IsListOf (key : Key) (pass : List ℕ) (count : ℕ) (list : List ℕ) : Type 0 where
    protected : {drawn : List ℕ} → IsDrawn 20 drawn → list ≡ protected_file key (ocb_protection key pass (take 8 drawn) (drop 8 drawn) count None) None → IsListOf key pass count list

  -- the key of this grip, whose file was read, is locked so
  pub record IsReadLocked (grip : Grip) (locked : LockedKey) : Type 0 where
    pub key : IsRead grip (Ok locked.key)
    pub protection : IsLocked locked

  -- one prompt in it came to this answer, with this plan, where a passphrase is right by this rule
  pub record HasPrompt (plan : AskPlan) (Rule : List ℕ → Type 0) (answer : Asked) : Type 0 where
    pub spec : PromptSpec
    pub prompt : List PromptEvent
    pub shown : List (EventWith PortCall)
    pub asks : AsksPin spec plan Rule prompt answer
    pub in_session : AnyInSession session_lines prompt shown
    pub stands : StandIn shown events

  module _ (rules : Rules) (options : OptionValues) (request : Request) where
    -- how the request comes by a passphrase of this key: it is cached under its nonce, or under the key; its client gave it; or its prompt accepted it
    pub data ComesBy (grip : Grip) (locked : LockedKey) : List ℕ → Type 0 where
      cached_by_nonce : {nonce : List ℕ} {grant : Grant} → NamesOld request grip nonce → Has (cache_turn (ask_nonce nonce) (Given grant)) events → ComesBy grip locked grant.entry.secret
      cached_by_key : {grant : Grant} (way : Way) → Has (cache_turn (ask_key grip way) (Given grant)) events → ComesBy grip locked grant.entry.secret
      sent_by_client : {pass : List ℕ} → options.mode ≡ mode.Loopback → IsSent (codes "PASSPHRASE") MAX_SECRET_LEN pass → ComesBy grip locked pass
      typed_by_user : {pin : List ℕ} → HasPrompt (old_plan rules options) (OpensBy locked) (asked.Pin pin) → ComesBy grip locked pin

    -- the key is this one and clear, or the request opened it to this one
    pub data OpensRead (grip : Grip) (key : Key) : Type 0 where
      is_clear : IsRead grip (Ok key) → key.is_clear ≡ true → OpensRead grip key
      opens : {locked : LockedKey} {pass : List ℕ} → IsReadLocked grip locked → ComesBy grip locked pass → OpensTo locked pass key → OpensRead grip key

    -- a prompt of the request's came to three tries that failed, at which every passphrase was right, or one that opens its key
    pub data IsBadPrompt : Type 0 where
      any : {plan : AskPlan} → AsksAny rules options request plan → HasPrompt plan (λ pin. ⊤) asked.Bad → IsBadPrompt
      opening : {grip : Grip} {locked : LockedKey} → Unlocks request grip → IsReadLocked grip locked → HasPrompt (old_plan rules options) (OpensBy locked) asked.Bad → IsBadPrompt

  -- no entry that is of use to the request was given: for its passphrase; for the old one of a key, or a new one; and consent is in no cache
  pub data HasNoEntry (request : Request) : Type 0 where
    without_id : (fields : GetFields) → request ≡ Cache (get_passphrase fields) → fields.id ≡ None → HasNoEntry request
    passphrase : (fields : GetFields) (id : List ℕ) → request ≡ Cache (get_passphrase fields) → fields.id ≡ Some id → GivesNone (ask id) → HasNoEntry request
    exported : {grip : Grip} {id : Option (List ℕ)} {locked : LockedKey} (way : Way) → on_keys request ≡ Some (on.ExportKey grip id) → IsReadLocked grip locked → ByNonce (GivesNoneFor locked) id
        → GivesNoneFor locked (ask_key grip way) → HasNoEntry request
    changed : {grip : Grip} {id new : Option (List ℕ)} {locked : LockedKey} (way : Way) → on_keys request ≡ Some (on.Passwd grip id new false) → IsReadLocked grip locked
        → ByNonce (GivesNoneFor locked) id → GivesNoneFor locked (ask_key grip way) → HasNoEntry request
    -- whatever is cached
    verified : {grip : Grip} {old new : Option (List ℕ)} {locked : LockedKey} → on_keys request ≡ Some (on.Passwd grip old new true) → IsReadLocked grip locked → HasNoEntry request
    imported : {force : Bool} {id : Option (List ℕ)} → on_keys request ≡ Some (on.ImportKey force id) → ByNonce GivesNone id → HasNoEntry request
    renewed : {grip : Grip} {old id : Option (List ℕ)} → on_keys request ≡ Some (on.Passwd grip old id false) → ByNonce GivesNone id → HasNoEntry request
    of_consent : AsksForConsent request → HasNoEntry request

  -- a read, or a removal, said that no key of this grip is there
  abbrev pub IsUnread : Grip → Type 0
  IsUnread grip = Has (Port (Keys (Read grip key_read.Absent))) events

  abbrev pub IsUnremoved : Grip → Type 0
  IsUnremoved grip = Has (Port (Keys (Removed grip key_done.Absent))) events

  -- these were read one after another, and each read said so
  abbrev pub AreUnread : List Grip → Type 0
  AreUnread grips = StandIn (map (λ grip. Port (Keys (Read grip key_read.Absent))) grips) events

  -- of the keys that a request names none is there
  abbrev pub LacksKeys : Option KeyRequest → Type 0
  LacksKeys (Some (on.HaveKey grips)) = AreUnread grips
  LacksKeys (Some (on.KeyInfo grip)) = IsUnread grip
  LacksKeys (Some (on.ExportKey grip id)) = IsUnread grip
  LacksKeys (Some (on.Passwd grip old new verify)) = IsUnread grip
  LacksKeys (Some (on.DeleteKey grip force)) = IsUnread grip ⊎ IsUnremoved grip
  LacksKeys _ = ⊥

  module _ (rules : Rules) (kept : SessionState) (request : Request) where
    -- ---- the causes of each code

    -- OPTION was answered so
    pub data IsOption (answer : OptionAnswer) : Type 0 where
      option : {text : ArrayVec ℕ} → request ≡ Cache (SetOption text) → (applied kept.options text.items).answer ≡ answer → IsOption answer

    -- the bytes that the client sent for a key say this, under the wrapping key
    pub data KeyDataSays (says : Result Key Code) : Type 0 where
      data_says : {wrap wrapped : List ℕ} → kept.wraps.import ≡ Some wrap → IsSent (codes "KEYDATA") max_key_data wrapped → WrappedSays wrap wrapped says → KeyDataSays says

    -- the file that the request is about has a fault, or the protection has of the key that it wants opened, or the bytes that the client sent for a key
    pub data IsFaulty (why : Code) : Type 0 where
      file : {grip : Grip} {fault : KeyFault} → Judges request grip → IsRead grip (Err fault) → fault_code fault ≡ why → IsFaulty why
      protection : {grip : Grip} {key : Key} {fault : KeyFault} → Unlocks request grip → IsRead grip (Ok key) → key.is_clear ≡ false → IsLockedFault key fault → fault_code fault ≡ why
          → IsFaulty why
      key_data : KeyDataSays (Err why) → IsFaulty why

    -- the request is for the cache alone, which has nothing under the id, or there is no id
    pub data HasNoData : Type 0 where
      no_id : (fields : GetFields) → request ≡ Cache (get_passphrase fields) → is_quiet fields.no_ask fields.texts ≡ true → fields.id ≡ None → HasNoData
      empty : (fields : GetFields) (id : List ℕ) → request ≡ Cache (get_passphrase fields) → is_quiet fields.no_ask fields.texts ≡ true → fields.id ≡ Some id
          → Has (cache_turn (ask id) Empty) events → HasNoData

    -- the client wants no prompt, and no entry is of use; the client cancelled its inquiry; or the agent ends
    pub data IsCancelled : Type 0 where
      by_mode : kept.options.mode ≡ mode.Cancel → HasNoEntry request → IsCancelled
      by_client : IsSaid client_error.Cancelled → IsCancelled
      by_stop : HasTurn Stopping → IsCancelled

    -- the client wants no prompt, and no entry is of use; or it wants none for consent
    pub data IsUnprompted : Type 0 where
      by_mode : kept.options.mode ≡ mode.Error → HasNoEntry request → IsUnprompted
      of_consent : AsksForConsent request → kept.options.mode ≡ mode.Loopback → IsUnprompted

    -- no passphrase was right: at a prompt; or the client was to give one by itself, and its own doesn't open the key, or is an empty new one
    pub data HasBadPassphrase : Type 0 where
      at_prompt : IsBadPrompt rules kept.options request → HasBadPassphrase
      stays : {grip : Grip} {locked : LockedKey} {pass : List ℕ} → kept.options.mode ≡ mode.Loopback → Unlocks request grip → IsReadLocked grip locked
          → IsSent (codes "PASSPHRASE") MAX_SECRET_LEN pass → ¬ OpensBy locked pass → HasBadPassphrase
      empty : kept.options.mode ≡ mode.Loopback → IsSent (codes "NEW_PASSPHRASE") MAX_SECRET_LEN [] → HasBadPassphrase

    -- the line is out of form, or an option's value, or no wrapping key was drawn
    pub data IsMalformed : Type 0 where
      line : IsRefusedBy request code.Parameter → IsMalformed
      option : IsOption option_answer.Parameter → IsMalformed
      no_import : {force : Bool} {nonce : Option (List ℕ)} → on_keys request ≡ Some (on.ImportKey force nonce) → kept.wraps.import ≡ None → IsMalformed
      no_export : {grip : Grip} {nonce : Option (List ℕ)} → on_keys request ≡ Some (on.ExportKey grip nonce) → kept.wraps.export ≡ None → IsMalformed

    -- the line asks for what the agent doesn't have, or the rules don't allow it, or it is about a key of a kind that the agent doesn't have
    pub data IsUnsupported : Type 0 where
      line : IsRefusedBy request code.NotSupported → IsUnsupported
      option : IsOption option_answer.NotSupported → IsUnsupported
      preset : {id : List ℕ} {life : _} {secret : Option (List ℕ)} → request ≡ Cache (PresetPassphrase id life secret) → rules.allow_preset ≡ false → IsUnsupported
      key : IsFaulty code.NotSupported → IsUnsupported

    -- a key that isn't one, or whose list is too long to be written again, or the new file with it, which is in the extended format
    pub data IsBadKey : Type 0 where
      faulty : IsFaulty code.BadSecKey → IsBadKey
      long : {grip : Grip} {old new : Option (List ℕ)} {key : Key} → on_keys request ≡ Some (on.Passwd grip old new false)
          → OpensRead rules kept.options request grip key → MAX_LIST_LEN < length (key_list_of key) → IsBadKey
      long_file : {grip : Grip} {old new : Option (List ℕ)} {file list changed : List ℕ} {key : Key} (pass : List ℕ) → on_keys request ≡ Some (on.Passwd grip old new false) → IsReadOf grip file
          → is_canonical file ≡ false → OpensRead rules kept.options request grip key → IsListOf key pass kept.options.s2k_count list → IsWithList file list changed → most_bytes < length changed → IsBadKey

    -- the file of the key that the client sent is there, and isn't to be replaced
    pub data IsThere : Type 0 where
      there : {key : Key} {grip : Grip} {file : _} {nonce : Option (List ℕ)} → on_keys request ≡ Some (on.ImportKey false nonce) → KeyDataSays (Ok key) → grip.0 ≡ grip_of key
          → Has (Port (Keys (Read grip (key_read.Found file)))) events → IsThere

    -- an error line with this code and origin has its cause in this exchange
    abbrev pub IsCaused : Code → Origin → Type 0
    IsCaused code.Cancelled Pinentry = HasCall is_cancelled
    IsCaused code.Timeout Pinentry = HasCall is_timed_out
    IsCaused code.NotConfirmed Pinentry = HasCall is_disagreed
    IsCaused code.General Agent = HasOne FailsAtKeysOrDice
    IsCaused code.NoMemory Agent = HasOne WantsMemory
    IsCaused code.NoData Agent = HasNoData
    IsCaused code.Cancelled Agent = IsCancelled
    IsCaused code.Timeout Agent = HasTurn Late
    IsCaused code.NoPinentry Agent = IsUnprompted ⊎ (HasCall is_failed ⊎ HasCall is_broken)
    IsCaused code.BadPass Agent = HasBadPassphrase
    IsCaused code.NoSecKey Agent = LacksKeys (on_keys request)
    IsCaused code.FileExists Agent = IsThere
    IsCaused code.Checksum Agent = KeyDataSays (Err code.Checksum)
    IsCaused code.InvSexp Agent = IsFaulty code.InvSexp
    IsCaused code.BadSecKey Agent = IsBadKey
    IsCaused code.NotSupported Agent = IsUnsupported
    IsCaused code.UnknownCommand Agent = IsRefusedBy request code.UnknownCommand
    IsCaused code.UnknownOption Agent = IsOption option_answer.Unknown
    IsCaused code.Parameter Agent = IsMalformed
    IsCaused code.TooMuch Agent = IsSaid client_error.TooMuch
    IsCaused code.Unexpected Agent = IsSaid client_error.Unexpected
    IsCaused code.LineTooLong Agent = IsSaid (client_error.Gone gone.TooLong)
    IsCaused _ _ = ⊥
