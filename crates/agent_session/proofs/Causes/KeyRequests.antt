-- Requests on keys, each of whose refusals has its cause.
use Rattle.std.proofs.Common.{◌≡◌, ◌≢◌, ◌==◌, ℕ, Bool, true, false, List, [], ◌∷◌, ◌++◌, length, codes, Option, Some, None, Result, Ok, Err, refl, sym, ap, ◌∙◌, subst, append_assoc, append-nil, inl, inr, arith}
use Rattle.std.{proofs.lemmas.{Bool.Decides.nat_tests, List.{map-append, nil_from_length}}, specs.Prelude.{⊤, not, map, take, drop}}
use Rattle.{agent_ask.specs.Session.{PortCalls.{PortCall, Keys, Read, Replaced}, SessionEvents.{Port, cache_turn}, Actions.{Returns, needed, or_else, wanted}}, agent_ports.specs.declared.{grip.Grip.Grip, keys.KeyRead.KeyRead}}
use Rattle.{session_client.specs.declared.{code.Code.Code, refusal.Refusal.{Refusal, TheVariants.Agent}}, assuan_server.specs.{declared.errors.Origin.TheVariants.Agent as OfAgent, Written.limit_line}}
use Rattle.{cache_policy.specs.{Turns.{Refused, Empty, Stopping}, declared.secret.TheConstants.MAX_SECRET_LEN}, secret_file.specs.{Opens.LockedKey, Protects.{ocb_protection, protected_file}}, session_options.specs.OptionValues.OptionValues}
use Rattle.{session_options.specs.declared.{options.PinMode.PinMode, rules.Rules.Rules}, sexp_keys.specs.{Key.Key, Lists.grip_of}, agent_commands.specs.{Events.EventWith, declared.request.Request.Request}}
use Rattle.key_commands.specs.Lines.{max_key_data}
use Rattle.key_commands.specs.Exchanges.{KeyReply, HaveKeyReplies, ListGripsReplies, KeyInfoReplies, ListKeysReplies, KeyWrapReplies, ImportKeyReplies, ExportKeyReplies, PasswdReplies, VerifyReplies, DeleteKeyReplies, KeyReplies, wrap_key}
use Rattle.key_commands.specs.{Exchanges.{StoresKey, FoundOrNew, RenewsPassphrase, RewritesFile, ChangesOpened}, Files.Rewrites}
use Rattle.key_commands.specs.KeyActions.{Tells, tells, Protects, IsShort, HasOne as HasOneKey, TellsKeyInfo, ListsGrips, JoinsGrips, ReadsListed, WritesInfo, TellsListed, WritesInfos, AsksKeyData, Unwraps, ReceivesKey, NamesKey, IsFree}
use Rattle.key_commands.specs.{KeyActions.{LooksOver, WrapsKey, Consents}, Actions.{Action, read_fault}, Passphrases.{ClientOld, UncachedOld, OpensLocked, OldPassphrase, VerifiesPassphrase, ClientNew, NewPassphrase, ask_key, way_of}}
use Rattle.{key_commands.specs.{Wrapping.WrappedSays, declared.request.KeyRequest.KeyRequest}, agent_origin.specs.declared.session_state.SessionState.SessionState}
use Rattle.agent_session.specs.Causes.{Has, here, StandIn, IsCaused, IsSent, AreUnread, LacksKeys, on_keys, IsRefusedBy, one, IsRead, IsReadOf, IsDrawn, IsListOf, protected, IsReadLocked, OpensRead, Unlocks, exports, NamesOld, of_export}
use Rattle.agent_session.specs.Causes.{of_change, ComesBy, AsksAny, of_new, of_import, new_plan, is_clear, key_data, KeyDataSays, data_says, faulty, long, long_file, by_mode, deletion, stays, empty, no_import, no_export, there, GivesNone}
use Rattle.agent_session.specs.{Causes.{none_given, GivesNoneFor, ByNonce, HasNoEntry, exported, changed, verified, imported, renewed, IsUnprompted}, Completeness.IsStatus}
use Rattle.agent_session.proofs.Causes.Explaining.{Caused, Comes, Explains, Anything, IsFound, bind, whatever, returned, refused, is_needed, or_otherwise, is_wanted, seats, changes, peeks, closes_explained, writes, inquires, asks_client}
use Rattle.agent_session.proofs.Causes.{Explaining.{finds, draws, out_of_memory_first, out_of_memory_second, looks}, Asides.{info_status, limit_status}, Faulty.first_fault_said}
use Rattle.agent_session.proofs.Causes.KeyActions.{Either, fault_caused, looks_for_nonce, takes_seat, keeps_new, locks, tries, tries_found, prompts_old, prompts_any, agrees, reads_file, removes, replaces, OpensHere, comes_of}
use Rattle.agent_session.proofs.{Causes.{KeyActions.{comes_by_nonce, FoundByNonce, nonce_none, none_opens, nonce_none_opens}, Replying.{IsReply, reply_ok, reply_status, reply_nonce, reply_keys}}, Standing.{has_first, has_in, has_right}}
use Rattle.agent_ports.specs.declared.keys.KeyDone.TheVariants as key_done
use Rattle.agent_ports.specs.declared.keys.KeyRead.TheVariants as key_read
use Rattle.session_client.specs.declared.code.Code.TheVariants as code
use Rattle.session_options.specs.declared.options.PinMode.TheVariants as mode
use Rattle.key_commands.specs.Files as files
use Rattle.key_commands.specs.KeyActions as actions
use Rattle.agent_ask.specs.Session.Actions as chain
use Rattle.key_commands.specs.Actions as small
use Rattle.key_commands.specs.Wrapping as wrapping
use Rattle.key_commands.specs.declared.request.KeyRequest.TheVariants as on
use Rattle.agent_session.specs.Causes as causes

module _ (rules : Rules) (kept : SessionState) (request : Request) (whole : List (EventWith PortCall)) where
  abbrev CausedHere : Code → Type 0
  CausedHere = Caused rules kept request whole

  abbrev ComesHere : {A : Type 0} → (A → Type 0) → List (EventWith PortCall) → Result A Refusal → Type 0
  ComesHere = Comes whole (IsCaused whole rules kept request)

  abbrev ExplainsHere : {A : Type 0} → (Option ℕ → List (EventWith PortCall) → Result A Refusal → Option ℕ → Type 0) → (A → Type 0) → Type 0
  ExplainsHere = Explains whole (IsCaused whole rules kept request)

  abbrev Opens : Grip → Key → Type 0
  Opens = OpensHere rules kept request whole

  -- ---- actions that only want memory

  told : (bytes : List ℕ) → ExplainsHere (Tells bytes) IsReply
  told bytes before events result after (tells answer) stands = record { silent = tt; explained = reply_keys answer }

  module _ (key : Key) (pass salt iv : List ℕ) (count : ℕ) where
    abbrev IsProtected : List ℕ → Type 0
    IsProtected list = list ≡ protected_file key (ocb_protection key pass salt iv count None) None

    protects : ExplainsHere (Protects key pass salt iv count) IsProtected
    protects before events result after actions.made stands = record { silent = tt; explained = refl }
    protects before events result after actions.no_memory stands = record { silent = (tt, tt); explained = out_of_memory_first rules kept request whole stands }

  names_key : (key : Key) → ExplainsHere (NamesKey key) (λ grip. grip.0 ≡ grip_of key)
  names_key key before events result after (actions.named is) stands = record { silent = tt; explained = is }
  names_key key before events result after actions.no_memory stands = record { silent = (tt, tt); explained = out_of_memory_first rules kept request whole stands }

  wraps_key : (wrap : List ℕ) (key : Key) → ExplainsHere (WrapsKey wrap key) Anything
  wraps_key wrap key before events result after actions.is_wrapped stands = record { silent = tt; explained = tt }
  wraps_key wrap key before events result after actions.no_memory stands = record { silent = (tt, tt); explained = out_of_memory_first rules kept request whole stands }

  -- nothing was found under a nonce, or something
  abbrev Overlooked : Option (List ℕ) → Option (List ℕ) → Type 0
  Overlooked id None = ByNonce whole (GivesNone whole) id
  Overlooked id (Some pass) = ⊤

  looks_over : (nonce : Option (List ℕ)) → ExplainsHere (LooksOver nonce) (Overlooked nonce)
  looks_over id before events result after actions.no_nonce stands = record { silent = tt; explained = tt }
  looks_over id before events result after (actions.given can) stands = record { silent = (tt, tt); explained = tt }
  looks_over id before events result after actions.empty stands = record { silent = (tt, tt); explained = none_given Empty tt (has_first stands) }
  looks_over id before events result after actions.stopping stands = record { silent = (tt, tt); explained = none_given Stopping tt (has_first stands) }
  looks_over id before events result after actions.no_memory stands = record { silent = (tt, tt); explained = one (cache_turn _ Refused) refl (has_first stands) }

  -- ---- what is known of keys

  tells_info : (grip : Grip) (key : Key) → ExplainsHere (TellsKeyInfo grip key) IsStatus
  tells_info grip key = bind (peeks rules kept request whole grip) (λ cached any. returned IsStatus _ (info_status grip cached key.is_clear))

  lists : ExplainsHere ListsGrips Anything
  lists before events result after (actions.listed is) stands = record { silent = (tt, tt); explained = tt }
  lists before events result after actions.faulted stands = record { silent = (tt, tt); explained = one _ tt (has_first stands) }
  lists before events result after actions.no_memory stands = record { silent = (tt, tt); explained = one _ tt (has_first stands) }

  joins_grips : (grips : List Grip) → ExplainsHere (JoinsGrips grips) Anything
  joins_grips grips before events result after actions.joined stands = record { silent = tt; explained = tt }
  joins_grips grips before events result after actions.no_memory stands = record { silent = (tt, tt); explained = out_of_memory_first rules kept request whole stands }

  unlisted_caused : (grip : Grip) (answer : KeyRead) {why : Code} {more : List (EventWith PortCall)} → answer ≢ key_read.Absent → read_fault answer ≡ Some why
      → StandIn (Port (Keys (Read grip answer)) ∷ more) whole → CausedHere why
  unlisted_caused grip (key_read.Found bytes) other is stands = absurd (cc is)
  unlisted_caused grip key_read.Absent other is stands = absurd (other refl)
  unlisted_caused grip key_read.Failed other is stands = let same : code.General ≡ _ = cc in subst CausedHere same (one _ tt (has_first stands))
  unlisted_caused grip key_read.NoMemory other is stands = let same : code.NoMemory ≡ _ = cc in subst CausedHere same (one _ tt (has_first stands))

  reads_listed : (grip : Grip) → ExplainsHere (ReadsListed grip) Anything
  reads_listed grip before events result after (actions.is_key is says) stands = record { silent = (tt, tt); explained = tt }
  reads_listed grip before events result after (actions.faulty is says) stands = record { silent = (tt, tt); explained = tt }
  reads_listed grip before events result after actions.absent stands = record { silent = (tt, tt); explained = tt }
  reads_listed grip before events result after (actions.no_memory is) stands = record { silent = (tt, (tt, tt)); explained = out_of_memory_second rules kept request whole stands }
  reads_listed grip before events result after (actions.unread {answer} other is) stands = record { silent = (tt, tt); explained = unlisted_caused grip answer other is stands }

  writes_info : (grip : Grip) (key : Option Key) → ExplainsHere (WritesInfo grip key) Anything
  writes_info grip None = returned Anything tt tt
  writes_info grip (Some key) = bind (tells_info grip key) (λ line status. writes rules kept request whole line status)

  tells_listed : (grip : Grip) → ExplainsHere (TellsListed grip) Anything
  tells_listed grip = bind (reads_listed grip) (λ key any. writes_info grip key)

  writes_infos : (grips : List Grip) → ExplainsHere (WritesInfos grips) Anything
  writes_infos [] = returned Anything tt tt
  writes_infos (grip ∷ more) = bind (tells_listed grip) (λ told any. writes_infos more)

  -- one of them is there, or all are absent, those among them that were read earlier
  abbrev unread : Grip → EventWith PortCall
  unread grip = Port (Keys (Read grip key_read.Absent))

  has_one_of : (earlier grips : List Grip) → (AreUnread whole (earlier ++ grips) → CausedHere code.NoSecKey) → (before : Option ℕ) (events : List (EventWith PortCall)) (result : Result (Unit {0}) Refusal)
      (after : Option ℕ) → HasOneKey grips before events result after → StandIn (map unread earlier ++ events) whole → ComesHere Anything events result
  has_one_of earlier [] lacks before events result after chain.refuses stands = record {
    silent = tt;
    explained = lacks (subst (λ l. AreUnread whole l) (sym (append-nil earlier)) (subst (λ e. StandIn e whole) (append-nil (map unread earlier)) stands));
  }
  has_one_of earlier (grip ∷ more) lacks before events result after (chain.goes_on small.found chain.returns) stands = record { silent = (tt, tt); explained = tt }
  has_one_of earlier (grip ∷ more) lacks before events result after (chain.goes_on {events = rest} {mid} small.absent does) stands =
      let joined : map unread (earlier ++ grip ∷ []) ++ rest ≡ map unread earlier ++ (unread grip ∷ rest) =
      ap (λ e. e ++ rest) (map-append unread earlier (grip ∷ [])) ∙ append_assoc (map unread earlier) (unread grip ∷ []) rest in
      let comes = has_one_of (earlier ++ grip ∷ []) more (λ each. lacks (subst (λ l. AreUnread whole l) (append_assoc earlier (grip ∷ []) more) each)) mid rest result after does
      (subst (λ e. StandIn e whole) (sym joined) stands) in
      record { silent = (tt, comes.silent); explained = comes.explained }
  has_one_of earlier (grip ∷ more) lacks before events result after (chain.stops small.faulted) stands = record { silent = (tt, tt); explained = one _ tt (has_in stands (has_right (map unread earlier) here)) }
  has_one_of earlier (grip ∷ more) lacks before events result after (chain.stops small.no_memory) stands = record { silent = (tt, tt); explained = one _ tt (has_in stands (has_right (map unread earlier) here)) }

  has_one : (grips : List Grip) → (AreUnread whole grips → CausedHere code.NoSecKey) → ExplainsHere (HasOneKey grips) Anything
  has_one grips lacks = has_one_of [] grips lacks

  -- ---- wrapped keys

  asks_key_data : ExplainsHere AsksKeyData (IsSent whole (codes "KEYDATA") max_key_data)
  asks_key_data before events result after (actions.asked does) stands = inquires rules kept request whole (codes "KEYDATA") max_key_data before events result before does stands
  asks_key_data before events result after (actions.no_memory at_end) stands = record { silent = (tt, (tt, tt)); explained = out_of_memory_second rules kept request whole stands }

  module _ (wrap wrapped : List ℕ) (drawn : kept.wraps.import ≡ Some wrap) (sent : IsSent whole (codes "KEYDATA") max_key_data wrapped) where
    wrapped_caused : {why : Code} → WrappedSays wrap wrapped (Err why) → CausedHere why
    wrapped_caused (wrapping.unchecked other) = data_says drawn sent (wrapping.unchecked other)
    wrapped_caused (wrapping.checked are (wrapping.no_expression other)) = key_data (data_says drawn sent (wrapping.checked are (wrapping.no_expression other)))
    wrapped_caused (wrapping.checked are (wrapping.no_key {fault} padded first)) =
        fault_caused rules kept request whole fault (first_fault_said _ fault first)
        (λ why so. key_data (subst (λ c. KeyDataSays whole rules kept request (Err c)) so (data_says drawn sent (wrapping.checked are (wrapping.no_key padded first)))))
    wrapped_caused (wrapping.checked are (wrapping.protected padded is locked)) = faulty (key_data (data_says drawn sent (wrapping.checked are (wrapping.protected padded is locked))))
    wrapped_caused (wrapping.checked are (wrapping.long padded is clear much)) = faulty (key_data (data_says drawn sent (wrapping.checked are (wrapping.long padded is clear much))))

    unwraps : ExplainsHere (Unwraps wrap wrapped) (λ key. KeyDataSays whole rules kept request (Ok key))
    unwraps before events result after (actions.is_key says) stands = record { silent = tt; explained = data_says drawn sent says }
    unwraps before events result after (actions.refused says) stands = record { silent = tt; explained = wrapped_caused says }
    unwraps before events result after actions.no_memory stands = record { silent = (tt, tt); explained = out_of_memory_first rules kept request whole stands }

  receives_key : (wrap : List ℕ) → kept.wraps.import ≡ Some wrap → ExplainsHere (ReceivesKey wrap) (λ key. KeyDataSays whole rules kept request (Ok key))
  receives_key wrap drawn =
      bind (writes rules kept request whole (limit_line max_key_data) (limit_status max_key_data (omega arith))) (λ told any. bind asks_key_data (λ wrapped sent. unwraps wrap wrapped drawn sent))

  is_free : (force : Bool) {key : Key} (grip : Grip) {id : Option (List ℕ)} → on_keys request ≡ Some (on.ImportKey force id) → KeyDataSays whole rules kept request (Ok key) → grip.0 ≡ grip_of key
      → ExplainsHere (IsFree force grip) Anything
  is_free true grip asked says named = returned Anything tt tt
  is_free false grip asked says named = bind (finds rules kept request whole grip) (λ found so. free found so)
    where
      free : (found : Bool) → IsFound rules kept request whole grip found → ExplainsHere (wanted code.FileExists (not found)) Anything
      free true so = refused Anything (Agent code.FileExists) (there asked says named so.1)
      free false so = returned Anything tt tt

  -- ---- the old passphrase

  module _ {A : Type 0} (Good : A → Type 0) (Else : Type 0) where
    pub if_needed : (why : Code) (value : Option A) → Either rules kept request whole Good Else value → (Else → CausedHere why) → ExplainsHere (needed why value) Good
    if_needed why None otherwise caused = refused Good (Agent why) (caused otherwise)
    if_needed why (Some value) good caused = returned Good value good

    pub or_else_explained : (value : Option A) (other : Action A) → Either rules kept request whole Good Else value → (Else → ExplainsHere other Good) → ExplainsHere (or_else value other) Good
    or_else_explained None other otherwise explains = explains otherwise
    or_else_explained (Some value) other good explains = returned Good value good

  module _ (grip : Grip) (unlocks : Unlocks request grip) (locked : LockedKey) (is_locked : IsReadLocked whole grip locked) where
    client_old : kept.options.mode ≡ mode.Loopback → ExplainsHere (ClientOld rules kept.options grip locked) (λ opened. Opens grip opened.key)
    unfolding ClientOld
    client_old loopback =
        bind (asks_client rules kept request whole (codes "PASSPHRASE") MAX_SECRET_LEN (omega arith))
        (λ pass sent. bind (tries rules kept request whole grip unlocks locked is_locked pass (causes.sent_by_client loopback sent))
        (λ tried so. bind (if_needed _ _ code.BadPass tried so (λ closed. stays loopback unlocks is_locked sent closed)) (λ opened opens. bind (changes rules kept request whole _ refl)
        (λ kept_so any. returned (λ opened. Opens grip opened.key) opened opens))))

    uncached_old : (way : PinMode) → kept.options.mode ≡ way → HasNoEntry whole request → ExplainsHere (UncachedOld rules kept.options grip way locked) (λ opened. Opens grip opened.key)
    uncached_old mode.Ask is unmet =
        bind (takes_seat rules kept request whole grip) (λ seated any. prompts_old rules kept request whole grip unlocks locked is_locked)
    uncached_old mode.Cancel is unmet = refused (λ opened. Opens grip opened.key) (Agent code.Cancelled) (by_mode is unmet)
    uncached_old mode.Error is unmet = refused (λ opened. Opens grip opened.key) (Agent code.NoPinentry) (inl (by_mode is unmet))
    uncached_old mode.Loopback is unmet = client_old is

    opens_locked : (nonce : Option (List ℕ)) → ((id : List ℕ) → nonce ≡ Some id → NamesOld request grip id)
        → (ByNonce whole (GivesNoneFor whole locked) nonce → GivesNoneFor whole locked (ask_key grip (way_of kept.options.mode)) → HasNoEntry whole request)
        → ExplainsHere (OpensLocked rules kept.options grip nonce locked) (λ opened. Opens grip opened.key)
    unfolding OpensLocked
    opens_locked nonce names unmet =
        bind (looks_for_nonce rules kept request whole nonce)
        (λ by_nonce by. bind (tries_found rules kept request whole grip unlocks locked is_locked by_nonce (comes_by_nonce rules kept request whole nonce by_nonce names by)) (λ first so. or_else_explained _ _ first _ so
        (λ first_closed. bind (looks rules kept request whole _ refl) (λ cached given. bind (tries_found rules kept request whole grip unlocks locked is_locked cached
        (comes_of rules kept request whole (ComesBy whole rules kept.options request grip locked) given (λ grant has. causes.cached_by_key (way_of kept.options.mode) has)))
        (λ second so. or_else_explained _ _ second _ so (λ second_closed. uncached_old kept.options.mode refl (unmet (nonce_none_opens rules kept request whole nonce locked by_nonce by first_closed)
        (none_opens rules kept request whole (ask_key grip (way_of kept.options.mode)) locked cached given second_closed))))))))

  module _ (grip : Grip) (unlocks : Unlocks request grip) where
    pub old_passphrase : (clear : Bool) (key : Key) (id : Option (List ℕ)) → ((nonce : List ℕ) → id ≡ Some nonce → NamesOld request grip nonce) → IsRead whole grip (Ok (record key { is_clear = clear }))
        → ((locked : LockedKey) → IsReadLocked whole grip locked → ByNonce whole (GivesNoneFor whole locked) id → GivesNoneFor whole locked (ask_key grip (way_of kept.options.mode)) → HasNoEntry whole request)
        → ExplainsHere (OldPassphrase rules kept.options grip id (record key { is_clear = clear })) (λ opened. Opens grip opened.key)
    old_passphrase true key id names is_read unmet = returned (λ opened. Opens grip opened.key) _ (is_clear is_read refl)
    old_passphrase false key id names is_read unmet =
        bind (locks rules kept request whole grip unlocks (record key { is_clear = false }) is_read refl) (λ locked is_locked. opens_locked grip unlocks locked is_locked id names (unmet locked is_locked))

    verifies_passphrase : (clear : Bool) (key : Key) → IsRead whole grip (Ok (record key { is_clear = clear }))
        → ((locked : LockedKey) → IsReadLocked whole grip locked → HasNoEntry whole request)
        → ExplainsHere (VerifiesPassphrase rules kept.options grip (record key { is_clear = clear })) (λ opened. Opens grip opened.key)
    verifies_passphrase true key is_read unmet = returned (λ opened. Opens grip opened.key) _ (is_clear is_read refl)
    verifies_passphrase false key is_read unmet =
        bind (locks rules kept request whole grip unlocks (record key { is_clear = false }) is_read refl) (λ locked is_locked. uncached_old grip unlocks locked is_locked kept.options.mode refl (unmet locked is_locked))

  -- ---- a new passphrase

  module _ (grip : Grip) where
    client_new : kept.options.mode ≡ mode.Loopback → ExplainsHere ClientNew Anything
    unfolding ClientNew
    client_new loopback =
        bind (asks_client rules kept request whole (codes "NEW_PASSPHRASE") MAX_SECRET_LEN (omega arith))
        (λ pass sent. bind (is_wanted code.BadPass (not (length pass == 0)) (λ none. empty loopback (subst (IsSent whole (codes "NEW_PASSPHRASE") MAX_SECRET_LEN) (is_empty pass none) sent)))
        (λ some so. returned Anything pass tt))
      where
        is_empty : (pass : List ℕ) → not (length pass == 0) ≡ false → pass ≡ []
        is_empty pass none = nil_from_length pass (grind (arith, nat_tests, none))

-- a request in each mode in which a client may want to be asked
module _ (rules : Rules) (kept : SessionState) (request : Request) (whole : List (EventWith PortCall)) (grip : Grip) where
  abbrev in_mode : PinMode → SessionState
  in_mode way = record kept { options = record kept.options { mode = way } }

  new_passphrase : (way : PinMode) → ((values : OptionValues) → AsksAny rules values request (new_plan rules values)) → HasNoEntry whole request
      → Explains whole (IsCaused whole rules (in_mode way) request) (NewPassphrase rules (in_mode way).options grip) Anything
  new_passphrase mode.Ask asks unmet =
      bind (takes_seat rules (in_mode mode.Ask) request whole grip) (λ seated any. prompts_any rules (in_mode mode.Ask) request whole (asks (in_mode mode.Ask).options))
  new_passphrase mode.Cancel asks unmet = refused Anything (Agent code.Cancelled) (by_mode refl unmet)
  new_passphrase mode.Error asks unmet = refused Anything (Agent code.NoPinentry) (inl (by_mode refl unmet))
  new_passphrase mode.Loopback asks unmet = client_new rules (in_mode mode.Loopback) request whole grip refl

  consents : (way : PinMode) (force : Bool) → on_keys request ≡ Some (on.DeleteKey grip force) → Explains whole (IsCaused whole rules (in_mode way) request) (Consents rules (in_mode way).options force grip) Anything
  consents way true asked = returned Anything tt tt
  consents mode.Ask false asked =
      bind (seats rules (in_mode mode.Ask) request whole _ refl) (λ seated any. agrees rules (in_mode mode.Ask) request whole _)
  consents mode.Cancel false asked = refused Anything (Agent code.Cancelled) (by_mode refl (HasNoEntry.of_consent (deletion asked)))
  consents mode.Error false asked = refused Anything (Agent code.NoPinentry) (inl (by_mode refl (HasNoEntry.of_consent (deletion asked))))
  consents mode.Loopback false asked = refused Anything (Agent code.NoPinentry) (inl (IsUnprompted.of_consent (deletion asked) refl))

-- ---- requests

module _ (rules : Rules) (kept : SessionState) (request : Request) (whole : List (EventWith PortCall)) where
  abbrev pub Replied : KeyReply → Type 0
  Replied reply = IsReply reply.text

  replied : (reply : KeyReply) → Replied reply → Explains whole (IsCaused whole rules kept request) (Returns reply) Replied
  replied reply text = returned Replied reply text

  unless_found : {grip : Grip} {force : Bool} → on_keys request ≡ Some (on.DeleteKey grip force) → (found : Bool) → found ≡ false → IsFound rules kept request whole grip found → LacksKeys whole (on_keys request)
  unless_found asked true none so = absurd (cc none)
  unless_found asked false none so = subst (LacksKeys whole) (sym asked) (inl so)

  found_or_new : (grip : Grip) (force : Bool) (nonce : Option (List ℕ)) → on_keys request ≡ Some (on.ImportKey force nonce)
      → Explains whole (IsCaused whole rules kept request) (FoundOrNew rules kept.options nonce grip) Anything
  found_or_new grip force id asked =
      bind (looks_over rules kept request whole id)
      (λ found so. or_otherwise Anything found _ (λ some is. tt) (λ none. new_passphrase rules kept request whole grip kept.options.mode (λ values. of_import asked) (imported asked (subst (Overlooked rules kept request whole id) none so))))

  -- PASSWD of a key
  module _ (grip : Grip) {old new : Option (List ℕ)} (asked : on_keys request ≡ Some (on.Passwd grip old new false)) where
    renews : Explains whole (IsCaused whole rules kept request) (RenewsPassphrase rules kept.options grip new) Anything
    renews =
        bind (looks_for_nonce rules kept request whole new)
        (λ found by. or_otherwise Anything found _ (λ some is. tt) (λ none. new_passphrase rules kept request whole grip kept.options.mode (λ values. of_new asked)
        (renewed asked (nonce_none rules kept request whole new (subst (FoundByNonce rules kept request whole new) none by)))))

    module _ (key : Key) (opens : OpensRead whole rules kept.options request grip key) where
      is_short : Explains whole (IsCaused whole rules kept request) (IsShort key) Anything
      is_short before events result after (actions.short few) stands = record { silent = tt; explained = tt }
      is_short before events result after (actions.long many) stands = record { silent = tt; explained = long asked opens many }

      module _ (file : List ℕ) (is_read : IsReadOf whole grip file) (pass : List ℕ) where
        module _ (list : List ℕ) (is_list : IsListOf whole key pass kept.options.s2k_count list) where
          rewrites : Explains whole (IsCaused whole rules kept request) (Rewrites file list) Anything
          rewrites before events result after (files.canonical_file is) stands = record { silent = tt; explained = tt }
          rewrites before events result after (files.extended_file other with_list few) stands = record { silent = tt; explained = tt }
          rewrites before events result after (files.too_long new_file other with_list many) stands =
              record { silent = tt; explained = long_file pass asked is_read other opens is_list with_list many }
          rewrites before events result after (files.no_memory other) stands = record { silent = (tt, tt); explained = out_of_memory_first rules kept request whole stands }

  -- ---- key files that are replaced

  module _ (never_absent : (grip : Grip) (file : List ℕ) → Has (Port (Keys (Replaced grip file key_done.Absent))) whole → ⊥) where
    stores_key : (count : ℕ) (key : Key) (grip : Grip) (pass : List ℕ) → Explains whole (IsCaused whole rules kept request) (StoresKey count key grip pass) Anything
    stores_key count key grip pass =
        bind (draws rules kept request whole 32) (λ drawn is_drawn. bind (protects rules kept request whole key pass (take 8 drawn) (take 12 (drop 8 drawn)) count)
        (λ file is_protected. bind (changes rules kept request whole _ refl) (λ cached any. bind (replaces rules kept request whole never_absent grip file)
        (λ replaced any. bind (keeps_new rules kept request whole grip pass) (λ kept_so any. returned Anything (drop 20 drawn) tt)))))

    module _ (grip : Grip) {old new : Option (List ℕ)} (asked : on_keys request ≡ Some (on.Passwd grip old new false)) (file : List ℕ) (is_read : IsReadOf whole grip file) (key : Key)
        (opens : OpensRead whole rules kept.options request grip key) where
      rewrites_file : (pass : List ℕ) → Explains whole (IsCaused whole rules kept request) (RewritesFile rules kept.options grip file key pass) Anything
      unfolding RewritesFile
      rewrites_file pass =
          bind (draws rules kept request whole 20) (λ drawn is_drawn. bind (protects rules kept request whole key pass (take 8 drawn) (drop 8 drawn) kept.options.s2k_count)
          (λ list is_protected. bind (rewrites grip asked key opens file is_read pass list (protected is_drawn is_protected))
          (λ new_file any. bind (replaces rules kept request whole never_absent grip new_file) (λ replaced any. keeps_new rules kept request whole grip pass))))

      changes_opened : Explains whole (IsCaused whole rules kept request) (ChangesOpened rules kept.options grip new file key) Anything
      changes_opened =
          bind (is_short grip asked key opens) (λ short any. bind (renews grip asked) (λ pass any. rewrites_file pass))

    -- a request on keys, whose line may be refused
    module _ (line_caused : (why : Code) → IsRefusedBy request why → IsCaused whole rules kept request why OfAgent) where
      pub replies : (asked : KeyRequest) → on_keys request ≡ Some asked → Explains whole (IsCaused whole rules kept request) (KeyReplies rules kept.options kept.wraps asked) Replied
      unfolding HaveKeyReplies ListGripsReplies KeyInfoReplies ListKeysReplies KeyWrapReplies ImportKeyReplies ExportKeyReplies PasswdReplies VerifyReplies DeleteKeyReplies
      replies (on.HaveKey grips) asked =
          bind (has_one rules kept request whole grips (λ each. subst (LacksKeys whole) (sym asked) each)) (λ one any. replied _ reply_ok)
      replies on.ListGrips asked =
          bind (lists rules kept request whole) (λ grips any. bind (joins_grips rules kept request whole grips)
          (λ bytes any. bind (told rules kept request whole bytes) (λ text is_reply. replied _ is_reply)))
      replies (on.KeyInfo grip) asked =
          bind (reads_file rules kept request whole grip (causes.tells asked) (λ absent. subst (LacksKeys whole) (sym asked) absent))
          (λ file is_read. bind (tells_info rules kept request whole grip file.key) (λ line status. replied _ (reply_status _ status)))
      replies on.ListKeys asked =
          bind (lists rules kept request whole) (λ grips any. bind (writes_infos rules kept request whole grips) (λ written any. replied _ reply_ok))
      replies (on.KeyWrap way) asked =
          bind (or_otherwise Anything (wrap_key way kept.wraps) _ (λ some is. tt) (λ none. whatever (IsDrawn whole 16) (draws rules kept request whole 16)))
          (λ key any. bind (told rules kept request whole key) (λ text is_reply. replied _ is_reply))
      replies (on.ImportKey force id) asked =
          bind (is_needed (λ wrap. kept.wraps.import ≡ Some wrap) code.Parameter kept.wraps.import (λ none. no_import asked none) (λ some is. is))
          (λ wrap drawn. bind (receives_key rules kept request whole wrap drawn) (λ key says. bind (names_key rules kept request whole key)
          (λ grip named. bind (is_free rules kept request whole force grip asked says named) (λ free any. bind (found_or_new grip force id asked)
          (λ pass any. bind (stores_key kept.options.s2k_count key grip pass) (λ cache_nonce any. replied _ (reply_nonce _)))))))
      replies (on.ExportKey grip id) asked =
          bind (is_needed Anything code.Parameter kept.wraps.export (λ none. no_export asked none) (λ some is. tt))
          (λ wrap any. bind (reads_file rules kept request whole grip (causes.unlocks (exports asked)) (λ absent. subst (LacksKeys whole) (sym asked) absent))
          (λ file is_read. bind (old_passphrase rules kept request whole grip (exports asked) file.key.is_clear file.key id (λ nonce same. of_export (subst (λ n. on_keys request ≡ Some (on.ExportKey grip n)) same asked)) is_read.1
          (λ locked is_locked by_nonce by_key. exported _ asked is_locked by_nonce by_key))
          (λ opened opens. bind (closes_explained opened.by) (λ closed any. bind (wraps_key rules kept request whole wrap opened.key)
          (λ wrapped any. bind (told rules kept request whole wrapped) (λ text is_reply. replied _ is_reply))))))
      replies (on.Passwd grip old new true) asked =
          bind (reads_file rules kept request whole grip (causes.unlocks (causes.changes asked)) (λ absent. subst (LacksKeys whole) (sym asked) absent))
          (λ file is_read. bind (verifies_passphrase rules kept request whole grip (causes.changes asked) file.key.is_clear file.key is_read.1 (λ locked is_locked. verified asked is_locked))
          (λ opened opens. bind (closes_explained opened.by) (λ closed any. replied _ reply_ok)))
      replies (on.Passwd grip old new false) asked =
          bind (reads_file rules kept request whole grip (causes.unlocks (causes.changes asked)) (λ absent. subst (LacksKeys whole) (sym asked) absent))
          (λ file is_read. bind (old_passphrase rules kept request whole grip (causes.changes asked) file.key.is_clear file.key old
          (λ nonce same. of_change (subst (λ n. on_keys request ≡ Some (on.Passwd grip n new false)) same asked)) is_read.1
          (λ locked is_locked by_nonce by_key. changed _ asked is_locked by_nonce by_key))
          (λ opened opens. bind (changes_opened grip asked file.bytes is_read.0 opened.key opens) (λ changed_so any. replied _ reply_ok)))
      replies (on.DeleteKey grip force) asked =
          bind (finds rules kept request whole grip) (λ found so. bind (is_wanted code.NoSecKey found (λ none. unless_found asked found none so))
          (λ some any. bind (consents rules kept request whole grip kept.options.mode force asked)
          (λ agreed any. bind (removes rules kept request whole grip (λ absent. subst (LacksKeys whole) (sym asked) (inr absent)))
          (λ removed any. bind (changes rules kept request whole _ refl) (λ cleared any. replied _ reply_ok)))))
      replies (on.Bad why) asked = refused Replied (Agent why) (line_caused why (inr asked))
