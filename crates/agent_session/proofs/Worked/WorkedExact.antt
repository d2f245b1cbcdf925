-- Worked examples: exchanges in which a cause stands, and their answers.
use Rattle.std.{specs.List.AllByRecursion, proofs.Common.{◌≡◌, ◌<◌, ◌≤◌, ◌⊎◌, ◌∙◌, ◌++◌, ℕ, Bool, true, false, List, [], ◌∷◌, length, take, drop, codes, Option, Some, None, Ok, refl, sym, ap, subst, inl, inr}}
use Rattle.{arrayvec.specs.ArrayVec.ArrayVec, agent_ask.specs.Session.{Answering.whole, PortCalls.Replaced, SessionEvents.{Received, Sent, Inquiry, cache_turn}}, agent_commands.specs.{Exchanges.CacheExchange, Passphrases.ask}}
use Rattle.agent_commands.specs.{Requests.{GetFields, get_passphrase, request_of}, declared.{request.{CacheCommand.TheVariants.PresetPassphrase, Request.{Request, TheVariants.{Cache, Key as OnKeys}}}, went.Went.Went}}
use Rattle.{agent_commands.specs.declared.went.Went.TheVariants.{On, End}, assuan_server.specs.{Written.{limit_line, failed, greeting}, Inquiries.TooLong, declared.errors.Origin.TheVariants.Agent}, agent_ports.specs.declared.grip.Grip.Grip}
use Rattle.{agent_ports.specs.declared.keys.KeyRead.KeyRead, assuan_text.specs.LineEnds.line_of, cache_policy.specs.{Turns.{Empty, Given, FitsStep}, declared.{grant.Grant.Grant, life.Life.Life, secret.TheConstants.MAX_SECRET_LEN}}}
use Rattle.key_commands.specs.{Events.{Event, called, read, drew}, Exchanges.{KeyExchange, KeyInfoReplies, PasswdReplies, RewritesFile}, Files.{FileSays, IsWithList}, KeyActions.file_in, Passphrases.{old_by, ask_nonce}}
use Rattle.{key_commands.specs.{Requests.key_request_of, declared.wrapping.TheConstants.MAX_LIST_LEN}, key_lines.specs.Canon.{Canon, is_canonical}, secret_file.specs.Protects.{ocb_protection, protected_file}}
use Rattle.{session_client.specs.Asking.Asked, session_options.specs.declared.rules.Rules.Rules, sexp_canonical.specs.Spelling.most_bytes, sexp_keys.specs.{Key.Key, Lists.key_list_of}, agent_origin.specs.DoorSessions.DoorExchange}
use Rattle.agent_origin.specs.{Doors.allowed, TrustRequests.{trust_request_of, trust_command}, SessionExchanges.{RequestExchange, cache, keys}, declared.{door.Door.Door, session_state.SessionState.SessionState}}
use Rattle.{agent_origin.specs.declared.trust.request.TrustRequest.TheVariants.Bad, command_table.specs.Commands.command_in}
use Rattle.agent_session.specs.{Causes.{Has, here, later, LacksKeys, empty, IsRead, IsReadOf, read_of, OpensRead, opens, protected, said}, Completeness.{Remembers, HasError}}
use Rattle.agent_session.{specs.Exactly.{on_trust, clear, long, long_file, HasLongList, HasLongFile, EndsTooLong, at_inquiry}, proofs.Decisions.{Exact.{cause_answered, door_cause}, ExactEnds.end_told, ExactFiles.one_says}}
use Rattle.agent_session.proofs.{Causes.KeyExplained.exchange_caused, LongLines.{session_long, long_session}}
use Rattle.agent_ask.specs.Session.ClientActions as client
use Rattle.agent_ask.specs.Session.ActionExchanges as exchanges
use Rattle.agent_commands.specs.Talks as talks
use Rattle.agent_commands.specs.declared.went.SessionEnd.TheVariants as ends
use Rattle.agent_ports.specs.declared.keys.KeyDone.TheVariants as key_done
use Rattle.agent_ports.specs.declared.keys.KeyRead.TheVariants as key_read
use Rattle.assuan_line.specs.declared.reader.Took.TheVariants as took
use Rattle.session_client.specs.declared.code.Code.TheVariants as code
use Rattle.key_commands.specs.Files as files
use Rattle.key_commands.specs.KeyActions as key_actions
use Rattle.key_commands.specs.Actions as small
use Rattle.agent_ask.specs.Session.Actions as chain
use Rattle.agent_ask.specs.Session.TurnActions as turning
use Rattle.session_client.specs.declared.refusal.Refusal.TheVariants as refusals
use Rattle.key_commands.specs.declared.request.KeyRequest.TheVariants as on
use Rattle.key_commands.specs.declared.went.KeyWent.TheVariants as key_went
use Rattle.session_client.specs.declared.client_error.Gone.TheVariants as gone
use Rattle.session_client.specs.declared.client_error.ClientError.TheVariants as client_error
use Rattle.command_table.specs.declared.commands.TrustCommandName.TheVariants as name
use Rattle.agent_session.specs.Causes as causes

one_of_two : {event first second : Event} → Has event (first ∷ second ∷ []) → (event ≡ first) ⊎ (event ≡ second)
one_of_two here = inl refl
one_of_two (later here) = inr refl
one_of_two (later (later none)) = elim none [ ]

one_of_four : {event first second third fourth : Event} → Has event (first ∷ second ∷ third ∷ fourth ∷ []) → (event ≡ first) ⊎ ((event ≡ second) ⊎ ((event ≡ third) ⊎ (event ≡ fourth)))
one_of_four here = inl refl
one_of_four (later here) = inr (inl refl)
one_of_four (later (later here)) = inr (inr (inl refl))
one_of_four (later (later (later here))) = inr (inr (inr refl))
one_of_four (later (later (later (later none)))) = elim none [ ]

-- the list of a clear key under this passphrase, by the bytes that were drawn for it
abbrev list_under : Key → List ℕ → ℕ → List ℕ → List ℕ
list_under key bytes count pass = protected_file key (ocb_protection key pass (take 8 bytes) (drop 8 bytes) count None) None

found_recalls : (grip : Grip) (answer : KeyRead) {file : List ℕ} → file_in answer ≡ Some file → Remembers (read grip answer)
found_recalls grip (key_read.Found bytes) found wants = wants
found_recalls grip key_read.Absent found wants = wants
found_recalls grip key_read.Failed found wants = wants
found_recalls grip key_read.NoMemory found wants = absurd (cc found)

module _ (one_canon : (file : List ℕ) (a b : Option (List ℕ)) → Canon file a → Canon file b → a ≡ b) (rules : Rules) (kept : SessionState) where
  -- GET_PASSPHRASE of the cache alone, which has nothing
  abbrev quietly : GetFields
  quietly = record { plain = true; check = false; no_ask = true; repeat = 0; quality = false; id = Some (codes "k"); texts = None }

  abbrev nothing_cached : List Event
  nothing_cached = cache_turn (ask (codes "k")) Empty ∷ Sent (failed code.NoData) ∷ []

  remembers_turn : AllByRecursion Remembers nothing_cached
  remembers_turn = ((λ e. absurd (cc e)), ((λ none. none), tt))

  quiet_exchange : CacheExchange rules kept.options (Cache (get_passphrase quietly)) nothing_cached kept.options On
  quiet_exchange =
      exchanges.refused (cache_turn (ask (codes "k")) Empty ∷ []) None (refusals.Agent code.NoData) (chain.stops (chain.goes_on (turning.empty tt) chain.refuses)) turning.unheld

  no_data : HasError code.NoData Agent nothing_cached
  no_data =
      cause_answered one_canon rules kept (Cache (get_passphrase quietly)) (cache quiet_exchange) remembers_turn code.NoData
      (empty quietly (codes "k") refl refl refl here)

  -- a preset whose client sends a line that is too long in place of a passphrase
  module _ (id : List ℕ) (life : Life) where
    abbrev allowing : Rules
    allowing = record rules { allow_preset = true }

    abbrev long_lines : List Event
    long_lines = Sent (limit_line MAX_SECRET_LEN) ∷ Inquiry (codes "PASSPHRASE") [] MAX_SECRET_LEN (Asked TooLong) ∷ []

    long_exchange : CacheExchange allowing kept.options (Cache (PresetPassphrase id life None)) (long_lines ++ Sent (failed code.LineTooLong) ∷ []) kept.options (End ends.TooLong)
    long_exchange =
        exchanges.refused long_lines None (refusals.Client (client_error.Gone gone.TooLong)) (chain.stops (chain.goes_on chain.returns (chain.stops (chain.goes_on client.written (client.not_given refl))))) turning.unheld

    long_line : HasError code.LineTooLong Agent (long_lines ++ Sent (failed code.LineTooLong) ∷ [])
    long_line = end_told {rules = allowing} {kept = kept} {request = Cache (PresetPassphrase id life None)} (cache long_exchange) refl

  -- KEYINFO of a key that isn't there
  module _ (line : ArrayVec ℕ) (grip : Grip) (is : key_request_of line.items ≡ on.KeyInfo grip) where
    abbrev lacking : List Event
    lacking = read grip key_read.Absent ∷ Sent (failed code.NoSecKey) ∷ []

    lacks : KeyExchange rules kept.options kept.wraps (on.KeyInfo grip) lacking kept.wraps key_went.On
    unfolding KeyInfoReplies
    lacks = exchanges.refused (read grip key_read.Absent ∷ []) None (refusals.Agent code.NoSecKey) (chain.stops (key_actions.unread refl)) turning.unheld

    no_secret_key : HasError code.NoSecKey Agent lacking
    no_secret_key =
        cause_answered one_canon rules kept (OnKeys line) (keys (subst (λ a. KeyExchange rules kept.options kept.wraps a lacking kept.wraps key_went.On) (sym is) lacks)) ((λ none. none), ((λ none. none), tt)) code.NoSecKey
        (subst (λ a. LacksKeys lacking (Some a)) (sym is) here)

  -- a line for the trust list that is out of form, at a door where its command is allowed
  module _ (door : Door) (line : List ℕ) (allows : allowed door line ≡ true) (named : trust_command (command_in line) ≡ Some name.MarkTrusted) (is : trust_request_of line ≡ Bad code.Parameter) where
    abbrev malformed : List Event
    malformed = Sent (failed code.Parameter) ∷ []

    out_of_form : {went : Went} → DoorExchange door rules kept line malformed kept went → HasError code.Parameter Agent malformed
    out_of_form exchanged = door_cause rules kept one_canon line door exchanged ((λ none. none), tt) code.Parameter (on_trust allows named is)

  -- a clear key needs no passphrase
  open_clear : (grip : Grip) (old : Option (List ℕ)) (key : Key) (clear : Bool) → clear ≡ true → old_by rules kept.options grip old key clear None [] (Ok (record { key = key; by = None })) None
  open_clear grip old key true same = chain.returns
  open_clear grip old key false same = absurd (cc same)

  -- the file of a clear key, which is read once
  module _ (grip : Grip) (answer : KeyRead) (file : List ℕ) (found : file_in answer ≡ Some file) (key : Key) (says : FileSays file (Ok key)) (clear_one : key.is_clear ≡ true) (events : List Event)
      (read_once : (other : KeyRead) → Has (read grip other) events → other ≡ answer) where
    same_bytes : (other : KeyRead) {bytes : List ℕ} → file_in other ≡ Some bytes → Has (read grip other) events → bytes ≡ file
    same_bytes other {bytes} found_too has = let both : Some bytes ≡ Some file = sym found_too ∙ ap file_in (read_once other has) ∙ found in cc both

    same_file : {other : List ℕ} → IsReadOf events grip other → other ≡ file
    same_file (read_of {answer = other} found_too has) = same_bytes other found_too has

    same_key : {other : Key} → IsRead events grip (Ok other) → other ≡ key
    same_key {other} (causes.read {file = bytes} found_too says_too has) =
        let one : Ok other ≡ Ok key = one_says one_canon file (Ok other) (Ok key) (subst (λ b. FileSays b (Ok other)) (same_bytes _ found_too has) says_too) says in
        cc one

    opens_alone : {request : Request} {other : Key} → OpensRead events rules kept.options request grip other → other ≡ key
    opens_alone (causes.is_clear is_read clear_too) = same_key is_read
    opens_alone (opens {locked} is_locked comes to) =
        let shut = is_locked.protection.protected in
        let open_key : locked.key.is_clear ≡ true = ap (λ (k : Key). k.is_clear) (same_key is_locked.key) ∙ clear_one in
        absurd (cc (shut, open_key))

  -- PASSWD of a clear key whose list is too long
  module _ (line : ArrayVec ℕ) (grip : Grip) (old new : Option (List ℕ)) (is : key_request_of line.items ≡ on.Passwd grip old new false) (answer : KeyRead) (file : List ℕ) (found : file_in answer ≡ Some file)
      (key : Key) (says : FileSays file (Ok key))
      (clear_one : key.is_clear ≡ true) (much : MAX_LIST_LEN < length (key_list_of key)) where
    abbrev too_long_key : List Event
    too_long_key = read grip answer ∷ Sent (failed code.BadSecKey) ∷ []

    long_run : KeyExchange rules kept.options kept.wraps (on.Passwd grip old new false) too_long_key kept.wraps key_went.On
    unfolding PasswdReplies
    long_run =
        exchanges.refused (read grip answer ∷ []) None (refusals.Agent code.BadSecKey)
        (chain.goes_on (key_actions.is_key found says) (chain.goes_on {first = []} (open_clear grip old key key.is_clear clear_one) (chain.stops (chain.stops (key_actions.long much))))) turning.unheld

    same_answer : (other : KeyRead) → Has (read grip other) too_long_key → other ≡ answer
    same_answer other has = elim (one_of_two has) [ inl same ↦ cc same | inr same ↦ absurd (cc same) ]

    all_long : HasLongList too_long_key rules kept (OnKeys line) grip
    all_long other opened = subst (λ k. MAX_LIST_LEN < length (key_list_of k)) (sym (opens_alone grip answer file found key says clear_one too_long_key same_answer opened)) much

    bad_secret_key : HasError code.BadSecKey Agent too_long_key
    bad_secret_key =
        cause_answered one_canon rules kept (OnKeys line) (keys (subst (λ a. KeyExchange rules kept.options kept.wraps a too_long_key kept.wraps key_went.On) (sym is) long_run)) (found_recalls grip answer found, ((λ none. none), tt))
        code.BadSecKey
        (inr (long (ap (λ a. Some a) is)
        (clear (causes.read found says here) (λ other is_read. ap (λ (k : Key). k.is_clear) (same_key grip answer file found key says clear_one too_long_key same_answer is_read) ∙ clear_one)) all_long))

  -- PASSWD of a clear key in an extended file, which is too long with the list of that key, whatever passphrase that is under
  module _ (line : ArrayVec ℕ) (grip : Grip) (old : Option (List ℕ)) (fresh : List ℕ) (is : key_request_of line.items ≡ on.Passwd grip old (Some fresh) false) (answer : KeyRead) (file : List ℕ) (found : file_in answer ≡ Some file)
      (key : Key) (says : FileSays file (Ok key)) (clear_one : key.is_clear ≡ true) (within : length (key_list_of key) ≤ MAX_LIST_LEN) (entry : Grant) (of_fresh : FitsStep (ask_nonce fresh) (Given entry))
      (bytes : List ℕ) (twenty : length bytes ≡ 20) (extended : is_canonical file ≡ false)
      (much : (pass changed : List ℕ) → IsWithList file (list_under key bytes kept.options.s2k_count pass) changed → most_bytes < length changed)
      (made_file : List ℕ) (with_list : IsWithList file (list_under key bytes kept.options.s2k_count entry.entry.secret) made_file) where
    abbrev too_long_file : List Event
    too_long_file = read grip answer ∷ cache_turn (ask_nonce fresh) (Given entry) ∷ drew bytes ∷ Sent (failed code.BadSecKey) ∷ []

    long_file_run : KeyExchange rules kept.options kept.wraps (on.Passwd grip old (Some fresh) false) too_long_file kept.wraps key_went.On
    unfolding PasswdReplies RewritesFile
    long_file_run =
        exchanges.refused (read grip answer ∷ cache_turn (ask_nonce fresh) (Given entry) ∷ drew bytes ∷ []) None (refusals.Agent code.BadSecKey)
        (chain.goes_on (key_actions.is_key found says)
        (chain.goes_on {first = []} (open_clear grip old key key.is_clear clear_one)
        (chain.stops
        (chain.goes_on {first = []} {value = tt} {mid = None} (key_actions.short within)
        (chain.goes_on {first = cache_turn (ask_nonce fresh) (Given entry) ∷ []} (chain.goes_on (turning.given of_fresh) chain.returns)
        (chain.goes_on (small.drawn twenty)
        (chain.goes_on key_actions.made
        (chain.stops (files.too_long made_file extended with_list (much entry.entry.secret made_file with_list)))))))))) turning.unheld

    same_read : (other : KeyRead) → Has (read grip other) too_long_file → other ≡ answer
    same_read other has = elim (one_of_four has) [ inl same ↦ cc same | inr (inl same) ↦ absurd (cc same) | inr (inr (inl same)) ↦ absurd (cc same) | inr (inr (inr same)) ↦ absurd (cc same) ]

    same_draw : {other : List ℕ} → Has (drew other) too_long_file → other ≡ bytes
    same_draw has = elim (one_of_four has) [ inl same ↦ absurd (cc same) | inr (inl same) ↦ absurd (cc same) | inr (inr (inl same)) ↦ cc same | inr (inr (inr same)) ↦ absurd (cc same) ]

    all_long_files : HasLongFile too_long_file rules kept (OnKeys line) grip
    all_long_files other another pass list is_read opened (protected {drawn} is_drawn list_is) =
        let file_is = same_file grip answer file found key says clear_one too_long_file same_read is_read in
        let key_is = opens_alone grip answer file found key says clear_one too_long_file same_read opened in
        let draw_is : drawn ≡ bytes = same_draw is_drawn.has in
        (ap is_canonical file_is ∙ extended, λ changed has_list. much pass changed (rw (sym key_is, sym draw_is, sym file_is, sym list_is) has_list))

    bad_secret_file : HasError code.BadSecKey Agent too_long_file
    bad_secret_file =
        cause_answered one_canon rules kept (OnKeys line) (keys (subst (λ a. KeyExchange rules kept.options kept.wraps a too_long_file kept.wraps key_went.On) (sym is) long_file_run))
        (found_recalls grip answer found, ((λ e. absurd (cc e)), ((λ none. none), ((λ none. none), tt)))) code.BadSecKey
        (inr (long_file (ap (λ a. Some a) is) (record { long = twenty; has = later (later here) }) all_long_files))

  -- ---- sessions

  -- whose first line is too long
  abbrev at_once : List Event
  at_once = Sent (line_of greeting) ∷ Received took.TooLong ∷ Sent (failed code.LineTooLong) ∷ []

  ends_at_once : EndsTooLong at_once ends.TooLong
  ends_at_once = long_session (session_long rules) {before = kept} (talks.greeted talks.too_long)

  told_at_once : HasError code.LineTooLong Agent at_once
  told_at_once = ends_at_once.told refl

  -- whose client sends such a line in place of a passphrase
  module _ (line : List ℕ) (id : List ℕ) (life : Life) (is : request_of line ≡ Cache (PresetPassphrase id life None)) where
    abbrev in_session : List Event
    in_session = Sent (line_of greeting) ∷ Received (took.Line line) ∷ (long_lines id life ++ Sent (failed code.LineTooLong) ∷ [])

    ends_so : EndsTooLong in_session ends.TooLong
    ends_so =
        long_session (session_long (allowing id life)) {before = kept}
        (talks.greeted (talks.over line (whole (exchange_caused (allowing id life) kept line (λ grip file has. never_replaced has)
        (subst (λ r. RequestExchange (allowing id life) kept r (long_lines id life ++ Sent (failed code.LineTooLong) ∷ []) kept (End ends.TooLong)) (sym is) (cache (long_exchange id life)))))))
      where
        never_replaced : {grip : Grip} {file : List ℕ} → Has (called (Replaced grip file key_done.Absent)) (long_lines id life ++ Sent (failed code.LineTooLong) ∷ []) → ⊥
        never_replaced (later (later (later none))) = elim none [ ]

    in_time : (ends.TooLong ≡ ends.TooLong) ⊎ (ends.TooLong ≡ ends.WriteFault)
    in_time = ends_so.ends (at_inquiry (said refl (later (later (later here)))))
