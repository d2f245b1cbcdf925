-- Each code is answered wherever its cause stands, in a session and at a door.
use Rattle.std.{specs.{List.AllByRecursion, Prelude.{drop, map}}, proofs.Common.{◌≡◌, ◌⊎◌, ℕ, Bool, true, false, List, Option, Some, None, Result, refl, subst, inl, inr, ◌+◌, ◌<◌, ◌∷◌, ◌++◌, length, Ok, Err, arith, sym, ap, [], ◌∙◌}}
use Rattle.agent_ask.specs.Session.{Actions.{Follows, goes_on, stops, needed}, ActionExchanges.{answered, refused}, PortCalls.{Keys, Read, Removed}, SessionEvents.{Sent, Port, said_last, Inquiry}, TurnActions.Closes}
use Rattle.{agent_ports.specs.declared.grip.Grip.Grip, assuan_server.specs.{Written.{failed, refusal_line}, declared.errors.Origin.TheVariants.Agent as OfAgent}, cache_policy.specs.{Turns.closes, declared.mark.MarkStep.MarkStep}}
use Rattle.{key_lines.specs.Canon.Canon, session_client.specs.{declared.{code.Code.Code, refusal.Refusal.{Refusal, TheVariants.Agent}, client_error.ClientError.ClientError}, Refusals.refusal_code}}
use Rattle.{session_options.specs.{OptionValues.OptionValues, declared.{rules.Rules.Rules, options.OptionAnswer.OptionAnswer}}, sexp_keys.specs.{Key.Key, declared.fault.KeyFault.KeyFault}, key_commands.specs.Events.Event}
use Rattle.key_commands.specs.Exchanges.{KeyExchange, KeyReplies, HaveKeyReplies, KeyInfoReplies, ImportKeyReplies, ExportKeyReplies, PasswdReplies, VerifyReplies, DeleteKeyReplies, StoresKey, FoundOrNew, RewritesFile, ChangesOpened}
use Rattle.key_commands.specs.{Exchanges.KeyReply, Actions.{Action, refusal_events}, Passphrases.{OldPassphrase, VerifiesPassphrase}, declared.{request.KeyRequest.KeyRequest, went.KeyWent.KeyWent, keywrap_key.WrapKeys.WrapKeys}}
use Rattle.{key_commands.specs.{KeyActions.HasOne, Lines.max_key_data, Faults.fault_code, Files.FileSays, Requests.key_request_of}, arrayvec.specs.ArrayVec.ArrayVec, agent_commands.specs.Exchanges.CacheExchange}
use Rattle.{agent_commands.specs.{declared.{request.Request.{Request, TheVariants.{Cache, Key as OnKeys, Bad}}, went.Went.Went}, Requests.{request_of, request_by}}, agent_origin.specs.SessionExchanges.{RequestExchange, cache, keys}}
use Rattle.agent_origin.specs.declared.{session_state.SessionState.SessionState, door.Door.Door, trust.request.{TrustPurpose.TrustPurpose, TrustRequest.{TrustRequest, TheVariants.MarkTrusted}}}
use Rattle.agent_origin.specs.{DoorSessions.{AllowedExchange, DoorExchange, door_command}, TrustExchanges.{flag_of, Marked, TrustExchange}, TrustRequests.{trust_request_of, trust_command}, Doors.sets_terminal}
use Rattle.{agent_origin.proofs.OwnCommands.{help_is_no_trust, other_is_no_trust, terminal_set}, command_table.specs.{declared.commands.{Command.Command, TrustCommandName.TrustCommandName}, Commands.command_in}}
use Rattle.trust_list.specs.{Trust.{trust, with_entry}, declared.TheConstants.MAX_TRUST_FILE_LEN}
use Rattle.agent_session.specs.Completeness.{Remembers, HasError}
use Rattle.agent_session.specs.Causes.{AreUnread, IsSaid, said, sent, IsRead, read, on_keys, IsRefusedBy, Judges, tells, unlocks, Unlocks, exports, changes, LacksKeys, later, IsOption, option, KeyDataSays, data_says, IsFaulty, protection}
use Rattle.agent_session.specs.{Causes.{key_data, HasNoData, no_id, empty, no_import, no_export, there, here}, Exactly.{ExactCause, IsLong, long, long_file, ExactTrustCause, ExactCauseAtDoor, forbidden, on_trust, any}}
use Rattle.agent_session.specs.DoorCauses.{IsReadTrust, read_trust, IsReadAgain, read_again, inquired, too_long}
use Rattle.agent_session.proofs.Decisions.ExactActions.{Deciding, IsDecided, never_decided, NoneDue, NoneOwed, SaysTo, Heeds, bind, undue, is_needed, refuses_due, IsSaidAlone, free, said_alone, fits_keys, never_ok, error_said, said_error}
use Rattle.agent_session.proofs.Decisions.ExactActions.{SaidDecides, answer_free, decided_before}
use Rattle.agent_session.proofs.Decisions.ExactReads.{SentRefuses, IsUnlockable, by_file, reads_file, locks, by_absence, IsLacking, finds, is_there, removes, by_import, receives_key, is_free, FileRefuses, faulty, owes, read_refuses}
use Rattle.agent_session.proofs.Decisions.{ExactReads.{by_said, NoFault}, ExactCache.{option_due, cache_due, cache_answered, none_without, none_cached}, ExactLong.long_answered, ExactTrust.{ByLong, marked_long, due_trust, trust_answered}}
use Rattle.agent_session.proofs.{Decisions.{TrustDenied.denial_is_said, TrustTold.{Told, told}}, Courses.KeyWorks.{looks_nonce, uncached_old, opens_locked, new_here, consents, tells_info}}
use Rattle.agent_session.proofs.{Courses.{Works.{WorksSo, Keeps, keeps_works, returned, or_otherwise, turns_of}, KeyCourses.plain_works}, DoorAnswering.door_is_session, Standing.each_left}
use Rattle.agent_ask.specs.Session.Actions as chain
use Rattle.session_client.specs.declared.code.Code.TheVariants as code
use Rattle.session_client.specs.declared.refusal.Refusal.TheVariants as refusals
use Rattle.key_commands.specs.declared.request.KeyRequest.TheVariants as on
use Rattle.agent_session.proofs.Courses.Works as work
use Rattle.agent_ports.specs.declared.keys.KeyRead.TheVariants as key_read
use Rattle.agent_ask.specs.Session.TurnActions as turning
use Rattle.key_commands.specs.Actions as small
use Rattle.agent_ports.specs.declared.keys.KeyDone.TheVariants as key_done
use Rattle.session_client.specs.declared.client_error.Gone.TheVariants as gone
use Rattle.session_client.specs.declared.client_error.ClientError.TheVariants as client_error
use Rattle.session_options.specs.declared.options.OptionAnswer.TheVariants as option_answer
use Rattle.agent_session.specs.Causes as causes
use Rattle.command_table.specs.declared.commands.Command.TheVariants as at_table
use Rattle.agent_origin.specs.DoorSessions as doors
use Rattle.command_table.specs.declared.commands.TrustCommandName.TheVariants as name
use Rattle.agent_session.proofs.Decisions.TrustTold as telling

-- ---- what decides a request on keys

-- the request on keys is refused by this, which is due before all else
abbrev due_of : WrapKeys → KeyRequest → Code → Type 0
due_of wraps (on.ImportKey force nonce) why = (wraps.import ≡ None) × (code.Parameter ≡ why)
due_of wraps (on.ExportKey grip nonce) why = (wraps.export ≡ None) × (code.Parameter ≡ why)
due_of wraps (on.Bad given) why = given ≡ why
due_of wraps _ why = ⊥

-- or by such an event
abbrev deciding_of : WrapKeys → KeyRequest → Deciding
deciding_of wraps (on.KeyInfo grip) = by_file wraps.import NoFault
deciding_of wraps (on.ImportKey force nonce) = by_import force wraps.import
deciding_of wraps (on.ExportKey grip nonce) = by_file wraps.import IsUnlockable
deciding_of wraps (on.Passwd grip old new verify) = by_file wraps.import IsUnlockable
deciding_of wraps (on.DeleteKey grip force) = by_absence wraps.import
deciding_of wraps _ = by_said wraps.import

abbrev unread : Grip → Event
unread grip = Port (Keys (Read grip key_read.Absent))

-- it lacks the key that it names, or is a HAVEKEY, whose reads all said so
absent_decides : (events : List Event) (wraps : WrapKeys) (asked : KeyRequest) → LacksKeys events (Some asked)
    → IsDecided (deciding_of wraps asked) events code.NoSecKey ⊎ ((grips : List Grip) × (asked ≡ on.HaveKey grips) × AreUnread events grips)
absent_decides events wraps (on.HaveKey grips) each = inr (grips, refl, each)
absent_decides events wraps (on.KeyInfo grip) has = inl (record { event = unread grip; has = has; decides = refl })
absent_decides events wraps (on.ExportKey grip nonce) has = inl (record { event = unread grip; has = has; decides = refl })
absent_decides events wraps (on.Passwd grip old new verify) has = inl (record { event = unread grip; has = has; decides = refl })
absent_decides events wraps (on.DeleteKey grip force) (inl has) = inl (record { event = unread grip; has = has; decides = refl })
absent_decides events wraps (on.DeleteKey grip force) (inr has) = inl (record { event = Port (Keys (Removed grip key_done.Absent)); has = has; decides = refl })
absent_decides events wraps _ none = absurd none

-- ---- actions of several requests

module _ (deciding : Deciding) where
  abbrev Alone : Event → Type 0
  Alone = IsSaidAlone deciding

  alone : {A : Type 0} {action : Action A} → WorksSo Alone action → Heeds deciding NoneDue action NoneOwed
  alone actions_work = said_alone deciding NoneOwed actions_work

  so : {A : Type 0} {action : Action A} → Keeps Alone action → WorksSo Alone action
  so keeps = keeps_works Alone keeps

  -- such a turn of the cache decides nothing
  turns : (step : MarkStep) → closes step ≡ None → work.Turns Alone step
  turns step no_close = turns_of Alone no_close (λ turn. free deciding)

  module _ (rules : Rules) (options : OptionValues) (grip : Grip) where
    old_passphrase : (nonce : Option (List ℕ)) (clear : Bool) (key : Key)
        → Heeds deciding (IsUnlockable (record key { is_clear = clear })) (OldPassphrase rules options grip nonce (record key { is_clear = clear })) NoneOwed
    old_passphrase nonce true key = undue deciding (λ why due. absurd (let e = due.closed in cc)) (alone (returned Alone _))
    old_passphrase nonce false key =
        bind deciding NoneOwed (locks deciding (record key { is_clear = false })) (λ locked. alone (opens_locked (fits_keys deciding) rules options grip (λ pass turn. free deciding) locked nonce))

    verifies_passphrase : (clear : Bool) (key : Key)
        → Heeds deciding (IsUnlockable (record key { is_clear = clear })) (VerifiesPassphrase rules options grip (record key { is_clear = clear })) NoneOwed
    verifies_passphrase true key = undue deciding (λ why due. absurd (let e = due.closed in cc)) (alone (returned Alone _))
    verifies_passphrase false key =
        bind deciding NoneOwed (locks deciding (record key { is_clear = false })) (λ locked. alone (uncached_old (fits_keys deciding) rules options grip (λ pass turn. free deciding) locked options.mode))

    found_or_new : (nonce : Option (List ℕ)) → Heeds deciding NoneDue (FoundOrNew rules options nonce grip) NoneOwed
    found_or_new nonce =
        alone (work.bind Alone (so (work.looks_over Alone (λ named. turns _ refl))) (λ found. or_otherwise Alone found (new_here (fits_keys deciding) rules options grip options.mode)))

    stores_key : (count : ℕ) (key : Key) (pass : List ℕ) → Heeds deciding NoneDue (StoresKey count key grip pass) NoneOwed
    stores_key count key pass =
        alone (work.bind Alone (so (work.draws Alone (free deciding) (λ draw. free deciding))) (λ drawn. work.bind Alone (so (work.protects Alone (free deciding)))
        (λ file. work.bind Alone (so (work.changes Alone (turns _ refl))) (λ cached. work.bind Alone (so (work.replaces Alone (free deciding) (λ answer. free deciding)))
        (λ replaced. work.bind Alone (work.keeps_new Alone grip pass (turns _ refl) (λ ticket turn. free deciding)) (λ kept. returned Alone (drop 20 drawn)))))))

    rewrites_file : (file : List ℕ) (key : Key) (pass : List ℕ) → WorksSo Alone (RewritesFile rules options grip file key pass)
    unfolding RewritesFile
    rewrites_file file key pass =
        work.bind Alone (so (work.draws Alone (free deciding) (λ draw. free deciding))) (λ drawn. work.bind Alone (so (work.protects Alone (free deciding)))
        (λ list. work.bind Alone (so (work.rewrites Alone (free deciding))) (λ new. work.bind Alone (so (work.replaces Alone (free deciding) (λ answer. free deciding)))
        (λ replaced. work.keeps_new Alone grip pass (turns _ refl) (λ ticket turn. free deciding)))))

    changes_opened : (nonce : Option (List ℕ)) (file : List ℕ) (key : Key) → Heeds deciding NoneDue (ChangesOpened rules options grip nonce file key) NoneOwed
    changes_opened nonce file key =
        alone (work.bind Alone (so (work.is_short Alone (free deciding)))
        (λ short. work.bind Alone (work.bind Alone (looks_nonce (fits_keys deciding) nonce) (λ found. or_otherwise Alone found (new_here (fits_keys deciding) rules options grip options.mode)))
        (λ pass. rewrites_file file key pass)))

-- ---- requests

module _ (one_canon : (file : List ℕ) (a b : Option (List ℕ)) → Canon file a → Canon file b → a ≡ b) (rules : Rules) (options : OptionValues) where
  -- a value that has to be there, and is, or isn't
  module _ {A B : Type 0} (deciding : Deciding) (given : Code) (next : A → Action B) where
    abbrev nought : Option A
    nought = None

    lacks_of : (before : Option ℕ) (events : List Event) (result : Result B Refusal) (after : Option ℕ) → Follows (needed given nought) next before events result after → AllByRecursion Remembers events
        → (why : Code) → (nought ≡ None) × (given ≡ why) ⊎ IsDecided deciding events why → SaysTo NoneOwed result why
    lacks_of before events result after (stops chain.refuses) remembers why (inl due) = subst (λ c. refusal_line (refusals.Agent given) ≡ Some (failed c)) due.1 refl
    lacks_of before events result after (stops chain.refuses) remembers why (inr decided) = absurd (never_decided deciding [] tt decided)
    lacks_of before events result after (goes_on does next_does) remembers why due = elim does [ ]

    has_of : (value : A) → Heeds deciding NoneDue (next value) NoneOwed → (before : Option ℕ) (events : List Event) (result : Result B Refusal) (after : Option ℕ) → Follows (needed given (Some value)) next before events result after
        → AllByRecursion Remembers events → (why : Code) → (Some value ≡ None) × (given ≡ why) ⊎ IsDecided deciding events why → SaysTo NoneOwed result why
    has_of value heeds before events result after (goes_on chain.returns does) remembers why (inl due) = absurd (cc (due.0))
    has_of value heeds before events result after (goes_on {events = more} chain.returns does) remembers why (inr decided) = heeds before more result after does remembers why (inr decided)
    has_of value heeds before events result after (stops does) remembers why due = elim does [ ]

  import_key : (drawn : Option (List ℕ)) (wraps : WrapKeys) (force : Bool) (nonce : Option (List ℕ))
      → Heeds (by_import force drawn) (λ why. (drawn ≡ None) × (code.Parameter ≡ why)) (ImportKeyReplies rules options (record wraps { import = drawn }) force nonce) NoneOwed
  unfolding ImportKeyReplies
  import_key None wraps force nonce = lacks_of (by_import force None) code.Parameter _
  import_key (Some wrap) wraps force nonce =
      let d = by_import force (Some wrap) in
      has_of d code.Parameter _ wrap
      (bind d NoneOwed (receives_key force wrap) (λ key. bind d NoneOwed (alone d (so d (work.names_key (Alone d) (free d))))
      (λ grip. bind d NoneOwed (is_free wrap force grip) (λ unused. bind d NoneOwed (found_or_new d rules options grip nonce)
      (λ pass. bind d NoneOwed (stores_key d rules options grip options.s2k_count key pass) (λ cache_nonce. alone d (returned (Alone d) _)))))))

  replies : (wraps : WrapKeys) (asked : KeyRequest) → Heeds (deciding_of wraps asked) (due_of wraps asked) (KeyReplies rules options wraps asked) NoneOwed
  unfolding KeyInfoReplies ExportKeyReplies VerifyReplies PasswdReplies DeleteKeyReplies
  replies wraps (on.KeyInfo grip) =
      let d = by_file wraps.import NoFault in
      bind d (λ file why. ⊥) (reads_file one_canon wraps.import NoFault grip)
      (λ file. alone d (work.bind (Alone d) (tells_info (fits_keys d) grip file.key) (λ line. returned (Alone d) _)))
  replies wraps (on.ImportKey force nonce) = import_key wraps.import wraps force nonce
  replies wraps (on.ExportKey grip nonce) =
      let d = by_file wraps.import IsUnlockable in
      bind d NoneOwed (is_needed d code.Parameter wraps.export)
      (λ wrap. bind d (λ file why. IsUnlockable file.key why) (reads_file one_canon wraps.import IsUnlockable grip)
      (λ file. bind d NoneOwed (old_passphrase d rules options grip nonce file.key.is_clear file.key)
      (λ opened. alone d (work.bind (Alone d) (work.closes_ticket (Alone d) (λ ticket turn. free d))
      (λ closed. work.bind (Alone d) (so d (work.wraps_key (Alone d) (free d))) (λ wrapped. work.bind (Alone d) (so d (work.told (Alone d) (free d))) (λ text. returned (Alone d) _)))))))
  replies wraps (on.Passwd grip old new true) =
      let d = by_file wraps.import IsUnlockable in
      bind d (λ file why. IsUnlockable file.key why) (reads_file one_canon wraps.import IsUnlockable grip)
      (λ file. bind d NoneOwed (verifies_passphrase d rules options grip file.key.is_clear file.key)
      (λ opened. alone d (work.bind (Alone d) (work.closes_ticket (Alone d) (λ ticket turn. free d)) (λ closed. returned (Alone d) _))))
  replies wraps (on.Passwd grip old new false) =
      let d = by_file wraps.import IsUnlockable in
      bind d (λ file why. IsUnlockable file.key why) (reads_file one_canon wraps.import IsUnlockable grip)
      (λ file. bind d NoneOwed (old_passphrase d rules options grip old file.key.is_clear file.key)
      (λ opened. bind d NoneOwed (changes_opened d rules options grip new file.bytes opened.key) (λ changed. alone d (returned (Alone d) _))))
  replies wraps (on.DeleteKey grip force) =
      let d = by_absence wraps.import in
      bind d IsLacking (finds wraps.import grip)
      (λ there. bind d NoneOwed (is_there wraps.import there)
      (λ some. bind d NoneOwed (alone d (consents (fits_keys d) rules options grip options.mode force))
      (λ agreed. bind d NoneOwed (removes wraps.import grip)
      (λ removed. alone d (work.bind (Alone d) (so d (work.changes (Alone d) (turns d _ refl))) (λ cleared. returned (Alone d) _))))))
  replies wraps (on.Bad given) = refuses_due (by_said wraps.import) given
  replies wraps asked =
      let d = by_said wraps.import in
      alone d (plain_works (fits_keys d) (λ grip answer. free d) (λ answer. free d) (λ draw. free d) rules options wraps asked tt)

-- ---- the answer

module _ (one_canon : (file : List ℕ) (a b : Option (List ℕ)) → Canon file a → Canon file b → a ≡ b) (rules : Rules) (options : OptionValues) (wraps : WrapKeys) where
  -- a request on keys is answered by the error line of what is due before it, or decides it among its events
  keys_answered : (asked : KeyRequest) {events : List Event} {after : WrapKeys} {went : KeyWent} → KeyExchange rules options wraps asked events after went → AllByRecursion Remembers events → (why : Code)
      → due_of wraps asked why ⊎ IsDecided (deciding_of wraps asked) events why → HasError why OfAgent events
  keys_answered asked (answered events held reply does closes) remembers why due =
      absurd (never_ok (deciding_of wraps asked) (replies one_canon rules options wraps asked) why (Some reply.text) closes remembers due does)
  keys_answered asked (refused events held refusal does closes) remembers why due =
      error_said (deciding_of wraps asked) (replies one_canon rules options wraps asked) why (refusal_line refusal) closes remembers due refl does

-- how many reads said that a key isn't there
abbrev is_absent : Event → ℕ
is_absent (Port (Keys (Read grip key_read.Absent))) = 1
is_absent _ = 0

abbrev absents : List Event → ℕ
absents [] = 0
absents (event ∷ more) = is_absent event + absents more

absents_append : (first more : List Event) → absents (first ++ more) ≡ absents first + absents more
absents_append [] more = omega arith
absents_append (event ∷ first) more = let e = absents_append first more in omega arith

absents_all : (grips : List Grip) → absents (map (λ grip. Port (Keys (Read grip key_read.Absent))) grips) ≡ length grips
absents_all [] = refl
absents_all (grip ∷ more) = let e = absents_all more in omega arith

absents_closed : {held : Option ℕ} {back : List Event} → Closes None held back (Ok tt) None → absents back ≡ 0
absents_closed turning.unheld = refl
absents_closed (turning.closed turn can) = refl

-- where the request goes on, or is refused otherwise, fewer reads said so than it names keys
found_first : (grips : List Grip) (before : Option ℕ) (events : List Event) (value : Unit {0}) (after : Option ℕ) → HasOne grips before events (Ok value) after → absents events < length grips
found_first [] before events value after does = elim does [ ]
found_first (grip ∷ more) before events value after (goes_on small.found chain.returns) = omega arith
found_first (grip ∷ more) before events value after (goes_on {events = rest} {mid} small.absent does) = let e = found_first more mid rest value after does in omega arith

refused_first : (grips : List Grip) (before : Option ℕ) (events : List Event) (why : Refusal) (after : Option ℕ) → HasOne grips before events (Err why) after
    → (Agent code.NoSecKey ≡ why) ⊎ (absents events < length grips)
refused_first [] before events why after chain.refuses = inl refl
refused_first (grip ∷ more) before events why after (goes_on small.found does) = elim does [ ]
refused_first (grip ∷ more) before events why after (goes_on {events = rest} {mid} small.absent does) =
    elim (refused_first more mid rest why after does) [ inl is ↦ inl is | inr fewer ↦ inr (omega arith) ]
refused_first (grip ∷ more) before events why after (stops small.faulted) = inr (omega arith)
refused_first (grip ∷ more) before events why after (stops small.no_memory) = inr (omega arith)

-- but as many reads said so
none_fewer : (grips : List Grip) {whole : List Event} → AreUnread whole grips → absents whole < length grips → ⊥
none_fewer grips {whole} all fewer =
    let reads = map (λ grip. Port (Keys (Read grip key_read.Absent))) grips in
    let actions_are : absents whole ≡ absents (all.before ++ (reads ++ all.after)) = ap absents all.is in
    let first = absents_append all.before (reads ++ all.after) in
    let second = absents_append reads all.after in
    let each = absents_all grips in
    let no : ⊥ = omega arith in
    no

-- the events of an answer, behind those of the reads
rest_absents : {held : Option ℕ} (events : List Event) {back : List Event} (last : List Event) → Closes None held back (Ok tt) None → absents last ≡ 0 → absents (events ++ (back ++ last)) ≡ absents events
rest_absents events {back} last closes none =
    let closed = absents_closed closes in
    let first = absents_append events (back ++ last) in
    let second = absents_append back last in
    omega arith

said_absents : (line : Option (List ℕ)) → absents (said_last line) ≡ 0
said_absents None = refl
said_absents (Some text) = refl

module _ (rules : Rules) (options : OptionValues) (wraps : WrapKeys) (grips : List Grip) where
  replied : (events : List Event) (held : Option ℕ) (reply : KeyReply) → HaveKeyReplies rules options wraps grips None events (Ok reply) held → absents events < length grips
  unfolding HaveKeyReplies
  replied events held reply (goes_on {first} does chain.returns) = let fewer = found_first grips _ first _ _ does in let joined = absents_append first [] in omega arith

  denied : (events : List Event) (held : Option ℕ) (why : Refusal) → HaveKeyReplies rules options wraps grips None events (Err why) held → (Agent code.NoSecKey ≡ why) ⊎ (absents events < length grips)
  unfolding HaveKeyReplies
  denied events held why (goes_on does next) = elim next [ ]
  denied events held why (stops does) = refused_first grips _ _ _ _ does

  have_answered : {events : List Event} {after : WrapKeys} {went : KeyWent} → KeyExchange rules options wraps (on.HaveKey grips) events after went → AreUnread events grips → HasError code.NoSecKey OfAgent events
  have_answered (answered events held reply {back} does closes) all =
      let fewer = replied events held reply does in
      let same = rest_absents events (Sent reply.text ∷ []) closes refl in
      absurd (none_fewer grips all (omega arith))
  have_answered (refused events held why {back} does closes) all =
      let same = rest_absents events (refusal_events why) closes (said_absents (refusal_line why)) in
      elim (denied events held why does) [
        | inl is ↦ said_error events back (refusal_line why) code.NoSecKey (ap (λ r. refusal_line r) (sym is))
        | inr fewer ↦ absurd (none_fewer grips all (omega arith))
      ]

-- ---- what is due, and what decides a request

-- what the client said decides its request
pub said_decides : (deciding : Deciding) {events : List Event} {why : Code} (unheard : ClientError) → refusal_code unheard ≡ Some why → IsSaid events unheard → IsDecided deciding events why
said_decides deciding {why} unheard is (said {word} {params} {limit} {inquired} says has) =
    record { event = Inquiry word params limit inquired; has = has; decides = subst (λ r. SaidDecides deciding limit r why) (sym says) is }

-- what is due before a request on keys, where this is one, and what decides it
abbrev key_due : WrapKeys → Option KeyRequest → Code → Type 0
key_due wraps None why = ⊥
key_due wraps (Some asked) why = due_of wraps asked why

abbrev deciding_by : WrapKeys → Option KeyRequest → Deciding
deciding_by wraps None = by_said wraps.import
deciding_by wraps (Some asked) = deciding_of wraps asked

same_sent : (wraps : WrapKeys) (asked : Option KeyRequest) (why : Code) (bytes : List ℕ) → SentRefuses wraps.import bytes why → (deciding_by wraps asked).sent bytes why
same_sent wraps (Some (on.Bad given)) why bytes refuses_so = refuses_so
same_sent wraps _ why bytes refuses_so = refuses_so

module _ (rules : Rules) (kept : SessionState) (request : Request) (events : List Event) where
  -- what is due before the request, or decides it among its events
  abbrev Due : Code → Type 0
  Due why = cache_due kept.options request why ⊎ key_due kept.wraps (on_keys request) why

  abbrev ByRequest : Deciding
  ByRequest = deciding_by kept.wraps (on_keys request)

  abbrev Decided : Code → Type 0
  Decided why = Due why ⊎ IsDecided ByRequest events why

  data_decides : (why : Code) → KeyDataSays events rules kept request (Err why) → Decided why
  data_decides why (data_says {wrap} {wrapped} drawn (sent {inquired} says has) wrapped_says) =
      let refuses_so = same_sent kept.wraps (on_keys request) why wrapped (subst (λ w. SentRefuses w wrapped why) (sym drawn) wrapped_says) in
      inr (record { event = Inquiry _ [] max_key_data inquired; has = has; decides = subst (λ r. SaidDecides ByRequest max_key_data r why) (sym says) (refl, refuses_so) })

  said_so : (why : Code) (unheard : ClientError) → refusal_code unheard ≡ Some why → IsSaid events unheard → Decided why
  said_so why unheard is says = inr (said_decides ByRequest unheard is says)

  -- a request on keys, by which key request it is
  decides_so : {asked : KeyRequest} {why : Code} → on_keys request ≡ Some asked → IsDecided (deciding_of kept.wraps asked) events why → Decided why
  decides_so {why} is decided = inr (subst (λ a. IsDecided (deciding_by kept.wraps a) events why) (sym is) decided)

  due_so : {asked : KeyRequest} (why : Code) → on_keys request ≡ Some asked → due_of kept.wraps asked why → Decided why
  due_so why is due = inl (inr (subst (λ a. key_due kept.wraps a why) (sym is) due))

  refused_so : (why : Code) → IsRefusedBy request why → Decided why
  refused_so why (inl is) = inl (inl (subst (λ r. cache_due kept.options r why) (sym is) refl))
  refused_so why (inr is) = due_so why is refl

  option_so : (answer : OptionAnswer) (why : Code) → IsOption events rules kept request answer → option_due answer why → Decided why
  option_so answer why (option is says) due = inl (inl (subst (λ r. cache_due kept.options r why) (sym is) (subst (λ a. option_due a why) (sym says) due)))

  unlocks_so : {grip : Grip} {why : Code} → Unlocks request grip → IsDecided (by_file kept.wraps.import IsUnlockable) events why → Decided why
  unlocks_so (exports is) decided = decides_so is decided
  unlocks_so (changes is) decided = decides_so is decided

  -- a read of a file that is refused, where the request judges it
  read_decides : (Owes : Key → Code → Type 0) {grip : Grip} {says : Result Key KeyFault} {why : Code} → ((bytes : List ℕ) → FileSays bytes says → FileRefuses Owes bytes why) → IsRead events grip says
      → IsDecided (by_file kept.wraps.import Owes) events why
  read_decides Owes {grip} refuses_so (read {answer} {file = bytes} is says has) =
      record { event = Port (Keys (Read grip answer)); has = has; decides = read_refuses Owes answer bytes is (refuses_so bytes says) }

  judges_so : {grip : Grip} {why : Code} {fault : KeyFault} → Judges request grip → IsRead events grip (Err fault) → fault_code fault ≡ why → Decided why
  judges_so (tells is) is_read code_is = decides_so is (read_decides NoFault (λ bytes says. faulty says code_is) is_read)
  judges_so (unlocks unlocks_it) is_read code_is = unlocks_so unlocks_it (read_decides IsUnlockable (λ bytes says. faulty says code_is) is_read)

  faulty_so : (why : Code) → IsFaulty events rules kept request why → Decided why
  faulty_so why (causes.file judges is_read is) = judges_so judges is_read is
  faulty_so why (protection {fault} unlocks_it is_read closed is_fault is) =
      unlocks_so unlocks_it (read_decides IsUnlockable (λ bytes says. owes says (record { fault = fault; closed = closed; is = is_fault; code_is = is })) is_read)
  faulty_so why (key_data says) = data_decides why says

  lacks_so : (asked : Option KeyRequest) → on_keys request ≡ asked → LacksKeys events asked → Decided code.NoSecKey ⊎ ((grips : List Grip) × (on_keys request ≡ Some (on.HaveKey grips)) × AreUnread events grips)
  lacks_so None is none = absurd none
  lacks_so (Some asked) is lacks = elim (absent_decides events kept.wraps asked lacks) [ inl decided ↦ inl (decides_so is decided) | inr have ↦ inr (have.0, is ∙ ap (λ a. Some a) have.1, have.2) ]

  -- what decides a request is its answer, and so is what the cache or the files lack, where nothing else is looked for
  module _ (decides : (why : Code) → Decided why → HasError why OfAgent events) (no_data : HasNoData events rules kept request → HasError code.NoData OfAgent events)
      (none_there : (grips : List Grip) → on_keys request ≡ Some (on.HaveKey grips) → AreUnread events grips → HasError code.NoSecKey OfAgent events)
      (is_long : IsLong events rules kept request → HasError code.BadSecKey OfAgent events) where
    by_cause : (why : Code) → ExactCause events rules kept request why → HasError why OfAgent events
    by_cause code.NoData cause = no_data cause
    by_cause code.NoSecKey cause = elim (lacks_so (on_keys request) refl cause) [ inl decided ↦ decides code.NoSecKey decided | inr have ↦ none_there have.0 have.1 have.2 ]
    by_cause code.FileExists (there {grip} {file = found} is says named has) =
        decides code.FileExists (decides_so is (record { event = Port (Keys (Read grip (key_read.Found found))); has = has; decides = refl }))
    by_cause code.Checksum cause = decides code.Checksum (data_decides code.Checksum cause)
    by_cause code.InvSexp cause = decides code.InvSexp (faulty_so code.InvSexp cause)
    by_cause code.BadSecKey (inl cause) = decides code.BadSecKey (faulty_so code.BadSecKey cause)
    by_cause code.BadSecKey (inr cause) = is_long cause
    by_cause code.UnknownCommand cause = decides code.UnknownCommand (refused_so code.UnknownCommand cause)
    by_cause code.UnknownOption cause = decides code.UnknownOption (option_so option_answer.Unknown code.UnknownOption cause refl)
    by_cause code.Parameter (causes.IsMalformed.line is) = decides code.Parameter (refused_so code.Parameter is)
    by_cause code.Parameter (causes.IsMalformed.option is) = decides code.Parameter (option_so option_answer.Parameter code.Parameter is refl)
    by_cause code.Parameter (no_import is none) = decides code.Parameter (due_so code.Parameter is (none, refl))
    by_cause code.Parameter (no_export is none) = decides code.Parameter (due_so code.Parameter is (none, refl))
    by_cause code.TooMuch cause = decides code.TooMuch (said_so code.TooMuch client_error.TooMuch refl cause)
    by_cause code.Unexpected cause = decides code.Unexpected (said_so code.Unexpected client_error.Unexpected refl cause)
    by_cause code.LineTooLong cause = decides code.LineTooLong (said_so code.LineTooLong (client_error.Gone gone.TooLong) refl cause)
    by_cause _ cause = absurd cause

  -- ---- requests on the cache and on the session

  module _ (options : OptionValues) (went : Went) (exchange : CacheExchange rules kept.options request events options went) (remembers : AllByRecursion Remembers events) where
    not_keys : (asked_for : Request) → CacheExchange rules kept.options asked_for events options went → on_keys asked_for ≡ None
    not_keys (Cache command) is = refl
    not_keys (Bad why) is = refl
    not_keys (OnKeys line) is = elim is [ ]

    cache_decides : (why : Code) → Decided why → HasError why OfAgent events
    cache_decides why (inl (inl due)) = cache_answered ByRequest rules kept.options options request events went exchange remembers why (inl due)
    cache_decides why (inl (inr due)) = absurd (subst (λ a. key_due kept.wraps a why) (not_keys request exchange) due)
    cache_decides why (inr decided) = cache_answered ByRequest rules kept.options options request events went exchange remembers why (inr decided)

    cache_without : HasNoData events rules kept request → HasError code.NoData OfAgent events
    cache_without (no_id fields is quiet none) = none_without rules kept.options options request events went exchange fields is quiet none
    cache_without (empty fields id is quiet same has) = none_cached rules kept.options options request events went exchange fields is quiet id has

    cache_cause : (why : Code) → ExactCause events rules kept request why → HasError why OfAgent events
    cache_cause = by_cause cache_decides cache_without (λ grips is each. let none = not_keys request exchange in absurd (cc (is, none))) never_long
      where
        never_long : IsLong events rules kept request → HasError code.BadSecKey OfAgent events
        never_long (long is opened list_long) = let none = not_keys request exchange in absurd (cc (is, none))
        never_long (long_file is drawn file_long) = let none = not_keys request exchange in absurd (cc (is, none))

-- ---- requests on keys

module _ (one_canon : (file : List ℕ) (a b : Option (List ℕ)) → Canon file a → Canon file b → a ≡ b) (rules : Rules) (kept : SessionState) where
  module _ (line : ArrayVec ℕ) (events : List Event) {after : WrapKeys} {went : KeyWent} (exchange : KeyExchange rules kept.options kept.wraps (key_request_of line.items) events after went)
      (remembers : AllByRecursion Remembers events) where
    keys_decide : (why : Code) → Decided rules kept (OnKeys line) events why → HasError why OfAgent events
    keys_decide why (inl (inl due)) = absurd due
    keys_decide why (inl (inr due)) = keys_answered one_canon rules kept.options kept.wraps (key_request_of line.items) exchange remembers why (inl due)
    keys_decide why (inr decided) = keys_answered one_canon rules kept.options kept.wraps (key_request_of line.items) exchange remembers why (inr decided)

    keys_without : HasNoData events rules kept (OnKeys line) → HasError code.NoData OfAgent events
    keys_without (no_id fields is quiet none) = absurd (cc is)
    keys_without (empty fields id is quiet same has) = absurd (cc is)

    keys_lack : (grips : List Grip) → Some (key_request_of line.items) ≡ Some (on.HaveKey grips) → AreUnread events grips → HasError code.NoSecKey OfAgent events
    keys_lack grips is each =
        let same : key_request_of line.items ≡ on.HaveKey grips = cc is in
        have_answered rules kept.options kept.wraps grips (subst (λ a. KeyExchange rules kept.options kept.wraps a events after went) same exchange) each

  -- ---- sessions

  pub cause_answered : (request : Request) {events : List Event} {after : SessionState} {went : Went} → RequestExchange rules kept request events after went → AllByRecursion Remembers events → (why : Code)
      → ExactCause events rules kept request why → HasError why OfAgent events
  cause_answered request {events} (cache exchange) remembers why cause = cache_cause rules kept request events _ _ exchange remembers why cause
  cause_answered (OnKeys line) {events} (keys exchange) remembers why cause =
      by_cause rules kept (OnKeys line) events (keys_decide line events exchange remembers) (keys_without line events exchange remembers) (keys_lack line events exchange remembers)
      (long_answered one_canon rules kept (OnKeys line) refl exchange remembers) why cause

-- ---- names of commands

-- one on the trust list is no option
unset_by : (found : Option Command) (line : List ℕ) {name : TrustCommandName} → trust_command found ≡ Some name → sets_terminal (request_by found line) ≡ false
unset_by (Some (at_table.Trust name)) line is = refl
unset_by (Some (at_table.Cache name)) line is = absurd (cc is)
unset_by (Some (at_table.Key name)) line is = absurd (cc is)
unset_by None line is = absurd (cc is)

not_on_trust : (line : List ℕ) {name : TrustCommandName} → trust_command (command_in line) ≡ Some name → sets_terminal (request_of line) ≡ false
unfolding request_of
not_on_trust line is = unset_by (command_in line) line is

-- ---- requests

-- no file is read again behind a request's work
none_again : {file : List ℕ} (line : Option (List ℕ)) → IsReadAgain file (said_last line) → ⊥
none_again None again = elim again [ ]
none_again (Some text) (read_again (read_trust is has)) = elim has [ ]

again_said : {file : List ℕ} (line : Option (List ℕ)) → IsReadTrust (said_last line) file → ⊥
again_said None (read_trust is has) = elim has [ ]
again_said (Some text) (read_trust is (later has)) = elim has [ ]

none_behind : {held : Option ℕ} {back : List Event} {file : List ℕ} (line : Option (List ℕ)) → Closes None held back (Ok tt) None → IsReadAgain file (back ++ said_last line) → ⊥
none_behind line turning.unheld again = none_again line again
none_behind line (turning.closed turn can) (read_again is_read) = again_said line is_read

module _ (rules : Rules) (before : SessionState) where
  -- MARKTRUSTED, whose file is too long with its new entry
  module _ (fingerprint : Grip) (purpose : TrustPurpose) (name : ArrayVec ℕ) (file : List ℕ) (none : trust file fingerprint.0 ≡ None)
      (many : MAX_TRUST_FILE_LEN < length (with_entry file fingerprint.0 (flag_of purpose))) where
    long_said : {held : Option ℕ} {back : List Event} (events : List Event) (line : Option (List ℕ)) (result : _) → Marked rules before.options fingerprint purpose name.items None events result held
        → Closes None held back (Ok tt) None → AllByRecursion Remembers events → IsReadAgain file (events ++ (back ++ said_last line)) → SaysTo NoneOwed result code.TooMuch
    long_said [] line result does closes remembers again = absurd (none_behind line closes again)
    long_said (first ∷ more) line result does closes remembers (read_again (read_trust is has)) =
        marked_long fingerprint purpose rules before.options name.items None (first ∷ more) result _ does remembers code.TooMuch first more refl
        (decided_before (ByLong fingerprint purpose) more _ (answer_free (ByLong fingerprint purpose) line closes) (record { event = _; has = has; decides = (file, is, (none, many, refl)) }))

    told_long : {events : List Event} {went : Went} → Told rules before.options (MarkTrusted fingerprint purpose name) events went → AllByRecursion Remembers events → IsReadAgain file events
        → HasError code.TooMuch OfAgent events
    told_long (telling.answered events back does closes) remembers again = absurd (long_said events (Some _) (Ok tt) does closes (each_left Remembers events _ remembers) again)
    told_long (telling.refused events back why does closes) remembers again =
        said_error events back (refusal_line why) code.TooMuch (long_said events (refusal_line why) (Err why) does closes (each_left Remembers events _ remembers) again)

    long_file_answered : {events : List Event} {went : Went} → TrustExchange rules before.options (MarkTrusted fingerprint purpose name) events went → AllByRecursion Remembers events → IsReadAgain file events
        → HasError code.TooMuch OfAgent events
    long_file_answered exchanged = told_long (told rules before.options (MarkTrusted fingerprint purpose name) exchanged)

  trust_cause : (request : TrustRequest) {events : List Event} {went : Went} → TrustExchange rules before.options request events went → AllByRecursion Remembers events → (why : Code)
      → ExactTrustCause events request why → HasError why OfAgent events
  trust_cause request exchanged remembers code.NotTrusted cause = denial_is_said rules before.options exchanged cause
  trust_cause request exchanged remembers code.Parameter cause =
      trust_answered rules before.options request exchanged remembers code.Parameter (inl (subst (λ r. due_trust r code.Parameter) (sym cause) refl))
  trust_cause request exchanged remembers code.TooMuch (inquired says) = trust_answered rules before.options request exchanged remembers code.TooMuch (inr (said_decides (by_said None) client_error.TooMuch refl says))
  trust_cause request {events} {went} exchanged remembers code.TooMuch (too_long {fingerprint} {purpose} {name} {file} is again none many) =
      long_file_answered fingerprint purpose name file none many (subst (λ r. TrustExchange rules before.options r events went) is exchanged) remembers again
  trust_cause request exchanged remembers code.Unexpected cause =
      trust_answered rules before.options request exchanged remembers code.Unexpected (inr (said_decides (by_said None) client_error.Unexpected refl cause))
  trust_cause request exchanged remembers code.LineTooLong cause =
      trust_answered rules before.options request exchanged remembers code.LineTooLong (inr (said_decides (by_said None) (client_error.Gone gone.TooLong) refl cause))
  trust_cause request exchanged remembers _ cause = absurd cause

  module _ (one_canon : (file : List ℕ) (a b : Option (List ℕ)) → Canon file a → Canon file b → a ≡ b) (line : List ℕ) where
    trust_allowed : (door : Door) {command : _} {found : TrustCommandName} {events : List Event} {after : SessionState} {went : Went} → AllowedExchange rules before line command events after went → door_command door line ≡ command
        → trust_command (command_in line) ≡ Some found → TrustExchange rules before.options (trust_request_of line) events went
    trust_allowed door doors.helped is named = absurd (cc (help_is_no_trust door line is, named))
    trust_allowed door doors.unset is named = absurd (cc (terminal_set door line is, not_on_trust line named))
    trust_allowed door (doors.trusts exchanged) is named = exchanged
    trust_allowed door (doors.any exchanged) is named = absurd (cc (other_is_no_trust door line is, named))

    pub door_cause : (door : Door) {events : List Event} {after : SessionState} {went : Went} → DoorExchange door rules before line events after went → AllByRecursion Remembers events → (why : Code)
        → ExactCauseAtDoor door rules before line events why → HasError why OfAgent events
    door_cause door (doors.forbidden refuses) remembers why (forbidden refuses_too) = here
    door_cause door (doors.forbidden refuses) remembers why (on_trust allows named cause) = absurd (cc (refuses, allows))
    door_cause door (doors.forbidden refuses) remembers why (any allows named cause) = absurd (cc (refuses, allows))
    door_cause door (doors.is_allowed allows exchanged) remembers why (forbidden refuses) = absurd (cc (refuses, allows))
    door_cause door (doors.is_allowed allows exchanged) remembers why (on_trust allows_too named cause) = trust_cause _ (trust_allowed door exchanged refl named) remembers why cause
    door_cause door (doors.is_allowed allows exchanged) remembers why (any allows_too named cause) =
        cause_answered one_canon rules before (request_of line) (door_is_session (doors.is_allowed allows exchanged) allows named) remembers why cause
