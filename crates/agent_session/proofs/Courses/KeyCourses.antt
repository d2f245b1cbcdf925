-- Requests on keys: their work, and what is done once a ticket was given back or a key's file changed.
use Rattle.std.{proofs.Common.{◌≡◌, ℕ, Bool, true, false, List, ◌∷◌, ◌++◌, Option, Some, None, Result, Ok, Err, refl, ap, []}, specs.Prelude.{not, drop}}
use Rattle.agent_ask.specs.Session.{PortCalls.{Keys, Replaced, Removed, Listed, Draw, Dice}, Actions.{◌>>=◌, goes_on, stops, Returns, returns}, SessionEvents.Port, TurnActions.{Changes, Closes}}
use Rattle.{agent_ask.proofs.Within.{Within, Yields, yields_then, returned_so, refused_so, values_so}, agent_ports.specs.declared.{grip.Grip.Grip, keys.{KeyDone.KeyDone, KeyRead.KeyRead, KeyNames.KeyNames}}}
use Rattle.{assuan_server.specs.Written.{refusal_line, ok}, session_client.specs.{declared.{code.Code.Code, refusal.Refusal.{Refusal, TheVariants.{Agent, Client}}, client_error.Gone.Gone}, Refusals.gone_by}, cache_policy.specs.Turns.closes}
use Rattle.{cache_policy.specs.declared.{mark.MarkStep.{MarkStep, TheVariants.Clear}, mode.Mode.TheVariants.{Normal, Nonce}}, session_options.specs.{OptionValues.OptionValues, declared.rules.Rules.Rules}, sexp_keys.specs.Key.Key}
use Rattle.{agent_commands.specs.declared.request.Request.Request, key_commands.specs.Events.{Event, IsUncalled, read, called}}
use Rattle.key_commands.specs.Exchanges.{KeyReply, KeyExchange, HaveKeyReplies, ListGripsReplies, KeyInfoReplies, ListKeysReplies, KeyWrapReplies, ImportKeyReplies, ExportKeyReplies, PasswdReplies, VerifyReplies, DeleteKeyReplies, KeyReplies, wrap_key}
use Rattle.key_commands.specs.{Exchanges.{StoresKey, RewritesFile, ChangesOpened}, KeyActions.{Tells, tells, Replaces, Removes, KeepsNew, TellsKeyInfo, ReceivesKey, IsFree, WrapsKey}}
use Rattle.key_commands.specs.{Lines.{grip_text, info_line, of_passphrase, of_key_data, of_key}, Actions.{Action, key_went_after}, declared.{request.KeyRequest.KeyRequest, went.KeyWent.KeyWent, keywrap_key.WrapKeys.WrapKeys}}
use Rattle.{key_commands.proofs.{EachEvent.{each_bind, each_returned, each_needed, each_wanted, each_closes, each_changes, still_uncalled}, EachRequest.{IsPlain, plain_replies}}, assuan_escape.specs.Escapes.hex_text}
use Rattle.agent_session.specs.{Causes.{on_keys, IsSaid}, Completeness.EndsInOk, Refusals.{IsAllowed, IsWorkStep, CourseBy, IsUnopening, OpensFirst}, OwnPassphrases.{MayStore, directly, imported, under_export, under_change}}
use Rattle.agent_session.proofs.Causes.{Asides.{info_status, nonce_status, status_aside}, Replying.{ends_in_ok, reply_keys}}
use Rattle.agent_session.proofs.Courses.Courses.{AnyNonce, Ends, ends_with, EndsSo, working_ends, ends_working, bind_ends, made, makes, closed, unwrapped, kept, put, unput, cleared, uncleared, reply_ends_in_ok, ok_course, err_course}
use Rattle.agent_session.proofs.Courses.{Courses.{ends_said, gone_only, said_before, answer_heard}, KeyWorks.{FitsKeys, looks_nonce, old_here, verified_here, new_here, consents, tells_info, writes_infos, has_one}}
use Rattle.agent_session.proofs.Courses.Works.{WorksTo, works, WorksSo, Keeps, keeps_works, bind, returned, refuses_by, is_needed, or_otherwise, is_wanted, turns_of}
use Rattle.agent_session.proofs.Courses.Opens.{OpensSo, calls_nobody, before_opens, before_prompts, behind_opens, prompts_opens, otherwise_prompts, agrees_opens, old_by_prompts, verified_prompts, new_by_prompts, both_of, still_unopening}
use Rattle.agent_session.proofs.Courses.Opens.{then_unopening, answer_unopening}
use Rattle.agent_ask.specs.Session.TurnActions as taken
use Rattle.session_client.specs.declared.code.Code.TheVariants as code
use Rattle.session_client.specs.declared.client_error.ClientError.TheVariants as client_error
use Rattle.agent_ask.specs.Session.ActionExchanges as action_exchanges
use Rattle.key_commands.specs.Exchanges as exchange
use Rattle.key_commands.specs.KeyActions as actions
use Rattle.key_commands.specs.declared.request.KeyRequest.TheVariants as on
use Rattle.key_commands.specs.declared.went.KeyWent.TheVariants as key_went
use Rattle.agent_session.specs.Completeness as completeness
use Rattle.agent_session.proofs.Courses.Works as work
use Rattle.key_commands.proofs.EachEvent as each

-- a request by which nobody is asked
module _ {Fits : Event → Type 0} (fits : FitsKeys Fits) (reads : (grip : Grip) (answer : KeyRead) → Fits (read grip answer)) (lists : (answer : KeyNames) → Fits (called (Listed answer)))
    (draws : (draw : Draw) → Fits (Port (Dice draw))) (rules : Rules) (options : OptionValues) (wraps : WrapKeys) where
  pub plain_works : (asked : KeyRequest) → IsPlain asked → WorksSo Fits (KeyReplies rules options wraps asked)
  unfolding HaveKeyReplies ListGripsReplies KeyInfoReplies ListKeysReplies KeyWrapReplies
  plain_works (on.HaveKey grips) plain = bind Fits (has_one fits reads grips) (λ one. returned Fits _)
  plain_works on.ListGrips plain =
      bind Fits (keeps_works Fits (work.lists Fits fits.memory lists)) (λ grips. bind Fits (keeps_works Fits (work.joins_grips Fits fits.memory)) (λ bytes.
      bind Fits (keeps_works Fits (work.told Fits fits.memory)) (λ text. returned Fits _)))
  plain_works (on.KeyInfo grip) plain = bind Fits (keeps_works Fits (work.reads_file Fits fits.memory (reads grip))) (λ file. bind Fits (tells_info fits grip file.key) (λ line. returned Fits _))
  plain_works on.ListKeys plain = bind Fits (keeps_works Fits (work.lists Fits fits.memory lists)) (λ grips. bind Fits (writes_infos fits reads grips) (λ written. returned Fits _))
  plain_works (on.KeyWrap way) plain =
      bind Fits (or_otherwise Fits (wrap_key way wraps) (keeps_works Fits (work.draws Fits fits.memory draws))) (λ key. bind Fits (keeps_works Fits (work.told Fits fits.memory)) (λ text. returned Fits _))
  plain_works (on.Bad why) plain = refuses_by Fits (Agent why)
  plain_works _ plain = absurd plain

module _ (request : Request) where
  abbrev Fits : Event → Type 0
  Fits = IsAllowed request AnyNonce

  abbrev Here : {A : Type 0} → Action A → Type 0
  Here = WorksSo Fits

  -- it is an action of the request's work
  so : {A : Type 0} {action : Action A} → Keeps Fits action → Here action
  so keeps = keeps_works Fits keeps

  -- a step that gives no ticket back, and is the request's work
  own : (asked : MarkStep) → closes asked ≡ None → IsWorkStep request AnyNonce asked → work.Turns Fits asked
  own asked no_close allowed = turns_of Fits no_close (λ turn. allowed)

  fits : FitsKeys Fits
  fits = record {
    memory = tt;
    cut = λ text. tt;
    limits = of_passphrase;
    clients = λ word inquired. tt;
    notes = λ pid inquired. tt;
    calls = λ event. tt;
    nonces = λ id turn. tt;
    keys = λ grip way turn. tt;
    seats_for = λ grip turn. tt;
    seats = λ turn. tt;
    peeks = λ grip turn. tt;
    infos = of_key;
  }

  reads_file : (grip : Grip) → Here (actions.ReadsFile grip)
  reads_file grip = so (work.reads_file Fits tt (λ answer. tt))

  -- ---- keys that come in

  receives_key : (wrap : List ℕ) → Here (ReceivesKey wrap)
  receives_key wrap =
      bind Fits (so (work.writes Fits (λ text. tt) of_key_data)) (λ told. bind Fits (so (work.asks_key_data Fits (λ inquired. tt) tt)) (λ wrapped. so (work.unwraps Fits tt)))

  is_free : (force : Bool) (grip : Grip) → Here (IsFree force grip)
  is_free true grip = returned Fits tt
  is_free false grip = bind Fits (so (work.finds Fits tt (λ answer. tt))) (λ there. is_wanted Fits code.FileExists (not there))

  -- ---- files that are changed

  module _ (grip : Grip) (file pass : List ℕ) where
    not_done : {A : Type 0} (answer : KeyDone) {why : Code} → actions.change_fault answer ≡ Some why → WorksTo Fits {A = A} (Port (Keys (Replaced grip file answer)) ∷ []) (Err (Agent why))
    not_done answer is = work.not_replaced Fits tt answer (λ given other. other) is

    replaces_so_of : (before : Option ℕ) (events : List Event) (result : Result (Unit {0}) Refusal) (after : Option ℕ) → (Replaces grip file >>= λ replaced. KeepsNew grip pass) before events result after
        → Ends request events result after
    replaces_so_of None _ _ _ (goes_on actions.done (taken.done can)) = ends_with request put
    replaces_so_of None _ _ _ (goes_on actions.done (taken.interrupted can why)) = ends_with request (unput why)
    replaces_so_of (Some number) _ _ _ (goes_on actions.done (taken.closed turn can)) = ends_with request (kept turn)
    replaces_so_of before _ _ _ (stops (actions.not_done {answer} is)) = working_ends request (not_done answer is)

    ends_replacing : EndsSo request (Replaces grip file >>= λ replaced. KeepsNew grip pass)
    ends_replacing = record { of = replaces_so_of }

    -- and then a value
    stores_so_of : {A : Type 0} {value : A} (before : Option ℕ) (events : List Event) (result : Result A Refusal) (after : Option ℕ)
        → (Replaces grip file >>= λ replaced. (KeepsNew grip pass >>= λ kept. Returns value)) before events result after → Ends request events result after
    stores_so_of None _ _ _ (goes_on actions.done (goes_on (taken.done can) returns)) = ends_with request put
    stores_so_of None _ _ _ (goes_on actions.done (stops (taken.interrupted can why))) = ends_with request (unput why)
    stores_so_of (Some number) _ _ _ (goes_on actions.done (goes_on (taken.closed turn can) returns)) = ends_with request (kept turn)
    stores_so_of (Some number) _ _ _ (goes_on actions.done (stops never)) = elim never [ ]
    stores_so_of before _ _ _ (stops (actions.not_done {answer} is)) = working_ends request (not_done answer is)

    ends_storing : {A : Type 0} (value : A) → EndsSo request (Replaces grip file >>= λ replaced. (KeepsNew grip pass >>= λ kept. Returns value))
    ends_storing value = record { of = stores_so_of }

  removes_so_of : {A : Type 0} {grip : Grip} {value : A} (before : Option ℕ) (events : List Event) (result : Result A Refusal) (after : Option ℕ)
      → (Removes grip >>= λ removed. (Changes (Clear (grip_text grip) Normal) >>= λ cleared. Returns value)) before events result after → Ends request events result after
  removes_so_of _ _ _ _ (goes_on actions.done (goes_on (taken.done can) returns)) = ends_with request cleared
  removes_so_of _ _ _ _ (goes_on actions.done (stops (taken.interrupted can why))) = ends_with request (uncleared why)
  removes_so_of {grip} _ _ _ _ (stops (actions.not_done {answer} is)) =
      working_ends request (work.unchanged Fits tt answer (λ given. Port (Keys (Removed grip given))) (λ given other. other) (λ given. refl) (λ given. refl) (λ given. refl) is)

  -- a ticket is given back
  gives_back_of : {A : Type 0} {keep : Option (List ℕ)} {value : A} (before : Option ℕ) (events : List Event) (result : Result A Refusal) (after : Option ℕ)
      → (Closes keep >>= λ closed. Returns value) before events result after → Ends request events result after
  gives_back_of _ _ _ _ (goes_on taken.unheld returns) = working_ends request (works Fits tt)
  gives_back_of _ _ _ _ (goes_on (taken.closed turn can) returns) = ends_with request (closed turn)
  gives_back_of _ _ _ _ (stops never) = elim never [ ]

  wraps_last_of : {keep : Option (List ℕ)} {wrap : List ℕ} {key : Key} {wraps : WrapKeys} (before : Option ℕ) (events : List Event) (result : Result KeyReply Refusal) (after : Option ℕ)
      → (Closes keep >>= λ closed. (WrapsKey wrap key >>= λ wrapped. (Tells wrapped >>= λ text. Returns (exchange.key_reply wraps text)))) before events result after → Ends request events result after
  wraps_last_of _ _ _ _ (goes_on taken.unheld (goes_on actions.is_wrapped (goes_on (tells answers) returns))) = working_ends request (works Fits tt)
  wraps_last_of _ _ _ _ (goes_on taken.unheld (stops actions.no_memory)) = working_ends request (work.no_memory Fits tt)
  wraps_last_of _ _ _ _ (goes_on (taken.closed turn can) (goes_on actions.is_wrapped (goes_on (tells answers) returns))) = ends_with request (closed turn)
  wraps_last_of _ _ _ _ (goes_on (taken.closed turn can) (stops actions.no_memory)) = ends_with request (unwrapped turn)
  wraps_last_of _ _ _ _ (goes_on taken.unheld (goes_on actions.is_wrapped (stops never))) = elim never [ ]
  wraps_last_of _ _ _ _ (goes_on (taken.closed turn can) (goes_on actions.is_wrapped (stops never))) = elim never [ ]
  wraps_last_of _ _ _ _ (stops never) = elim never [ ]

  -- ---- requests

  module _ (rules : Rules) (options : OptionValues) (wraps : WrapKeys) where
    abbrev EndsHere : {A : Type 0} → Action A → Type 0
    EndsHere = EndsSo request

    rewrites_file : (grip : Grip) (file : List ℕ) (key : Key) (pass : List ℕ) → EndsHere (RewritesFile rules options grip file key pass)
    unfolding RewritesFile
    rewrites_file grip file key pass =
        bind_ends request (so (work.draws Fits tt (λ draw. tt))) (λ drawn. bind_ends request (so (work.protects Fits tt)) (λ list. bind_ends request (so (work.rewrites Fits tt)) (λ new_file. ends_replacing grip new_file pass)))

    changes_opened : (grip : Grip) (id : Option (List ℕ)) (file : List ℕ) (key : Key) → EndsHere (ChangesOpened rules options grip id file key)
    changes_opened grip id file key =
        bind_ends request (so (work.is_short Fits tt)) (λ short. bind_ends request (bind Fits (looks_nonce fits id) (λ found. or_otherwise Fits found (new_here fits rules options grip options.mode)))
        (λ pass. rewrites_file grip file key pass))

    stores_key : ((drawn : List ℕ) → MayStore request AnyNonce (hex_text drawn) Nonce) → (count : ℕ) (key : Key) (grip : Grip) (pass : List ℕ) → EndsHere (StoresKey count key grip pass)
    stores_key stores count key grip pass =
        bind_ends request (so (work.draws Fits tt (λ draw. tt))) (λ drawn. bind_ends request (so (work.protects Fits tt))
        (λ file. bind_ends request (so (work.changes Fits (own _ refl (stores (drop 20 drawn))))) (λ cached. ends_storing grip file pass (drop 20 drawn))))

    replies : (asked : KeyRequest) → on_keys request ≡ Some asked → EndsHere (KeyReplies rules options wraps asked)
    unfolding ImportKeyReplies ExportKeyReplies VerifyReplies PasswdReplies DeleteKeyReplies
    replies (on.ImportKey force id) is =
        bind_ends request (is_needed Fits code.Parameter wraps.import) (λ wrap. bind_ends request (receives_key wrap) (λ key. bind_ends request (so (work.names_key Fits tt)) (λ grip. bind_ends request (is_free force grip)
        (λ free. bind_ends request (bind Fits (so (work.looks_over Fits (λ named. own _ refl tt))) (λ found. or_otherwise Fits found (new_here fits rules options grip options.mode)))
        (λ pass. made request (stores_key (λ drawn. imported is tt) options.s2k_count key grip pass) (λ nonce. makes request _))))))
    replies (on.ExportKey grip id) is =
        bind_ends request (is_needed Fits code.Parameter wraps.export) (λ wrap. bind_ends request (reads_file grip)
        (λ file. bind_ends request (old_here fits rules options grip (λ pass turn. directly (under_export is)) id file.key file.key.is_clear) (λ opened. record { of = wraps_last_of })))
    replies (on.Passwd grip old new true) is =
        bind_ends request (reads_file grip) (λ file. bind_ends request (verified_here fits rules options grip (λ pass turn. directly (under_change is)) file.key file.key.is_clear) (λ opened. record { of = gives_back_of }))
    replies (on.Passwd grip old new false) is =
        bind_ends request (reads_file grip) (λ file. bind_ends request (old_here fits rules options grip (λ pass turn. directly (under_change is)) old file.key file.key.is_clear)
        (λ opened. made request (changes_opened grip new file.bytes opened.key) (λ changed. makes request _)))
    replies (on.DeleteKey grip force) is =
        bind_ends request (so (work.finds Fits tt (λ answer. tt))) (λ there. bind_ends request (is_wanted Fits code.NoSecKey there) (λ some. bind_ends request (consents fits rules options grip options.mode force)
        (λ agreed. record { of = removes_so_of })))
    replies asked is = ends_working request (plain_works fits (λ grip answer. tt) (λ answer. tt) (λ draw. tt) rules options wraps asked tt)

-- every reply ends in an OK line, and the session goes on behind it
abbrev pub IsGoodReply : KeyReply → Type 0
IsGoodReply reply = EndsInOk reply.text × (reply.went ≡ key_went.On)

abbrev pub ReplyOk : Action KeyReply → Type 0
ReplyOk action = Within action (Yields IsGoodReply)

ok_then : {A : Type 0} {action : Action A} {next : A → Action KeyReply} → ((value : A) → ReplyOk (next value)) → ReplyOk (action >>= next)
ok_then = yields_then IsGoodReply

ok_returns : {wraps : WrapKeys} {text : List ℕ} → EndsInOk text → ReplyOk (Returns (exchange.key_reply wraps text))
ok_returns {wraps} {text} ends = returned_so (exchange.key_reply wraps text) (λ held. (ends, refl))

ok_alone : {wraps : WrapKeys} → ReplyOk (Returns (exchange.key_reply wraps ok))
ok_alone = ok_returns (ends_in_ok completeness.none)

-- what is known of a key, and an OK line
info_ok_of : (grip : Grip) (key : Key) (wraps : WrapKeys) (before : Option ℕ) (events : List Event) (reply : KeyReply) (after : Option ℕ)
    → (TellsKeyInfo grip key >>= λ line. Returns (exchange.key_reply wraps (line ++ ok))) before events (Ok reply) after → IsGoodReply reply
info_ok_of grip key wraps _ _ _ _ (goes_on (goes_on {value = cached} peeks line) returns) = (info_told line, refl)
  where
    info_told : {before after : Option ℕ} {events : List Event} {line : List ℕ} → Returns (info_line grip cached key.is_clear) before events (Ok line) after → EndsInOk (line ++ ok)
    info_told returns = ends_in_ok (status_aside (info_status grip cached key.is_clear))

tells_ok_of : (bytes : List ℕ) (make : List ℕ → WrapKeys) (before : Option ℕ) (events : List Event) (reply : KeyReply) (after : Option ℕ)
    → (Tells bytes >>= λ text. Returns (exchange.key_reply (make text) text)) before events (Ok reply) after → IsGoodReply reply
tells_ok_of bytes make _ _ _ _ (goes_on (tells answers) returns) = (reply_ends_in_ok (reply_keys answers), refl)

pub replies_ok : (rules : Rules) (options : OptionValues) (wraps : WrapKeys) (asked : KeyRequest) → ReplyOk (KeyReplies rules options wraps asked)
unfolding HaveKeyReplies ListGripsReplies KeyInfoReplies ListKeysReplies KeyWrapReplies ImportKeyReplies ExportKeyReplies PasswdReplies VerifyReplies DeleteKeyReplies
replies_ok rules options wraps (on.HaveKey grips) = ok_then (λ one. ok_alone)
replies_ok rules options wraps on.ListGrips = ok_then (λ grips. ok_then (λ bytes. values_so (tells_ok_of bytes _)))
replies_ok rules options wraps (on.KeyInfo grip) = ok_then (λ file. values_so (info_ok_of grip file.key wraps))
replies_ok rules options wraps on.ListKeys = ok_then (λ grips. ok_then (λ written. ok_alone))
replies_ok rules options wraps (on.KeyWrap way) = ok_then (λ key. values_so (tells_ok_of key _))
replies_ok rules options wraps (on.ImportKey force id) =
    ok_then (λ wrap. ok_then (λ key. ok_then (λ grip. ok_then (λ free. ok_then (λ pass. ok_then (λ cache_nonce. ok_returns (ends_in_ok (status_aside (nonce_status cache_nonce)))))))))
replies_ok rules options wraps (on.ExportKey grip id) = ok_then (λ wrap. ok_then (λ file. ok_then (λ opened. ok_then (λ closed. ok_then (λ wrapped. values_so (tells_ok_of wrapped _))))))
replies_ok rules options wraps (on.Passwd grip old new true) = ok_then (λ file. ok_then (λ opened. ok_then (λ closed. ok_alone)))
replies_ok rules options wraps (on.Passwd grip old new false) = ok_then (λ file. ok_then (λ opened. ok_then (λ changed. ok_alone)))
replies_ok rules options wraps (on.DeleteKey grip force) = ok_then (λ there. ok_then (λ some. ok_then (λ agreed. ok_then (λ removed. ok_then (λ cleared. ok_alone)))))
replies_ok rules options wraps (on.Bad why) = refused_so (Agent why) (λ held. tt)

module _ (request : Request) (rules : Rules) (options : OptionValues) (wraps : WrapKeys) where
  module _ {asked : KeyRequest} (is : on_keys request ≡ Some asked) where
    pub key_course : {events : List Event} {after : WrapKeys} {went : KeyWent} → KeyExchange rules options wraps asked events after went → CourseBy request AnyNonce events
    key_course (action_exchanges.answered some held reply does closes_so) =
        ok_course request ((replies_ok rules options wraps asked).of None some (Ok reply) held does).0 ((replies request rules options wraps asked is).of _ _ _ _ does) closes_so
    key_course (action_exchanges.refused some held why does closes_so) = err_course request ((replies request rules options wraps asked is).of _ _ _ _ does) closes_so

    -- a client that is gone ends its session
    pub key_gone : {events : List Event} {after : WrapKeys} {went : KeyWent} {how : Gone} → KeyExchange rules options wraps asked events after went → IsSaid events (client_error.Gone how) → went ≡ key_went.Gone how
    key_gone (action_exchanges.answered some held reply does closes_so) says_so =
        let ends = (replies request rules options wraps asked is).of _ _ _ _ does in
        absurd (cc (gone_only (ends_said request ends (said_before some _ (answer_heard (Some reply.text) closes_so) says_so))))
    key_gone {how} (action_exchanges.refused some held why does closes_so) says_so =
        let ends = (replies request rules options wraps asked is).of _ _ _ _ does in
        let same : Err why ≡ Err (Client (client_error.Gone how)) = gone_only (ends_said request ends (said_before some _ (answer_heard (refusal_line why) closes_so) says_so)) in
        let refusal : why ≡ Client (client_error.Gone how) = cc same in
        ap (λ w. key_went_after (gone_by w)) refusal

-- ---- a prompt is opened first

module _ (rules : Rules) (options : OptionValues) (wraps : WrapKeys) where
  opens : (asked : KeyRequest) → OpensSo (KeyReplies rules options wraps asked)
  unfolding ImportKeyReplies ExportKeyReplies VerifyReplies PasswdReplies DeleteKeyReplies
  opens (on.ImportKey force id) =
      before_opens (each_needed IsUncalled code.Parameter wraps.import) (λ wrap. before_opens (each.receives_key IsUncalled still_uncalled wrap) (λ key. before_opens (each.names_key IsUncalled still_uncalled key)
      (λ grip. before_opens (each.is_free IsUncalled still_uncalled force grip) (λ free. behind_opens
      (prompts_opens (before_prompts (each.looks_over IsUncalled id (λ named turn. tt)) (λ found. otherwise_prompts found (new_by_prompts rules options grip options.mode))))
      (λ pass. each_bind IsUnopening (each.stores_key IsUnopening still_unopening (λ key_grip secret turn. refl) (λ ticket keep turn. refl) (λ named secret turn. refl) options.s2k_count key grip pass)
      (λ cache_nonce. each_returned IsUnopening _))))))
  opens (on.ExportKey grip id) =
      before_opens (each_needed IsUncalled code.Parameter wraps.export) (λ wrap. before_opens (each.reads_file IsUncalled still_uncalled grip) (λ file.
      behind_opens (prompts_opens (old_by_prompts rules options grip id file.key file.key.is_clear)) (λ opened. each_bind IsUnopening (each_closes IsUnopening opened.by (λ number turn. refl))
      (λ closed. each_bind IsUnopening (each.wraps_key IsUnopening still_unopening wrap opened.key)
      (λ wrapped. each_bind IsUnopening (each.told IsUnopening still_unopening wrapped) (λ text. each_returned IsUnopening _))))))
  opens (on.Passwd grip old new true) =
      before_opens (each.reads_file IsUncalled still_uncalled grip) (λ file. behind_opens (prompts_opens (verified_prompts rules options grip file.key file.key.is_clear))
      (λ opened. each_bind IsUnopening (each_closes IsUnopening opened.by (λ number turn. refl)) (λ closed. each_returned IsUnopening _)))
  opens (on.Passwd grip old new false) = before_opens (each.reads_file IsUncalled still_uncalled grip) (λ file. record { of = both_of rules options grip wraps old new file.bytes file.key })
  opens (on.DeleteKey grip force) =
      before_opens (each.finds IsUncalled still_uncalled grip) (λ there. before_opens (each_wanted IsUncalled code.NoSecKey there) (λ some. behind_opens (agrees_opens rules options grip options.mode force)
      (λ agreed. each_bind IsUnopening (each.removes IsUnopening still_unopening grip) (λ removed. each_bind IsUnopening (each_changes IsUnopening (λ turn. refl)) (λ cleared. each_returned IsUnopening _)))))
  opens asked = calls_nobody (plain_replies IsUncalled still_uncalled (λ grip turn. tt) rules options wraps asked tt)

  pub key_opens : (asked : KeyRequest) {events : List Event} {after : WrapKeys} {went : KeyWent} → KeyExchange rules options wraps asked events after went → OpensFirst events
  key_opens asked (action_exchanges.answered events held reply does closes) = then_unopening events _ ((opens asked).of None events (Ok reply) held does) (answer_unopening (Some reply.text) closes)
  key_opens asked (action_exchanges.refused events held why does closes) = then_unopening events _ ((opens asked).of None events (Err why) held does) (answer_unopening (refusal_line why) closes)
