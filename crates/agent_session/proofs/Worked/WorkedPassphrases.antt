-- Worked exchanges: whose their passphrases are, and what stands after a refusal.
use Rattle.std.{specs.Prelude.{⊤, take, drop}, proofs.Common.{◌≡◌, ◌≤◌, ℕ, false, true, List, ◌∷◌, ◌++◌, length, Some, None, Ok, Err, refl, sym, ap, subst, arith, codes, []}}
use Rattle.{arrayvec.specs.ArrayVec.ArrayVec, agent_ask.specs.{Session.{Answering.whole, PortCalls.{PortCall, Prompt, Replaced}}, Events.{PromptEvent, Start, GetPin, Shut, Called}, Plans.{IsSpec, plan_of}}}
use Rattle.agent_ask.specs.{Prompts.{AsksPin, tried, quiet, good, accepted, same}, Session.SessionEvents.{Received, Sent, Inquiry, Port, cache_turn}, Tests.test_of, SessionPrompts.AnyInSession, declared.prompt.spec.AskPlan.AskPlan}
use Rattle.{agent_ask.specs.{declared.prompt.{spec.PromptSpec.PromptSpec, test.Tested.TheVariants.Yes}, Session.Actions.{goes_on, stops, returns, wanted, or_else}}, agent_ports.specs.declared.grip.Grip.Grip, assuan_escape.specs.Escapes.hex_text}
use Rattle.{assuan_server.specs.{Clients.session_lines, Inquiries.Data, Written.{failed, greeting, ok_text, limit_line, IsDataAnswer}, declared.errors.Origin.TheVariants.Agent as OfAgent}, assuan_text.specs.LineEnds.line_of}
use Rattle.{cache_policy.specs.{Turns.{Given, Open, Done, Refused, FitsStep}, declared.{grant.Grant.Grant, life.Life.Life, mark.MarkStep.TheVariants.Close}}, secret_file.specs.Protects.{ocb_protection, protected_file}}
use Rattle.{session_client.specs.{Asking.Asked, declared.refusal.Refusal.TheVariants.Agent}, session_options.specs.{OptionValues.OptionValues, declared.rules.Rules.Rules}, sexp_keys.specs.{Key.Key, Lists.grip_of}}
use Rattle.agent_commands.specs.{Answers.IsSecret, Events.EventWith, Exchanges.{CacheExchange, Presets, put, reply}, Passphrases.{ask_or_open, ByUser, as_wanted}, Requests.{GetFields, get_passphrase, request_of}, Talks.{Session, greeted}}
use Rattle.agent_commands.specs.declared.{request.{CacheCommand.TheVariants.PresetPassphrase, Request.{Request, TheVariants.{Cache, Key as OnKeys}}, Texts.Texts}, went.{SessionEnd.TheVariants.Ended, Went.TheVariants.On}}
use Rattle.key_commands.specs.{Lines.max_key_data, Events.{drew, called}, Exchanges.{KeyExchange, KeyWrapReplies, ImportKeyReplies, key_reply, wrap_key, with_wrap_key}, Actions.Draws, Requests.key_request_of}
use Rattle.{key_commands.specs.{declared.{request.Direction.Direction, keywrap_key.WrapKeys.WrapKeys}, Passphrases.ask_nonce, Wrapping.WrappedSays}, agent_origin.specs.SessionExchanges.{SessionExchange, RequestExchange, cache, keys}}
use Rattle.agent_origin.specs.declared.session_state.SessionState.{SessionState}
use Rattle.agent_session.{specs.{Causes.{Has, here, later}, Imports.{put_nonce, ImportCourse}, OwnPassphrases.{SaysOwn, TellsOfKeys, StoresOwn, StoresOwnIn, keeps}}, proofs.Courses.ImportCourses.import_exchange}
use Rattle.agent_session.proofs.{Causes.KeyExplained.exchange_goes_on, Own.{OwnCache.{cache_own, request_own}, OwnKeys.request_told, OwnActions.{Fit, own_at}}, OwnSessions.{exchange_own, session_own}}
use Rattle.agent_ask.{specs.PinActions.prompted, proofs.WorkedPrompts.any_given}
use Rattle.agent_ask.specs.SessionPrompts as under
use Rattle.agent_ask.specs.declared.prompt.ask.Asked.TheVariants as asked
use Rattle.agent_ask.specs.declared.prompt.prompter.Opened.TheVariants as opened
use Rattle.agent_ask.specs.declared.prompt.prompter.Outcome.TheVariants as outcome
use Rattle.agent_ports.specs.declared.keys.KeyDone.TheVariants as key_done
use Rattle.assuan_line.specs.declared.reader.Took.TheVariants as took
use Rattle.session_client.specs.declared.code.Code.TheVariants as code
use Rattle.session_options.specs.declared.options.PinMode.TheVariants as mode
use Rattle.agent_commands.specs.Exchanges as exchanges
use Rattle.agent_commands.specs.Talks as talks
use Rattle.key_commands.specs.declared.went.KeyWent.TheVariants as key_went
use Rattle.key_commands.specs.KeyActions as actions
use Rattle.agent_ask.specs.Interrupts as interrupts
use Rattle.agent_ask.specs.Session.TurnActions as turning
use Rattle.agent_ask.specs.Session.ClientActions as client_actions
use Rattle.key_commands.specs.Actions as small
use Rattle.agent_ask.specs.Session.ActionExchanges as action_exchange
use Rattle.key_commands.specs.declared.request.KeyRequest.TheVariants as on

-- ---- a passphrase is typed, and kept

module _ (rules : Rules) (kept : SessionState) (id pin : List ℕ) (is_secret : IsSecret pin) (texts : Texts) (spec : PromptSpec) (mode_is : kept.options.mode ≡ mode.Ask) (unnoted : kept.options.notify ≡ false)
    (is_spec : IsSpec rules kept.options texts.description texts.prompt false spec) (pid ticket : ℕ) where
  abbrev fields : GetFields
  fields = record { plain = false; check = false; no_ask = false; repeat = 0; quality = false; id = Some id; texts = Some texts }

  abbrev request : Request
  request = Cache (get_passphrase fields)

  abbrev plan : AskPlan
  plan = plan_of rules kept.options texts.error false 0

  abbrev prompt : List PromptEvent
  prompt = Called (Start spec (opened.Pid pid)) ∷ Called (GetPin texts.error.items (outcome.Pin pin)) ∷ Called Shut ∷ []

  abbrev shown : List (EventWith PortCall)
  shown = Port (Prompt (Called (Start spec (opened.Pid pid)))) ∷ Port (Prompt (Called (GetPin texts.error.items (outcome.Pin pin)))) ∷ Port (Prompt (Called Shut)) ∷ []

  one_try : 1 ≤ 3
  one_try = omega arith

  asks : AsksPin spec plan (λ pin. ⊤) prompt (asked.Pin pin)
  asks = record {
    before = Called (Start spec (opened.Pid pid)) ∷ Called (GetPin texts.error.items (outcome.Pin pin)) ∷ [];
    whole = refl;
    tests = test_of pin Yes ∷ [];
    asks = tried (quiet unnoted) (good one_try (accepted tt tt same));
  }

  in_session : AnyInSession session_lines prompt shown
  in_session = under.called (under.called (under.called under.AnyInSession.none))

  abbrev before_close : List (EventWith PortCall)
  before_close = cache_turn (ask_or_open id) (Open ticket) ∷ shown

  abbrev events : List (EventWith PortCall)
  events = before_close ++ cache_turn (Close ticket (Some pin)) Done ∷ Sent (line_of (ok_text (hex_text pin))) ∷ []

  asked_by : ByUser rules kept.options texts false false 0 (Some id) None (before_close ++ cache_turn (Close ticket (Some pin)) Done ∷ []) (Ok pin) None
  asked_by = goes_on (turning.opened tt) (goes_on (prompted spec is_spec (record { prompt = prompt; asks = asks; in_session = in_session }) any_given) (goes_on (turning.closed Done tt) returns))

  asked_so : CacheExchange rules kept.options request events kept.options On
  asked_so =
      action_exchange.answered (before_close ++ cache_turn (Close ticket (Some pin)) Done ∷ []) None (reply kept.options (line_of (ok_text (hex_text pin))))
      (goes_on (subst (λ m. as_wanted rules kept.options fields m texts None (before_close ++ cache_turn (Close ticket (Some pin)) Done ∷ []) (Ok pin) None) (sym mode_is) asked_by)
      (goes_on (exchanges.tells (record { is = is_secret; written = refl })) returns)) turning.unheld

  exchange : RequestExchange rules kept request events kept On
  exchange = cache asked_so

  fits : Fit events
  fits = (tt, (tt, (tt, (tt, (tt, (tt, tt))))))

  -- it enters the cache by the return of its own ticket
  typed_is_own : StoresOwn rules kept request before_close (Close ticket (Some pin))
  typed_is_own = own_at (StoresOwn rules kept request) [] events before_close (Close ticket (Some pin)) Done (Sent (line_of (ok_text (hex_text pin))) ∷ []) (request_own request exchange fits) refl keeps

  -- and is answered to the request that asked for it
  typed_is_answered : SaysOwn rules kept.options request (before_close ++ cache_turn (Close ticket (Some pin)) Done ∷ []) (line_of (ok_text (hex_text pin)))
  typed_is_answered = (cache_own rules kept request events kept.options On asked_so).1 (before_close ++ cache_turn (Close ticket (Some pin)) Done ∷ []) [] (line_of (ok_text (hex_text pin))) refl

  -- and in a session by that of the line that was read last
  module _ (line : List ℕ) (says : request_of line ≡ request) where
    abbrev all : List (EventWith PortCall)
    all = Sent (line_of greeting) ∷ Received (took.Line line) ∷ (events ++ Received took.End ∷ [])

    line_exchange : SessionExchange rules kept line events kept On
    line_exchange = subst (λ r. RequestExchange rules kept r events kept On) (sym says) exchange

    session : Session (SessionExchange rules) kept all Ended
    session = greeted (talks.Talk.goes_on line (whole line_exchange) talks.Talk.ended)

    typed_is_its_lines : StoresOwnIn rules (SessionExchange rules) kept (Sent (line_of greeting) ∷ Received (took.Line line) ∷ before_close) (Close ticket (Some pin))
    typed_is_its_lines =
        session_own rules (SessionExchange rules) (λ prior other events now went exchanged fits. exchange_own other exchanged fits) session (tt, (tt, (tt, (tt, (tt, (tt, (tt, (tt, (tt, tt)))))))))
        (Sent (line_of greeting) ∷ Received (took.Line line) ∷ before_close) (Sent (line_of (ok_text (hex_text pin))) ∷ Received took.End ∷ []) (Close ticket (Some pin)) Done refl keeps

-- ---- a preset finds no memory, and the session goes on

module _ (rules : Rules) (kept : SessionState) (allowed : rules.allow_preset ≡ true) (id pass : List ℕ) (life : Life) (line : List ℕ) (says : request_of line ≡ Cache (PresetPassphrase id life (Some pass))) where
  abbrev refused : List (EventWith PortCall)
  refused = cache_turn (put id life pass) Refused ∷ Sent (failed code.NoMemory) ∷ []

  refused_so : Presets rules id life (Some pass) None (cache_turn (put id life pass) Refused ∷ []) (Err (Agent code.NoMemory)) None
  refused_so = goes_on {first = []} (subst (λ so. wanted {E = EventWith PortCall} code.NotSupported so None [] (Ok tt) None) (sym allowed) returns) (goes_on returns (turning.interrupted tt interrupts.refused))

  refused_exchange : SessionExchange rules kept line refused kept On
  refused_exchange =
      subst (λ r. RequestExchange rules kept r refused kept On) (sym says)
      (cache (action_exchange.refused (cache_turn (put id life pass) Refused ∷ []) None (Agent code.NoMemory) (stops refused_so) turning.unheld))

  refused_goes_on : On ≡ On
  refused_goes_on = exchange_goes_on rules kept line none_absent refused_exchange code.NoMemory OfAgent (later here) (λ is. cc is)
    where
      none_absent : (grip : Grip) (file : List ℕ) → Has (called (Replaced grip file key_done.Absent)) refused → ⊥
      none_absent grip file (later (later has)) = elim has [ ]

-- ---- a key comes in, and its file can't be replaced

module _ (rules : Rules) (options : OptionValues) (wrap wrapped : List ℕ) (key : Key) (says : WrappedSays wrap wrapped (Ok key)) (grip : Grip) (named : grip.0 ≡ grip_of key) (nonce : List ℕ) (grant : Grant)
    (of_nonce : FitsStep (ask_nonce nonce) (Given grant))
    (drawn : List ℕ) (long : length drawn ≡ 32) where
  abbrev wraps : WrapKeys
  wraps = record { import = Some wrap; export = None }

  abbrev file : List ℕ
  file = protected_file key (ocb_protection key grant.entry.secret (take 8 drawn) (take 12 (drop 8 drawn)) options.s2k_count None) None

  abbrev imports : List (EventWith PortCall)
  imports =
      Sent (limit_line max_key_data) ∷ Inquiry (codes "KEYDATA") [] max_key_data (Asked (Data wrapped)) ∷ cache_turn (ask_nonce nonce) (Given grant) ∷ drew drawn
      ∷ cache_turn (put_nonce drawn grant.entry.secret) Done ∷ called (Replaced grip file key_done.Failed) ∷ []

  import_fails : ImportKeyReplies rules options wraps true (Some nonce) None imports (Err (Agent code.General)) None
  unfolding ImportKeyReplies
  import_fails =
      goes_on returns (goes_on (goes_on client_actions.written (goes_on (actions.asked (client_actions.given refl)) (actions.is_key says))) (goes_on (actions.named named) (goes_on returns
      (goes_on (goes_on (actions.given of_nonce) returns) (stops (goes_on (small.drawn long) (goes_on actions.made (goes_on (turning.done tt) (stops (actions.not_done refl))))))))))

  -- the passphrase stays under the nonce, and nothing is kept for the key
  import_stores : ImportCourse (imports ++ Sent (failed code.General) ∷ [])
  import_stores = import_exchange rules options wraps true (Some nonce) (action_exchange.refused imports None (Agent code.General) import_fails turning.unheld)

-- ---- a wrapping key is drawn, and is told

module _ (rules : Rules) (kept : SessionState) (way : Direction) (line : ArrayVec ℕ) (says : key_request_of line.items ≡ on.KeyWrap way) (fresh : wrap_key way kept.wraps ≡ None) (key text : List ℕ) (long : length key ≡ 16)
    (shows : IsDataAnswer key text) where
  abbrev wraps_now : WrapKeys
  wraps_now = with_wrap_key way key kept.wraps

  draws : KeyWrapReplies rules kept.options kept.wraps way None (drew key ∷ []) (Ok (key_reply wraps_now text)) None
  unfolding KeyWrapReplies
  draws = goes_on (subst (λ had. or_else had (Draws 16) None (drew key ∷ []) (Ok key) None) (sym fresh) (small.drawn long)) (goes_on (actions.tells shows) returns)

  wrap_exchange : KeyExchange rules kept.options kept.wraps (on.KeyWrap way) (drew key ∷ Sent text ∷ []) wraps_now key_went.On
  wrap_exchange = action_exchange.answered (drew key ∷ []) None (key_reply wraps_now text) draws turning.unheld

  -- it is all that is written for the request
  wrap_is_told : TellsOfKeys rules kept (OnKeys line) (drew key ∷ []) text
  wrap_is_told =
      request_told rules kept (OnKeys line) (ap Some says) (keys (subst (λ asked. KeyExchange rules kept.options kept.wraps asked (drew key ∷ Sent text ∷ []) wraps_now key_went.On) (sym says) wrap_exchange))
      (drew key ∷ []) [] text refl
