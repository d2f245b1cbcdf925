-- What requests on keys hand to the cache is their own, and no line of theirs has a passphrase in it: what is written before a reply are notices, and the reply is
-- one of a few.
use Rattle.std.specs.{List.AllByRecursion, Prelude.{not, drop, ⊤}, Option.option_map}
use Rattle.std.proofs.Common.{◌≡◌, ◌==◌, ℕ, Bool, true, false, List, [], ◌∷◌, ◌++◌, length, codes, Option, Some, None, Result, Ok, Err, refl, sym, ap, subst, append-nil, append_assoc}
use Rattle.agent_ask.specs.Session.{PortCalls.PortCall, SessionEvents.{Sent, CacheTurn, cache_turn, said_last}, ClientActions.AsksClient, TurnActions.{Asks, Changes, Closes}, Actions.{needed, or_else, goes_on, returns}}
use Rattle.{agent_ask.{specs.PinActions.prompted, proofs.Within.HoldsOf}, assuan_server.specs.{Clients.session_lines, Written.{refusal_line, limit_line, failed}}, agent_ports.specs.declared.grip.Grip.Grip}
use Rattle.{assuan_escape.specs.Escapes.hex_text, cache_policy.specs.{Turns.Open, declared.{life.Life.TheVariants.Default, mark.MarkStep.{MarkStep, TheVariants.{Close, Put}}, mode.Mode.TheVariants.Nonce}}}
use Rattle.{cache_policy.specs.declared.secret.TheConstants.MAX_SECRET_LEN, secret_file.specs.Opens.{LockedKey, IsLocked}, session_options.specs.declared.{options.PinMode.PinMode, rules.Rules.Rules}, sexp_keys.specs.Key.Key}
use Rattle.agent_commands.specs.{Events.EventWith, declared.{request.Request.{Request, TheVariants.{Cache, Bad, Key as OnKeys}}, went.Went.Went}}
use Rattle.key_commands.specs.Exchanges.{KeyExchange, KeyReplies, HaveKeyReplies, ListGripsReplies, KeyInfoReplies, ListKeysReplies, KeyWrapReplies, DeleteKeyReplies, wrap_key, RewritesFile, ChangesOpened, StoresKey, FoundOrNew}
use Rattle.key_commands.specs.{Exchanges.{ExportKeyReplies, PasswdReplies, VerifyReplies, ImportKeyReplies, KeyReply}, Lines.{max_key_data, IsNotice}, KeyActions.{KeepsNew, ReceivesKey, NamesKey, IsFree, Consents, tells, is_wrapped}}
use Rattle.key_commands.specs.{Actions.{Action, refusal_events, Draws}, Passphrases.{OpensBy, PromptsOld, PromptsNew, ClientOld, UncachedOld, OpensLocked, ClientNew, TakesSeat, TriesFound, Locks, ask_key, put_key, way_of}}
use Rattle.key_commands.specs.{declared.{request.{Direction.Direction, KeyRequest.KeyRequest}, went.KeyWent.KeyWent, keywrap_key.WrapKeys.WrapKeys}, Events.Event}
use Rattle.key_commands.proofs.EachEvent.{each_append, each_shown, IsStill, EachSo, each_bind, each_returned, each_refused, each_wanted, each_seats, each_changes, finds, draws, lists, told, removes, agrees_to}
use Rattle.{key_commands.proofs.EachRequest.{IsKeyWork, each_carries, key_replies, plain_replies}, session_client.specs.{declared.{refusal.Refusal.{Refusal, TheVariants.{Agent, Pinentry, Client}}, code.Code.Code}, Refusals.refusal_code}}
use Rattle.agent_origin.specs.{declared.session_state.SessionState.SessionState, SessionExchanges.{RequestExchange, cache, keys}}
use Rattle.agent_session.specs.Causes.{here, StandIn, on_keys, Unlocks, KeyDataSays, data_says, AsksAny, of_new, of_import, new_plan, IsSent, IsDrawn, IsRead, IsReadLocked, of_export}
use Rattle.agent_session.specs.OwnPassphrases.{KeepsOld, exports, verifies, GivesBy, for_change, for_import, IsAbout, named, brought, by_command, of_key, NamesNew, brings, changes, WantsTicket, by_key, by_seat, HasTicket, has_ticket}
use Rattle.agent_session.specs.OwnPassphrases.{IsAccepted, any, opening, IsGivenNew, StoresOwn, HandsIn, IsWrapKey, TellsOfKeys, TellsOfKeysAlone, nonce_of, imported}
use Rattle.agent_session.proofs.Own.OwnFacts.{sent_more, key_data_more, drawn_more, read_more, locked_more, about_more, ticket_more, accepted_more, given_more, FoundNew, opens_more}
use Rattle.agent_session.proofs.Own.OwnActions.{IsQuiet, kept_none, Fit, AreOwn, own_then, each_quiet, quiet_keeps, OwnSo, owns, own_bind, own_weaker, own_there, own_where, Stays, quiet_with, quietly, quiet_are_own, Anything, own_returned}
use Rattle.agent_session.proofs.{Own.{OwnActions.{own_refused, own_needed, own_wanted}, OwnLines.{in_either, in_first, in_second}}, Causes.{Prompted.has_prompt, KeyRequests.old_passphrase}, AtOnce.FitsTurn}
use Rattle.agent_session.proofs.Standing.{has_left, has_right, each_left, each_right, has_first, stand_all, stand_left, stand_right}
use Rattle.session_client.specs.declared.code.Code.TheVariants as code
use Rattle.session_options.specs.declared.options.PinMode.TheVariants as mode
use Rattle.agent_ask.specs.Session.ActionExchanges as action_exchanges
use Rattle.agent_ask.specs.Session.Actions as chain
use Rattle.agent_ask.specs.Session.TurnActions as turning
use Rattle.key_commands.specs.Passphrases as passphrases
use Rattle.key_commands.specs.declared.request.KeyRequest.TheVariants as on
use Rattle.agent_session.specs.Causes as causes
use Rattle.agent_session.specs.OwnPassphrases as whose
use Rattle.agent_session.proofs.Own.OwnFacts as quiet
use Rattle.agent_session.proofs.Courses.Works as work
use Rattle.assuan_server.specs.declared.errors.Origin.TheVariants as origin
use Rattle.key_commands.specs.KeyActions as key_actions
use Rattle.key_commands.specs.Actions as actions

-- ---- what stays so

pub still_quiet : (event : EventWith PortCall) → IsStill event → IsQuiet event
still_quiet (CacheTurn taken) still = absurd still
still_quiet _ still = tt

-- no ticket is held
abbrev Unheld : List (EventWith PortCall) → Option ℕ → Type 0
Unheld prior held = held ≡ None

pub stand_last : (prior shown : List (EventWith PortCall)) → StandIn shown (prior ++ shown)
stand_last prior shown = record { before = prior; after = []; is = ap (λ x. prior ++ x) (sym (append-nil shown)) }

module _ (rules : Rules) (kept : SessionState) (request : Request) where
  abbrev Mine : List (EventWith PortCall) → MarkStep → Type 0
  Mine = StoresOwn rules kept request

  unheld_stays : Stays Unheld
  unheld_stays = record { of = λ prior more held none. none }

  any_stays : Stays Anything
  any_stays = record { of = λ prior more held so. tt }

  -- none is, or the request's own, where the client wants prompts
  data TicketAt (way : PinMode) (prior : List (EventWith PortCall)) : Option ℕ → Type 0 where
    no_ticket : TicketAt way prior None
    own_ticket : {ticket : ℕ} → way ≡ mode.Ask → HasTicket rules kept request prior ticket → TicketAt way prior (Some ticket)

  ticket_stays_of : (way : PinMode) (prior more : List (EventWith PortCall)) (held : Option ℕ) → TicketAt way prior held → TicketAt way (prior ++ more) held
  ticket_stays_of way prior more held no_ticket = no_ticket
  ticket_stays_of way prior more held (own_ticket is has) = own_ticket is (ticket_more more has)

  ticket_stays : (way : PinMode) → Stays (TicketAt way)
  ticket_stays way = record { of = ticket_stays_of way }

  unheld_ticket : (way : PinMode) (prior : List (EventWith PortCall)) (held : Option ℕ) → held ≡ None → TicketAt way prior held
  unheld_ticket way prior held none = subst (TicketAt way prior) (sym none) no_ticket

  loopback_unheld : (prior : List (EventWith PortCall)) (held : Option ℕ) → TicketAt mode.Loopback prior held → held ≡ None
  loopback_unheld prior held no_ticket = refl
  loopback_unheld prior held (own_ticket is has) = absurd (cc is)

  -- the request's own is
  data Seated (prior : List (EventWith PortCall)) : Option ℕ → Type 0 where
    seated : {ticket : ℕ} → HasTicket rules kept request prior ticket → Seated prior (Some ticket)

  seat_of : {prior : List (EventWith PortCall)} {ticket : ℕ} → Seated prior (Some ticket) → HasTicket rules kept request prior ticket
  seat_of (seated has) = has

  or_own : {A : Type 0} {Pre : List (EventWith PortCall) → Option ℕ → Type 0} {Post : A → List (EventWith PortCall) → Option ℕ → Type 0} {other : Action A} (value : Option A)
      → ((some : A) → value ≡ Some some → (prior : List (EventWith PortCall)) (held : Option ℕ) → Pre prior held → Post some prior held) → (value ≡ None → OwnSo Mine Pre other Post)
      → OwnSo Mine Pre (or_else value other) Post
  or_own None some other = other refl
  or_own (Some value) some other = own_returned Mine value (some value refl)

  asks_client : {Pre : List (EventWith PortCall) → Option ℕ → Type 0} (word : List ℕ) (limit : ℕ) → Stays Pre
      → OwnSo Mine Pre (AsksClient session_lines (limit_line limit) word limit) (λ pass prior held. Pre prior held × IsSent prior word limit pass)
  asks_client word limit stays = own_bind Mine (quietly Mine stays (quiet_keeps (work.writes IsQuiet (λ text. tt) tt))) (λ told. quiet_with Mine stays (quiet.inquires_quiet word limit))

  -- ---- the passphrase that opens a key

  module _ (grip : Grip) (unlocks : Unlocks request grip) where
    module _ (way : PinMode) where
      -- what was opened: where a ticket is held, a prompt accepted its passphrase
      data OpenedAt (by : Option (List ℕ)) (prior : List (EventWith PortCall)) : Option ℕ → Type 0 where
        unheld : OpenedAt by prior None
        by_prompt : {ticket : ℕ} → way ≡ mode.Ask → HasTicket rules kept request prior ticket → ((pass : List ℕ) → by ≡ Some pass → KeepsOld request grip → IsAccepted rules kept.options request prior pass) → OpenedAt by prior (Some ticket)

      unheld_opened : (by : Option (List ℕ)) (prior : List (EventWith PortCall)) (held : Option ℕ) → held ≡ None → OpenedAt by prior held
      unheld_opened by prior held none = subst (OpenedAt by prior) (sym none) unheld

      opened_ticket : (by : Option (List ℕ)) (prior : List (EventWith PortCall)) (held : Option ℕ) → OpenedAt by prior held → TicketAt way prior held
      opened_ticket by prior held unheld = no_ticket
      opened_ticket by prior held (by_prompt is has accepted) = own_ticket is has

    module _ (locked : LockedKey) where
      abbrev Free : List (EventWith PortCall) → Option ℕ → Type 0
      Free prior held = IsReadLocked prior grip locked × (held ≡ None)

      abbrev Ready : PinMode → List (EventWith PortCall) → Option ℕ → Type 0
      Ready way prior held = IsReadLocked prior grip locked × TicketAt way prior held

      free_stays : Stays Free
      free_stays = record { of = λ prior more held so. (locked_more more so.0, so.1) }

      ready_stays : (way : PinMode) → Stays (Ready way)
      ready_stays way = record { of = λ prior more held so. (locked_more more so.0, ticket_stays_of way prior more held so.1) }

      free_ready : (way : PinMode) (prior : List (EventWith PortCall)) (held : Option ℕ) → Free prior held → Ready way prior held
      free_ready way prior held free = (free.0, unheld_ticket way prior held free.1)

      -- a prompt's ticket
      takes_of : (prior : List (EventWith PortCall)) (before : Option ℕ) (events : List (EventWith PortCall)) (result : Result (Unit {0}) Refusal) (after : Option ℕ) → TakesSeat grip before events result after
          → Fit events → Ready mode.Ask prior before → AreOwn Mine prior events × HoldsOf (λ done. IsReadLocked (prior ++ events) grip locked × Seated (prior ++ events) after) result
      takes_of prior None events result after (turning.opened {ticket} can) fits pre =
          (((λ hands. elim hands [ ]), tt), (locked_more _ pre.0, seated (has_ticket (by_seat (named unlocks)) (has_right prior here))))
      takes_of prior None events result after (turning.interrupted can why) fits pre = (((λ hands. elim hands [ ]), tt), tt)
      takes_of prior (Some number) events result after chain.returns fits pre =
          (tt, subst (λ p. IsReadLocked p grip locked × Seated p (Some number)) (sym (append-nil prior)) (pre.0, seat_at pre.1))
        where
          seat_at : TicketAt mode.Ask prior (Some number) → Seated prior (Some number)
          seat_at (own_ticket is has) = seated has

      old_of : (prior : List (EventWith PortCall)) (before : Option ℕ) (events : List (EventWith PortCall)) (result : Result _ Refusal) (after : Option ℕ) → PromptsOld rules kept.options grip locked before events result after
          → Fit events → IsReadLocked prior grip locked × Seated prior before → AreOwn Mine prior events × HoldsOf (λ opened. OpenedAt mode.Ask opened.by (prior ++ events) after) result
      old_of prior before events result after (prompted {shown} spec is prompt (passphrases.opens_by {pin} to)) fits pre = (
        quiet_are_own Mine prior shown (each_shown IsQuiet still_quiet (λ event. tt) prompt.in_session),
        by_prompt refl (ticket_more shown (seat_of pre.1))
            (λ pass same keeps. subst (IsAccepted rules kept.options request (prior ++ shown)) (cc same) (opening keeps (locked_more shown pre.0) (has_prompt prompt (stand_last prior shown)))),
      )
      old_of prior before events result after (prompted {shown} spec is prompt (passphrases.refused refusal)) fits pre = (quiet_are_own Mine prior shown (each_shown IsQuiet still_quiet (λ event. tt) prompt.in_session), tt)

      -- a passphrase that the client gave, and that opens the key, is kept
      abbrev GaveOld : List ℕ → List (EventWith PortCall) → Option ℕ → Type 0
      GaveOld pass prior held = Free prior held × IsSent prior (codes "PASSPHRASE") MAX_SECRET_LEN pass

      gave_stays : (pass : List ℕ) → Stays (GaveOld pass)
      gave_stays pass = record { of = λ prior more held so. (free_stays.of prior more held so.0, sent_more more so.1) }

      put_of : (pass : List ℕ) (prior : List (EventWith PortCall)) (before : Option ℕ) (events : List (EventWith PortCall)) (result : Result (Unit {0}) Refusal) (after : Option ℕ)
          → Changes (put_key grip pass) before events result after → Fit events → GaveOld pass prior before × OpensBy locked pass
          → AreOwn Mine prior events × HoldsOf (λ done. Unheld (prior ++ events) after) result
      put_of pass prior before events result after (turning.done can) fits pre = (((λ hands. whose.sent_old unlocks pre.0.0.0 pre.0.1 pre.1), tt), pre.0.0.1)
      put_of pass prior before events result after (turning.interrupted can why) fits pre = (((λ hands. whose.sent_old unlocks pre.0.0.0 pre.0.1 pre.1), tt), tt)

      opened_by_client : {A : Type 0} (pass : List ℕ) (tried : Option A) → OwnSo Mine (λ prior held. GaveOld pass prior held × ((opened : A) → tried ≡ Some opened → OpensBy locked pass)) (needed code.BadPass tried)
          (λ opened prior held. GaveOld pass prior held × OpensBy locked pass)
      opened_by_client pass tried = own_weaker Mine (own_there Mine code.BadPass tried) (λ opened prior held so. (so.0.0, so.0.1 opened so.1))

      client_old : (way : PinMode) → OwnSo Mine Free (ClientOld rules kept.options grip locked) (λ opened. OpenedAt way opened.by)
      unfolding ClientOld
      client_old way =
          own_bind Mine (asks_client (codes "PASSPHRASE") MAX_SECRET_LEN free_stays) (λ pass. own_bind Mine (quiet_with Mine (gave_stays pass) (quiet.tries_quiet locked pass))
          (λ tried. own_bind Mine (opened_by_client pass tried)
          (λ opened. own_bind Mine (owns Mine (put_of pass)) (λ kept_so. own_returned Mine opened (unheld_opened way opened.by)))))

      uncached_old : (way : PinMode) → OwnSo Mine (Ready way) (UncachedOld rules kept.options grip way locked) (λ opened. OpenedAt way opened.by)
      uncached_old mode.Ask = own_bind Mine (owns Mine takes_of) (λ seated_so. owns Mine old_of)
      uncached_old mode.Cancel = own_refused Mine (Agent code.Cancelled)
      uncached_old mode.Error = own_refused Mine (Agent code.NoPinentry)
      uncached_old mode.Loopback = own_where Mine (λ prior held ready. (ready.0, loopback_unheld prior held ready.1)) (client_old mode.Loopback)

      -- what the cache was asked, and what came of it: nothing, and perhaps a ticket, or something, and none
      data AskedAt (way : PinMode) {A : Type 0} (value : Option A) (prior : List (EventWith PortCall)) (held : Option ℕ) : Type 0 where
        free : Free prior held → AskedAt way value prior held
        missed : value ≡ None → Ready way prior held → AskedAt way value prior held

      asked_ready : (way : PinMode) {A : Type 0} {value : Option A} (prior : List (EventWith PortCall)) (held : Option ℕ) → AskedAt way value prior held → Ready way prior held
      asked_ready way prior held (free so) = free_ready way prior held so
      asked_ready way prior held (missed none ready) = ready

      asked_free : (way : PinMode) {A : Type 0} (value : A) (prior : List (EventWith PortCall)) (held : Option ℕ) → AskedAt way (Some value) prior held → Free prior held
      asked_free way value prior held (free so) = so
      asked_free way value prior held (missed none ready) = absurd (cc none)

      asked_none : (way : PinMode) {A B : Type 0} (prior : List (EventWith PortCall)) (held : Option ℕ) → AskedAt way {A = A} None prior held → AskedAt way {A = B} None prior held
      asked_none way prior held (free so) = free so
      asked_none way prior held (missed none ready) = missed refl ready

      wants_of : (prior : List (EventWith PortCall)) (way : PinMode) (ticket : ℕ) → Fit (cache_turn (ask_key grip (way_of way)) (Open ticket) ∷ []) → (way ≡ mode.Ask) × WantsTicket rules kept request prior (ask_key grip (way_of way))
      wants_of prior mode.Ask ticket fits = (refl, by_key (named unlocks))
      wants_of prior mode.Cancel ticket fits = absurd fits.0
      wants_of prior mode.Error ticket fits = absurd fits.0
      wants_of prior mode.Loopback ticket fits = absurd fits.0

      asks_of : (way : PinMode) (prior : List (EventWith PortCall)) (before : Option ℕ) (events : List (EventWith PortCall)) (result : Result (Option (List ℕ)) Refusal) (after : Option ℕ)
          → Asks (ask_key grip (way_of way)) before events result after → Fit events → Free prior before → AreOwn Mine prior events × HoldsOf (λ cached. AskedAt way cached (prior ++ events) after) result
      asks_of way prior before events result after (turning.given can) fits pre = (((λ hands. elim hands [ ]), tt), free (locked_more _ pre.0, pre.1))
      asks_of way prior before events result after (turning.empty can) fits pre = (((λ hands. elim hands [ ]), tt), free (locked_more _ pre.0, pre.1))
      asks_of way prior before events result after (turning.opened {ticket} can) fits pre =
          let wants = wants_of (prior ++ cache_turn (ask_key grip (way_of way)) (Open ticket) ∷ []) way ticket fits in
          (((λ hands. elim hands [ ]), tt), missed refl (locked_more _ pre.0, own_ticket wants.0 (has_ticket wants.1 (has_right prior here))))
      asks_of way prior before events result after (turning.interrupted can why) fits pre = (((λ hands. elim hands [ ]), tt), tt)

      tries_free : (pass : Option (List ℕ)) → OwnSo Mine Free (TriesFound locked pass) (λ opened. Free)
      tries_free None = own_returned Mine None (λ prior held so. so)
      tries_free (Some pass) = quietly Mine free_stays (quiet_keeps (work.tries IsQuiet tt))

      tries_asked : (way : PinMode) (cached : Option (List ℕ)) → OwnSo Mine (AskedAt way cached) (TriesFound locked cached) (λ opened. AskedAt way opened)
      tries_asked way None = own_returned Mine None (asked_none way)
      tries_asked way (Some pass) = own_weaker Mine (own_where Mine (asked_free way pass) (quietly Mine free_stays (quiet_keeps (work.tries IsQuiet tt)))) (λ opened prior held so. free so)

      after_asked : (way : PinMode) (second : Option _) → OwnSo Mine (AskedAt way second) (or_else second (UncachedOld rules kept.options grip way locked)) (λ opened. OpenedAt way opened.by)
      after_asked way None = own_where Mine (asked_ready way) (uncached_old way)
      after_asked way (Some opened) = own_returned Mine opened (λ prior held so. unheld_opened way opened.by prior held (asked_free way opened prior held so).1)

      opens_locked : (id : Option (List ℕ)) → OwnSo Mine Free (OpensLocked rules kept.options grip id locked) (λ opened. OpenedAt kept.options.mode opened.by)
      unfolding OpensLocked
      opens_locked id =
          own_bind Mine (quietly Mine free_stays (quiet.looks_for_nonce_quiet id)) (λ by_nonce. own_bind Mine (tries_free by_nonce)
          (λ first. or_own first (λ opened is prior held so. unheld_opened kept.options.mode opened.by prior held so.1)
          (λ none. own_bind Mine (owns Mine (asks_of kept.options.mode)) (λ cached. own_bind Mine (tries_asked kept.options.mode cached) (λ second. after_asked kept.options.mode second)))))

    -- a key's file was read, and no ticket is held
    abbrev ReadAt : Key → List (EventWith PortCall) → Option ℕ → Type 0
    ReadAt key prior held = (held ≡ None) × IsRead prior grip (Ok key)

    read_stays : (key : Key) → Stays (ReadAt key)
    read_stays key = record { of = λ prior more held so. (so.0, read_more more so.1) }

    locked_so : (key : Key) (locked : LockedKey) (prior : List (EventWith PortCall)) (held : Option ℕ) → ReadAt key prior held × ((locked.key ≡ key) × IsLocked locked) → Free locked prior held
    locked_so key locked prior held so = (record { key = subst (λ k. IsRead prior grip (Ok k)) (sym so.1.0) so.0.1; protection = so.1.1 }, so.0.0)

    locks_free : (key : Key) → OwnSo Mine (ReadAt key) (Locks key) (λ locked. Free locked)
    locks_free key = own_weaker Mine (quiet_with Mine (read_stays key) (quiet.locks_quiet key)) (locked_so key)

    old_here : (id : Option (List ℕ)) (key : Key) (clear : Bool) → OwnSo Mine (ReadAt key) (passphrases.old_by rules kept.options grip id key clear) (λ opened. OpenedAt kept.options.mode opened.by)
    old_here id key true = own_returned Mine _ (λ prior held so. unheld_opened kept.options.mode None prior held so.0)
    old_here id key false = own_bind Mine (locks_free key) (λ locked. opens_locked locked id)

    verified_here : (key : Key) (clear : Bool) → OwnSo Mine (ReadAt key) (passphrases.verified_by rules kept.options grip key clear) (λ opened. OpenedAt kept.options.mode opened.by)
    verified_here key true = own_returned Mine _ (λ prior held so. unheld_opened kept.options.mode None prior held so.0)
    verified_here key false = own_bind Mine (locks_free key) (λ locked. own_where Mine (free_ready locked kept.options.mode) (uncached_old locked kept.options.mode))

    -- the ticket is given back with what opened the key
    module _ (keeps : KeepsOld request grip) where
      close_own : (by : Option (List ℕ)) (prior : List (EventWith PortCall)) (ticket : ℕ) → HasTicket rules kept request prior ticket
          → ((pass : List ℕ) → by ≡ Some pass → KeepsOld request grip → IsAccepted rules kept.options request prior pass) → HandsIn (Close ticket by) → StoresOwn rules kept request prior (Close ticket by)
      close_own None prior ticket has accepted hands = absurd (kept_none ticket hands)
      close_own (Some pass) prior ticket has accepted hands = whose.accepted has (accepted pass refl keeps)

      opened_own : (way : PinMode) (by : Option (List ℕ)) (prior : List (EventWith PortCall)) (ticket : ℕ) → OpenedAt way by prior (Some ticket) → HandsIn (Close ticket by)
          → StoresOwn rules kept request prior (Close ticket by)
      opened_own way by prior ticket (by_prompt is has accepted) hands = close_own by prior ticket has accepted hands

      closes_of : (way : PinMode) (by : Option (List ℕ)) (prior : List (EventWith PortCall)) (before : Option ℕ) (events : List (EventWith PortCall)) (result : Result (Unit {0}) Refusal) (after : Option ℕ)
          → Closes by before events result after → Fit events → OpenedAt way by prior before → AreOwn Mine prior events × HoldsOf (λ done. Anything (prior ++ events) after) result
      closes_of way by prior before events result after turning.unheld fits pre = (tt, tt)
      closes_of way by prior before events result after (turning.closed {ticket} turn can) fits pre = (((λ hands. opened_own way by prior ticket pre hands), tt), tt)

      closes_own : (way : PinMode) (by : Option (List ℕ)) → OwnSo Mine (OpenedAt way by) (Closes by) (λ done. Anything)
      closes_own way by = owns Mine (closes_of way by)

  -- ---- a new passphrase

  module _ (grip : Grip) (gives : GivesBy request (codes "NEW_PASSPHRASE")) (takes : AsksAny rules kept.options request (new_plan rules kept.options)) where
    -- the key is the request's
    abbrev IsMine : List (EventWith PortCall) → Type 0
    IsMine prior = IsAbout rules kept request prior grip

    -- what a new passphrase is of, by whether the request's ticket is held
    data NewAt (pass : List ℕ) (prior : List (EventWith PortCall)) : Option ℕ → Type 0 where
      by_client : IsSent prior (codes "NEW_PASSPHRASE") MAX_SECRET_LEN pass → NewAt pass prior None
      by_cache : IsGivenNew rules kept request prior pass → NewAt pass prior None
      at_prompt : {ticket : ℕ} → HasTicket rules kept request prior ticket → IsAccepted rules kept.options request prior pass → NewAt pass prior (Some ticket)
      renewed : {ticket : ℕ} {other : Grip} {old new : Option (List ℕ)} → on_keys request ≡ Some (on.Passwd other old new false) → HasTicket rules kept request prior ticket → IsGivenNew rules kept request prior pass
          → NewAt pass prior (Some ticket)

    abbrev MineAt : List ℕ → List (EventWith PortCall) → Option ℕ → Type 0
    MineAt pass prior held = IsMine prior × NewAt pass prior held

    new_stays_of : (pass : List ℕ) (prior more : List (EventWith PortCall)) (held : Option ℕ) → NewAt pass prior held → NewAt pass (prior ++ more) held
    new_stays_of pass prior more held (by_client says) = by_client (sent_more more says)
    new_stays_of pass prior more held (by_cache gave) = by_cache (given_more more gave)
    new_stays_of pass prior more held (at_prompt has accepted) = at_prompt (ticket_more more has) (accepted_more more accepted)
    new_stays_of pass prior more held (renewed is has gave) = renewed is (ticket_more more has) (given_more more gave)

    mine_stays : {Pre : List (EventWith PortCall) → Option ℕ → Type 0} → Stays Pre → Stays (λ prior held. IsMine prior × Pre prior held)
    mine_stays stays = record { of = λ prior more held so. (about_more more so.0, stays.of prior more held so.1) }

    new_stays : (pass : List ℕ) → Stays (MineAt pass)
    new_stays pass = mine_stays (record { of = new_stays_of pass })

    put_new : (pass : List ℕ) (prior : List (EventWith PortCall)) → MineAt pass prior None → StoresOwn rules kept request prior (put_key grip pass)
    put_new pass prior (mine, by_client says) = whose.sent (of_key mine) gives says
    put_new pass prior (mine, by_cache gave) = whose.given_new (of_key mine) gave

    close_new : (pass : List ℕ) (prior : List (EventWith PortCall)) (ticket : ℕ) → MineAt pass prior (Some ticket) → StoresOwn rules kept request prior (Close ticket (Some pass))
    close_new pass prior ticket (mine, at_prompt has accepted) = whose.accepted has accepted
    close_new pass prior ticket (mine, renewed is has gave) = whose.changed is has gave

    keeps_of : (pass : List ℕ) (prior : List (EventWith PortCall)) (before : Option ℕ) (events : List (EventWith PortCall)) (result : Result (Unit {0}) Refusal) (after : Option ℕ) → KeepsNew grip pass before events result after
        → Fit events → MineAt pass prior before → AreOwn Mine prior events × HoldsOf (λ done. Anything (prior ++ events) after) result
    keeps_of pass prior None events result after (turning.done can) fits pre = (((λ hands. put_new pass prior pre), tt), tt)
    keeps_of pass prior None events result after (turning.interrupted can why) fits pre = (((λ hands. put_new pass prior pre), tt), tt)
    keeps_of pass prior (Some number) events result after (turning.closed turn can) fits pre = (((λ hands. close_new pass prior number pre), tt), tt)

    keeps_new : (pass : List ℕ) → OwnSo Mine (MineAt pass) (KeepsNew grip pass) (λ done. Anything)
    keeps_new pass = owns Mine (keeps_of pass)

    takes_new : (prior : List (EventWith PortCall)) (before : Option ℕ) (events : List (EventWith PortCall)) (result : Result (Unit {0}) Refusal) (after : Option ℕ) → TakesSeat grip before events result after
        → Fit events → IsMine prior × TicketAt mode.Ask prior before → AreOwn Mine prior events × HoldsOf (λ done. IsMine (prior ++ events) × Seated (prior ++ events) after) result
    takes_new prior None events result after (turning.opened can) fits pre =
        (((λ hands. elim hands [ ]), tt), (about_more _ pre.0, seated (has_ticket (by_seat (about_more _ pre.0)) (has_right prior here))))
    takes_new prior None events result after (turning.interrupted can why) fits pre = (((λ hands. elim hands [ ]), tt), tt)
    takes_new prior (Some number) events result after chain.returns fits pre = (tt, subst (λ p. IsMine p × Seated p (Some number)) (sym (append-nil prior)) (pre.0, seat_at pre.1))
      where
        seat_at : TicketAt mode.Ask prior (Some number) → Seated prior (Some number)
        seat_at (own_ticket is has) = seated has

    prompts_new_of : (prior : List (EventWith PortCall)) (before : Option ℕ) (events : List (EventWith PortCall)) (result : Result (List ℕ) Refusal) (after : Option ℕ) → PromptsNew rules kept.options grip before events result after
        → Fit events → IsMine prior × Seated prior before → AreOwn Mine prior events × HoldsOf (λ pass. MineAt pass (prior ++ events) after) result
    prompts_new_of prior before events (Ok pass) after (prompted {shown} spec is prompt gives) fits pre = (
      quiet_are_own Mine prior shown (each_shown IsQuiet still_quiet (λ event. tt) prompt.in_session),
      (about_more shown pre.0, at_prompt (ticket_more shown (seat_of pre.1)) (any takes (has_prompt (rw gives.1 at prompt) (stand_last prior shown)))),
    )
    prompts_new_of prior before events (Err why) after (prompted {shown} spec is prompt gives) fits pre = (quiet_are_own Mine prior shown (each_shown IsQuiet still_quiet (λ event. tt) prompt.in_session), tt)

    client_new : OwnSo Mine (λ prior held. IsMine prior × Unheld prior held) ClientNew MineAt
    unfolding ClientNew
    client_new =
        own_bind Mine (asks_client (codes "NEW_PASSPHRASE") MAX_SECRET_LEN (mine_stays unheld_stays)) (λ pass. own_bind Mine (own_wanted Mine code.BadPass (not (length pass == 0)))
        (λ some. own_returned Mine pass (λ prior held so. (so.0.0, subst (NewAt pass prior) (sym so.0.1) (by_client so.1)))))

    new_here : (way : PinMode) → OwnSo Mine (λ prior held. IsMine prior × TicketAt way prior held) (passphrases.new_by rules kept.options grip way) MineAt
    new_here mode.Ask = own_bind Mine (owns Mine takes_new) (λ seated_so. owns Mine prompts_new_of)
    new_here mode.Cancel = own_refused Mine (Agent code.Cancelled)
    new_here mode.Error = own_refused Mine (Agent code.NoPinentry)
    new_here mode.Loopback = own_where Mine (λ prior held so. (so.0, loopback_unheld prior held so.1)) client_new

    -- ---- a key's new file

    rewrites_file : (file : List ℕ) (key : Key) (pass : List ℕ) → OwnSo Mine (MineAt pass) (RewritesFile rules kept.options grip file key pass) (λ done. Anything)
    unfolding RewritesFile
    rewrites_file file key pass =
        own_bind Mine (quietly Mine (new_stays pass) (quiet_keeps (work.draws IsQuiet tt (λ draw. tt)))) (λ drawn. own_bind Mine (quietly Mine (new_stays pass) (quiet_keeps (work.protects IsQuiet tt)))
        (λ list. own_bind Mine (quietly Mine (new_stays pass) (quiet_keeps (work.rewrites IsQuiet tt)))
        (λ new_file. own_bind Mine (quietly Mine (new_stays pass) (quiet_keeps (work.replaces IsQuiet tt (λ answer. tt)))) (λ replaced. keeps_new pass))))

    module _ {old new : Option (List ℕ)} (passwd : on_keys request ≡ Some (on.Passwd grip old new false)) where
      renewed_at : (pass : List ℕ) (prior : List (EventWith PortCall)) (held : Option ℕ) → TicketAt kept.options.mode prior held → IsGivenNew rules kept request prior pass → NewAt pass prior held
      renewed_at pass prior held no_ticket gave = by_cache gave
      renewed_at pass prior held (own_ticket is has) gave = renewed passwd has gave

      abbrev ToRenew : List (EventWith PortCall) → Option ℕ → Type 0
      ToRenew prior held = IsMine prior × TicketAt kept.options.mode prior held

      after_new : (found : Option (List ℕ)) → OwnSo Mine (λ prior held. ToRenew prior held × FoundNew rules kept request found prior) (or_else found (passphrases.new_by rules kept.options grip kept.options.mode)) MineAt
      after_new None = own_where Mine (λ prior held so. so.0) (new_here kept.options.mode)
      after_new (Some pass) = own_returned Mine pass (λ prior held so. (so.0.0, renewed_at pass prior held so.0.1 so.1))

      names_new : (nonce : List ℕ) → new ≡ Some nonce → NamesNew request nonce
      names_new nonce is = changes (subst (λ n. on_keys request ≡ Some (on.Passwd grip old n false)) is passwd)

      changes_opened : (file : List ℕ) (key : Key) → OwnSo Mine ToRenew (ChangesOpened rules kept.options grip new file key) (λ done. Anything)
      changes_opened file key =
          let stays : Stays ToRenew = mine_stays (ticket_stays kept.options.mode) in
          own_bind Mine (quietly Mine stays (quiet_keeps (work.is_short IsQuiet tt)))
          (λ short. own_bind Mine (own_bind Mine (quiet_with Mine stays (quiet.new_nonce_quiet rules kept request new names_new)) after_new) (λ pass. rewrites_file file key pass))

    module _ {force : Bool} {nonce : Option (List ℕ)} (brings_it : on_keys request ≡ Some (on.ImportKey force nonce)) where
      abbrev ToProtect : List (EventWith PortCall) → Option ℕ → Type 0
      ToProtect prior held = IsMine prior × Unheld prior held

      names_brought : (named_so : List ℕ) → nonce ≡ Some named_so → NamesNew request named_so
      names_brought named_so is = brings (subst (λ n. on_keys request ≡ Some (on.ImportKey force n)) is brings_it)

      after_found : (found : Option (List ℕ)) → OwnSo Mine (λ prior held. ToProtect prior held × FoundNew rules kept request found prior) (or_else found (passphrases.new_by rules kept.options grip kept.options.mode)) MineAt
      after_found None = own_where Mine (λ prior held so. (so.0.0, unheld_ticket kept.options.mode prior held so.0.1)) (new_here kept.options.mode)
      after_found (Some pass) = own_returned Mine pass (λ prior held so. (so.0.0, subst (NewAt pass prior) (sym so.0.1) (by_cache so.1)))

      found_or_new : OwnSo Mine ToProtect (FoundOrNew rules kept.options nonce grip) MineAt
      found_or_new = own_bind Mine (quiet_with Mine (mine_stays unheld_stays) (quiet.looks_over_quiet rules kept request nonce names_brought)) after_found

      nonce_own : (pass drawn : List ℕ) (prior : List (EventWith PortCall)) (held : Option ℕ) → NewAt pass prior held → IsDrawn prior 32 drawn
          → StoresOwn rules kept request prior (Put (hex_text (drop 20 drawn)) Nonce Default pass)
      nonce_own pass drawn prior held (by_client says) has = whose.sent (by_command (imported brings_it (nonce_of has))) gives says
      nonce_own pass drawn prior held (by_cache gave) has = whose.given_new (by_command (imported brings_it (nonce_of has))) gave
      nonce_own pass drawn prior held (at_prompt ticket accepted) has = whose.under_nonce brings_it (nonce_of has) accepted
      nonce_own pass drawn prior held (renewed is ticket gave) has = whose.given_new (by_command (imported brings_it (nonce_of has))) gave

      put_drawn_of : (pass drawn : List ℕ) (prior : List (EventWith PortCall)) (before : Option ℕ) (events : List (EventWith PortCall)) (result : Result (Unit {0}) Refusal) (after : Option ℕ)
          → Changes (Put (hex_text (drop 20 drawn)) Nonce Default pass) before events result after → Fit events → MineAt pass prior before × IsDrawn prior 32 drawn
          → AreOwn Mine prior events × HoldsOf (λ done. MineAt pass (prior ++ events) after) result
      put_drawn_of pass drawn prior before events result after (turning.done can) fits pre =
          (((λ hands. nonce_own pass drawn prior before pre.0.1 pre.1), tt), (about_more _ pre.0.0, new_stays_of pass prior _ before pre.0.1))
      put_drawn_of pass drawn prior before events result after (turning.interrupted can why) fits pre = (((λ hands. nonce_own pass drawn prior before pre.0.1 pre.1), tt), tt)

      drawn_stays : (pass drawn : List ℕ) → Stays (λ prior held. MineAt pass prior held × IsDrawn prior 32 drawn)
      drawn_stays pass drawn = record { of = λ prior more held so. ((new_stays pass).of prior more held so.0, drawn_more more so.1) }

      stores_key : (count : ℕ) (key : Key) (pass : List ℕ) → OwnSo Mine (MineAt pass) (StoresKey count key grip pass) (λ done. Anything)
      stores_key count key pass =
          own_bind Mine (quiet_with Mine (new_stays pass) (quiet.draws_quiet 32)) (λ drawn. own_bind Mine (quietly Mine (drawn_stays pass drawn) (quiet_keeps (work.protects IsQuiet tt)))
          (λ file. own_bind Mine (owns Mine (put_drawn_of pass drawn)) (λ cached. own_bind Mine (quietly Mine (new_stays pass) (quiet_keeps (work.replaces IsQuiet tt (λ answer. tt))))
          (λ replaced. own_bind Mine (keeps_new pass) (λ kept_so. own_returned Mine (drop 20 drawn) (λ prior held so. tt))))))

  -- ---- requests

  -- the key that came in
  abbrev Brought : Key → List (EventWith PortCall) → Option ℕ → Type 0
  Brought key prior held = Unheld prior held × KeyDataSays prior rules kept request (Ok key)

  brought_stays : (key : Key) → Stays (Brought key)
  brought_stays key = record { of = λ prior more held so. (so.0, key_data_more more so.1) }

  sent_stays : (wrapped : List ℕ) → Stays (λ prior held. Unheld prior held × IsSent prior (codes "KEYDATA") max_key_data wrapped)
  sent_stays wrapped = record { of = λ prior more held so. (so.0, sent_more more so.1) }

  receives_key : (wrap : List ℕ) → kept.wraps.import ≡ Some wrap → OwnSo Mine Unheld (ReceivesKey wrap) Brought
  receives_key wrap drawn =
      own_bind Mine (quietly Mine unheld_stays (quiet_keeps (work.writes IsQuiet (λ text. tt) tt)))
      (λ told. own_bind Mine (quiet_with Mine unheld_stays quiet.key_data_quiet)
      (λ wrapped. own_weaker Mine (quiet_with Mine (sent_stays wrapped) (quiet.unwraps_quiet wrap wrapped)) (λ key prior held so. (so.0.0, data_says drawn so.0.1 so.1))))

  is_free : {Pre : List (EventWith PortCall) → Option ℕ → Type 0} → Stays Pre → (force : Bool) (grip : Grip) → OwnSo Mine Pre (IsFree force grip) (λ free. Pre)
  is_free stays true grip = own_returned Mine tt (λ prior held so. so)
  is_free stays false grip = own_bind Mine (quietly Mine stays (quiet_keeps (work.finds IsQuiet tt (λ answer. tt)))) (λ there. own_wanted Mine code.FileExists (not there))

  receives_at : (wrap : List ℕ) → OwnSo Mine (λ prior held. Unheld prior held × (kept.wraps.import ≡ Some wrap)) (ReceivesKey wrap) Brought
  receives_at wrap = record { of = λ before events result after does. record { so = λ prior fits pre. ((receives_key wrap pre.1).of before events result after does).so prior fits pre.0 } }

  names_mine : {force : Bool} {nonce : Option (List ℕ)} → on_keys request ≡ Some (on.ImportKey force nonce) → (key : Key)
      → OwnSo Mine (Brought key) (NamesKey key) (λ grip prior held. IsAbout rules kept request prior grip × Unheld prior held)
  names_mine is key = own_weaker Mine (quiet_with Mine (brought_stays key) (quiet.names_quiet key)) (λ grip prior held so. (brought is so.0.1 so.1, so.0.0))

  delete_agrees : (grip : Grip) (way : PinMode) (force : Bool) → EachSo IsQuiet (Consents rules (record kept.options { mode = way }) force grip)
  delete_agrees grip way true = each_returned IsQuiet tt
  delete_agrees grip mode.Ask false = each_bind IsQuiet (each_seats IsQuiet (λ turn hands. elim hands [ ])) (λ seated_so. agrees_to IsQuiet still_quiet (λ event. tt) rules (record kept.options { mode = mode.Ask }) _)
  delete_agrees grip mode.Cancel false = each_refused IsQuiet (Agent code.Cancelled)
  delete_agrees grip mode.Error false = each_refused IsQuiet (Agent code.NoPinentry)
  delete_agrees grip mode.Loopback false = each_refused IsQuiet (Agent code.NoPinentry)

  replies : (asked : KeyRequest) → on_keys request ≡ Some asked → OwnSo Mine Unheld (KeyReplies rules kept.options kept.wraps asked) (λ reply. Anything)
  unfolding ImportKeyReplies ExportKeyReplies VerifyReplies PasswdReplies DeleteKeyReplies
  replies (on.ImportKey force id) is =
      own_bind Mine (own_there Mine code.Parameter kept.wraps.import) (λ wrap. own_bind Mine (receives_at wrap) (λ key. own_bind Mine (names_mine is key)
      (λ grip. own_bind Mine (is_free (mine_stays grip (for_import is) (of_import is) unheld_stays) force grip) (λ free_so. own_bind Mine (found_or_new grip (for_import is) (of_import is) is)
      (λ pass. own_bind Mine (stores_key grip (for_import is) (of_import is) is kept.options.s2k_count key pass) (λ cache_nonce. own_returned Mine _ (λ prior held so. tt)))))))
  replies (on.ExportKey grip id) is =
      let unlocks : Unlocks request grip = causes.exports is in
      own_bind Mine (own_needed Mine code.Parameter kept.wraps.export) (λ wrap. own_bind Mine (quiet_with Mine unheld_stays (quiet.reads_file_quiet grip))
      (λ file. own_bind Mine (old_here grip unlocks id file.key file.key.is_clear) (λ opened. own_bind Mine (closes_own grip unlocks (exports is) kept.options.mode opened.by)
      (λ closed. own_bind Mine (quietly Mine any_stays (quiet_keeps (work.wraps_key IsQuiet tt))) (λ wrapped. own_bind Mine (quietly Mine any_stays (quiet_keeps (work.told IsQuiet tt)))
      (λ text. own_returned Mine _ (λ prior held so. tt)))))))
  replies (on.Passwd grip old new true) is =
      let unlocks : Unlocks request grip = causes.changes is in
      own_bind Mine (quiet_with Mine unheld_stays (quiet.reads_file_quiet grip)) (λ file. own_bind Mine (verified_here grip unlocks file.key file.key.is_clear)
      (λ opened. own_bind Mine (closes_own grip unlocks (verifies is) kept.options.mode opened.by) (λ closed. own_returned Mine _ (λ prior held so. tt))))
  replies (on.Passwd grip old new false) is =
      let unlocks : Unlocks request grip = causes.changes is in
      own_bind Mine (quiet_with Mine unheld_stays (quiet.reads_file_quiet grip)) (λ file. own_bind Mine (old_here grip unlocks old file.key file.key.is_clear)
      (λ opened. own_bind Mine (own_where Mine (λ prior held so. (named unlocks, opened_ticket grip unlocks kept.options.mode opened.by prior held so)) (changes_opened grip (for_change is) (of_new is) is file.bytes opened.key))
      (λ changed_so. own_returned Mine _ (λ prior held so. tt))))
  replies (on.DeleteKey grip force) is =
      each_quiet Mine (each_bind IsQuiet (finds IsQuiet still_quiet grip) (λ there. each_bind IsQuiet (each_wanted IsQuiet code.NoSecKey there) (λ some. each_bind IsQuiet (delete_agrees grip kept.options.mode force)
      (λ agreed. each_bind IsQuiet (removes IsQuiet still_quiet grip) (λ removed. each_bind IsQuiet (each_changes IsQuiet (λ turn hands. elim hands [ ])) (λ cleared. each_returned IsQuiet _))))))
  replies asked is = each_quiet Mine (plain_replies IsQuiet still_quiet (λ grip turn hands. elim hands [ ]) rules kept.options kept.wraps asked tt)

  -- ---- exchanges

  refusal_quiet : (line : Option (List ℕ)) → AllByRecursion IsQuiet (said_last {T = session_lines.Took} {O = session_lines.Outcome} {F = PortCall} line)
  refusal_quiet None = tt
  refusal_quiet (Some line) = (tt, tt)

  back_quiet : {held : Option ℕ} {back : List (EventWith PortCall)} → Closes None held back (Ok tt) None → AllByRecursion IsQuiet back
  back_quiet turning.unheld = tt
  back_quiet (turning.closed turn can) = (kept_none _, tt)

  ended_own : (events back last : List (EventWith PortCall)) → AreOwn Mine [] events → AllByRecursion IsQuiet back → AllByRecursion IsQuiet last → AreOwn Mine [] (events ++ (back ++ last))
  ended_own events back last own back_so last_so = own_then Mine [] events (back ++ last) own (quiet_are_own Mine events (back ++ last) (each_append IsQuiet back last back_so last_so))

  pub key_own : (asked : KeyRequest) → on_keys request ≡ Some asked → {events : List (EventWith PortCall)} {after : WrapKeys} {went : KeyWent} → KeyExchange rules kept.options kept.wraps asked events after went → Fit events
      → AreOwn Mine [] events
  key_own asked is (action_exchanges.answered events held reply {back} does closes_so) fits =
      ended_own events back (Sent reply.text ∷ []) (((replies asked is).of None events (Ok reply) held does).so [] (each_left FitsTurn events _ fits) refl).0 (back_quiet closes_so) (tt, tt)
  key_own asked is (action_exchanges.refused events held why {back} does closes_so) fits =
      ended_own events back (refusal_events why) (((replies asked is).of None events (Err why) held does).so [] (each_left FitsTurn events _ fits) refl).0 (back_quiet closes_so) (refusal_quiet (refusal_line why))

-- ---- what is written before the reply

abbrev IsNoted : Event → Type 0
IsNoted (Sent text) = IsNotice text
IsNoted _ = ⊤

work_noted : (event : Event) → IsKeyWork event → IsNoted event
work_noted (Sent text) work = work
work_noted _ work = tt

back_noted : {held : Option ℕ} {back : List Event} → Closes None held back (Ok tt) None → AllByRecursion IsNoted back
back_noted turning.unheld = tt
back_noted (turning.closed turn can) = (tt, tt)

-- ---- what was drawn

drawn_by : {count : ℕ} {before after : Option ℕ} {more : List Event} {bytes : List ℕ} → Draws count before more (Ok bytes) after → IsDrawn more count bytes
drawn_by (actions.drawn long) = record { long = long; has = here }

drawn_behind : (first : List Event) {more : List Event} {count : ℕ} {bytes : List ℕ} → IsDrawn more count bytes → IsDrawn (first ++ more) count bytes
drawn_behind first drawn_so = record { long = drawn_so.long; has = has_right first drawn_so.has }

module _ (rules : Rules) (kept : SessionState) (request : Request) where
  -- ---- the reply

  wrap_of : (way : Direction) (kept_wrap : Option (List ℕ)) → wrap_key way kept.wraps ≡ kept_wrap → (before after : Option ℕ) {more : List Event} {key : List ℕ} → or_else kept_wrap (Draws 16) before more (Ok key) after
      → IsWrapKey rules kept request more way key
  wrap_of way None is before after draws = whose.drew (drawn_by draws)
  wrap_of way (Some key) is before after returns = whose.had is

  there_is : (why : Code) (found : Option (List ℕ)) (before after : Option ℕ) (more : List Event) {value : List ℕ} → needed why found before more (Ok value) after → found ≡ Some value
  there_is why (Some value) before after more returns = refl
  there_is why None before after more does = elim does [ ]

  more_wrap : {way : Direction} {key : List ℕ} {some : List Event} (more : List Event) → IsWrapKey rules kept request some way key → IsWrapKey rules kept request (some ++ more) way key
  more_wrap more (whose.had is) = whose.had is
  more_wrap more (whose.drew drawn_so) = whose.drew (drawn_more more drawn_so)

  -- the nonce of a key that was stored is what was drawn for it
  stored_nonce : (count : ℕ) (key : Key) (grip : Grip) (pass : List ℕ) {before after : Option ℕ} {more : List Event} {nonce : List ℕ} → StoresKey count key grip pass before more (Ok nonce) after
      → (bytes : List ℕ) × IsDrawn more 32 bytes × (nonce ≡ drop 20 bytes)
  stored_nonce count key grip pass (goes_on {value = bytes} draws (goes_on protects (goes_on puts (goes_on replaces (goes_on keeps returns))))) = (bytes, drawn_more _ (drawn_by draws), refl)

  reply_of : (asked : KeyRequest) → on_keys request ≡ Some asked → (more : List Event) (reply : KeyReply) (held : Option ℕ) → KeyReplies rules kept.options kept.wraps asked None more (Ok reply) held
      → TellsOfKeys rules kept request more reply.text
  unfolding HaveKeyReplies ListGripsReplies KeyInfoReplies ListKeysReplies KeyWrapReplies ImportKeyReplies ExportKeyReplies PasswdReplies VerifyReplies DeleteKeyReplies
  reply_of (on.HaveKey grips) is _ _ _ (goes_on has returns) = whose.succeeds
  reply_of on.ListGrips is _ _ _ (goes_on (key_actions.listed names) (goes_on key_actions.joined (goes_on (tells data_so) returns))) = whose.listed is here names data_so
  reply_of (on.KeyInfo grip) is _ _ _ (goes_on {value = file} reads (goes_on (goes_on {value = is_cached} peeks returns) returns)) = whose.known is_cached file.key.is_clear is
  reply_of on.ListKeys is _ _ _ (goes_on lists (goes_on writes returns)) = whose.succeeds
  reply_of (on.KeyWrap way) is _ _ _ (goes_on draws (goes_on (tells data_so) returns)) = whose.wrap is (more_wrap _ (wrap_of way (wrap_key way kept.wraps) refl _ _ draws)) data_so
  reply_of (on.ImportKey force id) is _ _ _ (goes_on {first = a} wants (goes_on {first = b} receives (goes_on {first = c} names (goes_on {first = d} unused (goes_on {first = e} finds (goes_on {first = f} stores returns)))))) =
      let found = stored_nonce _ _ _ _ stores in
      rw found.2 (whose.drawn is (drawn_behind a (drawn_behind b (drawn_behind c (drawn_behind d (drawn_behind e (drawn_more _ found.1)))))))
  reply_of (on.ExportKey grip id) asked _ _ _ (goes_on {first = a} {events = b} wants (goes_on {first = c} {events = d} (key_actions.is_key {key} found says) (goes_on {first = e} {events = f} {value = opened} does
      (goes_on closes (goes_on is_wrapped (goes_on (tells data_so) returns)))))) =
      let stands = stand_right a b (stand_all (a ++ b)) in
      let comes = old_passphrase rules kept request (a ++ b) grip (causes.exports asked) key.is_clear key id
      (λ nonce same. of_export (subst (λ n. on_keys request ≡ Some (on.ExportKey grip n)) same asked)) (causes.read found says (has_first stands))
      (λ locked is_locked by_id by_key. causes.exported _ asked is_locked by_id by_key) _ e (Ok opened) _ does
      (stand_left e f (stand_right c d stands)) in
      whose.wrapped opened.key asked (there_is _ kept.wraps.export _ _ _ wants) comes.explained data_so
  reply_of (on.Passwd grip old new true) is _ _ _ (goes_on reads (goes_on opens (goes_on closes returns))) = whose.succeeds
  reply_of (on.Passwd grip old new false) is _ _ _ (goes_on reads (goes_on opens (goes_on alters returns))) = whose.succeeds
  reply_of (on.DeleteKey grip force) is _ _ _ (goes_on finds (goes_on there (goes_on agrees (goes_on removes (goes_on clears returns))))) = whose.succeeds
  reply_of (on.Bad why) is _ _ _ does = elim does [ ]

  -- ---- the exchange

  more_told : {some : List Event} {text : List ℕ} (more : List Event) → TellsOfKeys rules kept request some text → TellsOfKeys rules kept request (some ++ more) text
  more_told more (whose.fails why by) = whose.fails why by
  more_told more whose.succeeds = whose.succeeds
  more_told more (whose.notes is) = whose.notes is
  more_told more (whose.listed is has names data_so) = whose.listed is (has_left more has) names data_so
  more_told more (whose.known is_cached clear is) = whose.known is_cached clear is
  more_told more (whose.drawn is drawn_so) = whose.drawn is (drawn_more more drawn_so)
  more_told more (whose.wrap is wraps_so data_so) = whose.wrap is (more_wrap more wraps_so) data_so
  more_told more (whose.wrapped key is there opened data_so) = whose.wrapped key is there (opens_more more opened) data_so

  noted_told : (some : List Event) → AllByRecursion IsNoted some → TellsOfKeysAlone rules kept request some
  noted_told some each front later text is = whose.notes (each_right IsNoted front (Sent text ∷ later) (subst (AllByRecursion IsNoted) is each)).0

  last_told : (first : List Event) (text : List ℕ) → AllByRecursion IsNoted first → TellsOfKeys rules kept request first text → TellsOfKeysAlone rules kept request (first ++ Sent text ∷ [])
  last_told first text each tells_so front later said is =
      elim (in_either first (Sent text ∷ []) front (Sent said) later is) [
        | in_first rest here_is ↦ noted_told first each front rest said here_is
        | in_second rest there here_is ↦ subst (λ f. TellsOfKeys rules kept request f said) (sym there) (at_last rest here_is)
      ]
    where
      at_last : (rest : List Event) → Sent text ∷ [] ≡ rest ++ Sent said ∷ later → TellsOfKeys rules kept request (first ++ rest) said
      at_last [] here_is = let same : text ≡ said = cc here_is in subst (λ t. TellsOfKeys rules kept request (first ++ []) t) same (more_told [] tells_so)
      at_last (event ∷ []) here_is = cc here_is
      at_last (event ∷ second ∷ rest) here_is = cc here_is

  code_told : (first : List Event) (why : Option Code) → AllByRecursion IsNoted first → TellsOfKeysAlone rules kept request (first ++ said_last (option_map failed why))
  code_told first None each = subst (TellsOfKeysAlone rules kept request) (sym (append-nil first)) (noted_told first each)
  code_told first (Some why) each = last_told first (failed why) each (whose.fails why origin.Agent)

  refusal_told : (first : List Event) (why : Refusal) → AllByRecursion IsNoted first → TellsOfKeysAlone rules kept request (first ++ said_last (refusal_line why))
  refusal_told first (Agent why) each = last_told first _ each (whose.fails why origin.Agent)
  refusal_told first (Pinentry why) each = last_told first _ each (whose.fails why origin.Pinentry)
  refusal_told first (Client why) each = code_told first (refusal_code why) each

  noted : (asked : KeyRequest) (some : List Event) (result : Result KeyReply Refusal) (held : Option ℕ) → KeyReplies rules kept.options kept.wraps asked None some result held → AllByRecursion IsNoted some
  noted asked some result held does = (key_replies (each_carries IsNoted work_noted) rules kept.options refl kept.wraps asked).of None some result held does

  pub keys_told : (asked : KeyRequest) → on_keys request ≡ Some asked → {some : List Event} {after : WrapKeys} {went : KeyWent} → KeyExchange rules kept.options kept.wraps asked some after went
      → TellsOfKeysAlone rules kept request some
  keys_told asked is (action_exchanges.answered some held reply {back} does closes) =
      subst (TellsOfKeysAlone rules kept request) (append_assoc some back (Sent reply.text ∷ []))
      (last_told (some ++ back) reply.text (each_append IsNoted some back (noted asked some (Ok reply) held does) (back_noted closes)) (more_told back (reply_of asked is some reply held does)))
  keys_told asked is (action_exchanges.refused some held why {back} does closes) =
      subst (TellsOfKeysAlone rules kept request) (append_assoc some back (said_last (refusal_line why)))
      (refusal_told (some ++ back) why (each_append IsNoted some back (noted asked some (Err why) held does) (back_noted closes)))

pub request_told : (rules : Rules) (kept : SessionState) (request : Request) {asked : KeyRequest} → on_keys request ≡ Some asked → {now : SessionState} {events : List Event} {went : Went} → RequestExchange rules kept request events now went
    → TellsOfKeysAlone rules kept request events
request_told rules kept (Cache command) is exchanged = absurd (cc is)
request_told rules kept (Bad why) is exchanged = absurd (cc is)
request_told rules kept (OnKeys line) is (keys exchanged) = keys_told rules kept (OnKeys line) _ refl exchanged
request_told rules kept (OnKeys line) is (cache exchanged) = elim exchanged [ ]
